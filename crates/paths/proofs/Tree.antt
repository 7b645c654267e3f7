-- The table is a tree: the spans shown, followed back from a place, lead to the start and are a least chain.
use Prim.Native.Nat.{ℕ, zero, suc, ◌<◌}
use mathlib.Core.Path.{◌≡◌, refl, ap}
use mathlib.Core.Logic.{◌≢◌}
use mathlib.Core.List.{List, ◌∷◌}
use native.Mathlib.Omega.{arith}
use lib.ListN.{get_or}
use Rattle.rules.specs.Lists.{sum_by}
use Rattle.rules.specs.Forests.{none}
use Rattle.paths.specs.Map.{Map, from_of, Accepted}
use Rattle.paths.specs.Chains.{Chain, chain_loss, hops}
use Rattle.paths.specs.Table.{Limit, WithinLimit, Reached, Entry, at_start, reached, unreached, Table}
use Rattle.paths.specs.Theorems.{spans_back, place_back, LeadsBack, TableTree}
use Rattle.paths.proofs.Least.{less_within, least_like, least_start, least_before, entry_chain, entry_least}

module _ (m : Map) (last : List ℕ) where
  length_back : (k p : ℕ) → hops (spans_back m last k p) ≡ k
  unfolding spans_back
  length_back zero p = refl
  length_back (suc k) p = ap suc (length_back k _)

  -- the start is reached from itself in no step
  at_start_lem : (p : ℕ) → p ≡ m.start → LeadsBack m last p 0 0
  unfolding spans_back place_back chain_loss sum_by
  at_start_lem p a =
      record { ends = a; not_before = λ k h. absurd (omega arith); least = rw a (least_start m); loss = refl }

  -- A place that is reached by span e leads back in one step more than the place that e comes from: what is followed
  -- from there is as good as the least chain before e.
  module _ (p l h : ℕ) (away : p ≢ m.start) (R : Reached m p l (get_or last p none) (suc h)) where
    not_before_lem : ((k : ℕ) → k < h → place_back m last k (from_of m (get_or last p none)) ≢ m.start)
        → (k : ℕ) → k < suc h → place_back m last k p ≢ m.start
    unfolding place_back
    not_before_lem n zero i = away
    not_before_lem n (suc k) i = n k (omega arith)

    one_more : LeadsBack m last (from_of m (get_or last p none)) (chain_loss m R.before) h → LeadsBack m last p l (suc h)
    unfolding spans_back place_back chain_loss sum_by
    one_more B =
        let e : ℕ = get_or last p none in
        let c : List ℕ = spans_back m last h (from_of m e) in
        let L = R.least.leads in
        record {
          ends = B.ends;
          not_before = not_before_lem B.not_before;
          least =
              least_like m p (e ∷ R.before) (e ∷ c) R.least (L.0, L.1, B.least.leads) (omega (arith, B.loss))
              (omega (arith, length_back h (from_of m e), R.count));
          loss = omega (arith, B.loss, R.loss);
        }

module _
    (limit : Limit) (m : Map) (A : Accepted m) (best last joints : List ℕ) (T : Table limit m best last joints) where
  abbrev EntryAt : ℕ → Type 0
  EntryAt p = Entry limit m p (get_or best p none) (get_or last p none) (get_or joints p none)

  -- what is proved by induction on h: of the places that show h spans, those that have a chain within the limit
  abbrev Back : ℕ → Type 0
  Back h =
      (p : ℕ) → p < m.places → get_or joints p none ≡ h → (c : List ℕ) → Chain m c p → WithinLimit limit (chain_loss m c)
      → LeadsBack m last p (get_or best p none) h

  -- the place that the span shown comes from shows the loss and the number of spans of the least chain before it
  via : (h p : ℕ) → p ≢ m.start → Reached m p (get_or best p none) (get_or last p none) (suc h)
      → WithinLimit limit (get_or best p none) → Back h → LeadsBack m last p (get_or best p none) (suc h)
  unfolding chain_loss sum_by
  via h p away R j ih =
      let e : ℕ = get_or last p none in
      let q : ℕ = from_of m e in
      let k : q < m.places = A.from_in e R.least.leads.0.0 in
      let L = least_before m p e R.before R.least in
      let i = less_within limit (chain_loss m R.before) (get_or best p none) (omega (arith, R.loss)) j in
      let s = entry_least limit m q _ _ _ R.before L i (T.entries q k) in
      one_more m last p _ h away R
      (rw s.0 at (ih q k (omega (arith, s.1, R.count)) R.before L.leads i))

  back : (h : ℕ) → Back h
  back zero p k z c leads i = go (T.entries p k)
    where
      go : EntryAt p → LeadsBack m last p (get_or best p none) 0
      go (at_start a x y w) = rw x (at_start_lem m last p a)
      go (reached o R j) = absurd (omega (arith, R.count))
      go (unreached f x y w) = absurd (f c leads i)
  back (suc h) p k z c leads i = go (back h) (T.entries p k)
    where
      go : Back h → EntryAt p → LeadsBack m last p (get_or best p none) (suc h)
      go ih (at_start a x y w) = absurd (omega arith)
      go ih (reached o R j) = via h p o (rw z at R) j ih
      go ih (unreached f x y w) = absurd (f c leads i)

pub table_tree : TableTree
table_tree limit m A best last joints T p k n =
    let c = entry_chain limit m p _ _ _ n (T.entries p k) in
    back limit m A best last joints T (get_or joints p none) p k refl c.0 c.1 c.2
