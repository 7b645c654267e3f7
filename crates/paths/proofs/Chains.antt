-- The invariant against all chains: no chain does better than the losses found, and chains attain them.
use Prim.Native.Nat.{ℕ, zero, suc, ◌+◌, ◌≤◌, ◌<◌}
use mathlib.Core.Path.{◌≡◌, refl, sym}
use mathlib.Core.Logic.{◌≢◌}
use mathlib.Core.List.{List, [], ◌∷◌}
use mathlib.Core.Bool.{Bool, true, false, cond}
use native.Mathlib.Nat.{le_refl}
use native.Mathlib.Omega.{arith}
use lib.ListN.{get_or}
use lib.Dec.{eqb, leb}
use borrow.Author.Tests.{eqb-true, eqb-false, leb-true, leb-false}
use Rattle.rules.specs.Lists.{sum_by}
use Rattle.rules.specs.Forests.{none}
use Rattle.paths.specs.Map.{Map, spans, from_of, to_of, loss_of, Accepted}
use Rattle.paths.specs.Chains.{Chain, chain_loss, hops, AsGood}
use Rattle.paths.specs.Table.{
  Limit,
  unlimited,
  up_to,
  WithinLimit,
  Reached,
  Entry,
  at_start,
  reached,
  unreached,
}
use Rattle.paths.specs.Search.{hide_waiting}
use Rattle.paths.proofs.Hiding.{hide_at}
use Rattle.paths.proofs.Judge.{NoWorse}
use Rattle.paths.proofs.Invariant.{Waits, Met, Settled, Invariant}

-- A search has halted by a limit: what waits is beyond it, and what is settled is within.
pub record Halted (limit : Limit) (waits best : List ℕ) : Type 0 where
  pub out : (q : ℕ) → Waits waits q → WithinLimit limit (get_or best q none) → ⊥
  pub inside : (q : ℕ) → Settled waits best q → WithinLimit limit (get_or best q none)

-- a loss within a limit is smaller than one beyond it
apart : (limit : Limit) (x y : ℕ) → WithinLimit limit x → (WithinLimit limit y → ⊥) → x < y
apart unlimited x y i o = absurd (o tt)
apart (up_to b) x y i o = go (leb y b) refl
  where
    go : (t : Bool) → leb y b ≡ t → x < y
    go true e = absurd (o (leb-true y b e))
    go false e = omega (arith, leb-false y b e)

-- p has no more than the loss t, and if as much, no more than h spans
abbrev AtMost : List ℕ → List ℕ → ℕ → ℕ → ℕ → Type 0
AtMost best joints p t h = (get_or best p none ≤ t) × (get_or best p none ≡ t → get_or joints p none ≤ h)

-- p is settled, and has no more than the chain c
record Covered (m : Map) (waits best joints : List ℕ) (p : ℕ) (c : List ℕ) : Type 0 where
  is : Settled waits best p
  most : AtMost best joints p (chain_loss m c) (hops c)

-- a chain leads to p at loss l, over h spans
record Attained (m : Map) (p l h : ℕ) : Type 0 where
  chain : List ℕ
  leads : Chain m chain p
  loss : chain_loss m chain ≡ l
  count : hops chain ≡ h

module _
    (m : Map) (A : Accepted m) (u d : ℕ) (waits key best last joints : List ℕ)
    (I : Invariant m u d (spans m) waits key best last joints) where
  -- a met place's loss fits its word, and is not none
  pub met_small : (p : ℕ) → Met best p → get_or best p none ≤ 4096000000
  met_small p n = omega (arith, I.small p n, A.few)

  -- A chain whose loss is below all that wait leads to a settled place, which has no more loss than the chain, and if
  -- as much, no more spans.
  covers : (limit : ℕ) → ((q : ℕ) → Waits waits q → limit < get_or best q none) → (c : List ℕ) (p : ℕ) → Chain m c p
      → chain_loss m c ≤ limit → Covered m waits best joints p c
  unfolding chain_loss sum_by
  covers b w [] p e k = rw e (go (eqb (get_or waits m.start 0) 0) refl)
    where
      z : get_or best m.start none ≡ 0
      z = I.begun.0

      go : (t : Bool) → eqb (get_or waits m.start 0) 0 ≡ t → Covered m waits best joints m.start []
      go true q =
          record {
            is = (eqb-true (get_or waits m.start 0) 0 q, λ n. omega (arith, z));
            most = (omega (arith, z), λ _. omega (arith, I.begun.2));
          }
      go false q = absurd (omega (arith, z, w m.start (eqb-false (get_or waits m.start 0) 0 q)))
  covers b w (e ∷ c) p h k =
      rw (sym h.1) (go (eqb (get_or waits (to_of m e) 0) 0) refl (covers b w c (from_of m e) h.2 (omega arith)))
    where
      go : (t : Bool) → eqb (get_or waits (to_of m e) 0) 0 ≡ t → Covered m waits best joints (from_of m e) c
          → Covered m waits best joints (to_of m e) (e ∷ c)
      go true q C =
          let R = I.relaxed e h.0 C.is (λ _. h.0.0) in
          let n : Met best (to_of m e) =
          λ n. omega (arith, R.le, met_small (from_of m e) C.is.1, A.high e h.0.0) in
          record {
            is = (eqb-true (get_or waits (to_of m e) 0) 0 q, n);
            most = (
              omega (arith, C.most.0, R.le),
              λ z.
                  omega (
                    arith,
                    (R.tie (omega (arith, C.most.0, R.le, z))).0,
                    C.most.1 (omega (arith, C.most.0, R.le, z)),
                  ),
            );
          }
      go false q C =
          absurd
          (omega (
            arith,
            w (to_of m e) (eqb-false (get_or waits (to_of m e) 0) 0 q),
            C.most.0,
            (I.relaxed e h.0 C.is (λ _. h.0.0)).le,
          ))

  -- A met place has a chain of its loss and its number of spans: back along the spans that gave the losses, which fall.
  attains : (n p : ℕ) → Met best p → get_or best p none < n → Attained m p (get_or best p none) (get_or joints p none)
  unfolding chain_loss sum_by
  attains zero p a k = absurd (omega arith)
  attains (suc n) p a k = go (eqb p m.start) refl (attains n)
    where
      go : (t : Bool) → eqb p m.start ≡ t
          → ((q : ℕ) → Met best q → get_or best q none < n → Attained m q (get_or best q none) (get_or joints q none))
          → Attained m p (get_or best p none) (get_or joints p none)
      go true q ih =
          let e : p ≡ m.start = eqb-true p m.start q in
          record { chain = []; leads = e; loss = rw e (sym I.begun.0); count = rw e (sym I.begun.2) }
      go false q ih =
          let G = I.given p a (eqb-false p m.start q) in
          let e : ℕ = get_or last p none in
          let t = ih (from_of m e) G.origin.1 (omega (arith, G.sum, A.low e G.is.0)) in
          record {
            chain = e ∷ t.chain;
            leads = (G.is, G.to, t.leads);
            loss = omega (arith, t.loss, G.sum);
            count = omega (arith, t.count, G.count);
          }

  -- All that waits is beyond b, and p's loss is not: what is shown at p is final.
  module _ (b : ℕ) (w : (q : ℕ) → Waits waits q → b < get_or best q none) (p : ℕ) (within : get_or best p none ≤ b) where
    cheapest : (c : List ℕ) → Chain m c p → AtMost best joints p (chain_loss m c) (hops c)
    cheapest c h = go (leb (chain_loss m c) b) refl
      where
        go : (t : Bool) → leb (chain_loss m c) b ≡ t → AtMost best joints p (chain_loss m c) (hops c)
        go true e = (covers b w c p h (leb-true (chain_loss m c) b e)).most
        go false e = let o = leb-false (chain_loss m c) b e in (omega (arith, o), λ z. absurd (omega (arith, o, z)))

    -- a span that ends a chain of p's loss and number of spans was tried
    lowest : (f : ℕ) (c : List ℕ) → Chain m (f ∷ c) p → chain_loss m (f ∷ c) ≡ get_or best p none
        → hops (f ∷ c) ≡ get_or joints p none → get_or last p none ≤ f
    unfolding chain_loss sum_by
    lowest f c h has over =
        let C = covers b w c (from_of m f) h.2 (omega (arith, has)) in
        let R = I.relaxed f h.0 C.is (λ _. h.0.0) in
        let l : get_or best p none ≤ get_or best (from_of m f) none + loss_of m f = rw h.1 at R.le in
        let t : get_or best p none ≡ get_or best (from_of m f) none + loss_of m f
        → NoWorse (get_or joints p none) (get_or last p none) (suc (get_or joints (from_of m f) none)) f =
        rw h.1 at R.tie in
        let v = t (omega (arith, l, C.most.0, has)) in
        let q = C.most.1 (omega (arith, l, C.most.0, has)) in
        v.1 (omega (arith, v.0, q, over))

    is_reached_lem : Met best p → p ≢ m.start → Reached m p (get_or best p none) (get_or last p none) (get_or joints p none)
    unfolding AsGood chain_loss sum_by
    is_reached_lem a n =
        let G = I.given p a n in
        let e : ℕ = get_or last p none in
        let t = attains (suc (get_or best (from_of m e) none)) (from_of m e) G.origin.1 (le_refl _) in
        let has : chain_loss m (e ∷ t.chain) ≡ get_or best p none = omega (arith, t.loss, G.sum) in
        let over : hops (e ∷ t.chain) ≡ get_or joints p none = omega (arith, t.count, G.count) in
        let leads : Chain m (e ∷ t.chain) p = (G.is, G.to, t.leads) in
        record {
          before = t.chain;
          least =
              record {
                leads = leads;
                least =
                    λ c h.
                    let g = cheapest c h in
                    (omega (arith, g.0, has), λ z. omega (arith, g.1 (omega (arith, has, z)), over));
              };
          loss = has;
          count = over;
          lowest =
              λ f c L.
              let g = cheapest (f ∷ c) L.leads in
              let o = L.least (e ∷ t.chain) leads in
              lowest f c L.leads (omega (arith, g.0, o.0, has))
              (omega (arith, g.1 (omega (arith, g.0, o.0, has)), o.1 (omega (arith, g.0, o.0, has)), over));
        }

    final : (limit : Limit) → WithinLimit limit (get_or best p none) → Met best p
        → Entry limit m p (get_or best p none) (get_or last p none) (get_or joints p none)
    final limit i a = go (eqb p m.start) refl
      where
        go : (t : Bool) → eqb p m.start ≡ t
            → Entry limit m p (get_or best p none) (get_or last p none) (get_or joints p none)
        go true q =
            let e : p ≡ m.start = eqb-true p m.start q in
            at_start e (rw e I.begun.0) (rw e I.begun.1) (rw e I.begun.2)
        go false q = let n : p ≢ m.start = eqb-false p m.start q in reached n (is_reached_lem a n) i

  -- The search has halted by a limit: a chain within it leads to a settled place, and what is shown there is final.
  module _ (limit : Limit) (H : Halted limit waits best) (p : ℕ) where
    above : (b : ℕ) → WithinLimit limit b → (q : ℕ) → Waits waits q → b < get_or best q none
    above b i q w = apart limit b (get_or best q none) i (H.out q w)

    pub leads_settled : (c : List ℕ) → Chain m c p → WithinLimit limit (chain_loss m c) → Settled waits best p
    leads_settled c h i = (covers (chain_loss m c) (above (chain_loss m c) i) c p h (le_refl _)).is

    pub entry_shown : Entry limit m p (get_or (hide_waiting waits best) p none) (get_or (hide_waiting waits last) p none)
        (get_or (hide_waiting waits joints) p none)
    entry_shown =
        rw (hide_at waits best p, hide_at waits last p, hide_at waits joints p) (go (eqb (get_or waits p 0) 0) refl)
      where
        go : (t : Bool) → eqb (get_or waits p 0) 0 ≡ t
            → Entry limit m p (cond t (get_or best p none) none) (cond t (get_or last p none) none)
            (cond t (get_or joints p none) none)
        go false q =
            unreached (λ c h i. eqb-false (get_or waits p 0) 0 q (leads_settled c h i).0) refl refl refl
        go true q = shown (eqb (get_or best p none) none) refl
          where
            shown : (t : Bool) → eqb (get_or best p none) none ≡ t
                → Entry limit m p (get_or best p none) (get_or last p none) (get_or joints p none)
            shown true r =
                let e : get_or best p none ≡ none = eqb-true (get_or best p none) none r in
                let n = I.unmet p e in
                unreached (λ c h i. (leads_settled c h i).1 e) e n.0 n.1
            shown false r =
                let a : Met best p = eqb-false (get_or best p none) none r in
                let i = H.inside p (eqb-true (get_or waits p 0) 0 q, a) in
                final (get_or best p none) (above (get_or best p none) i) p (le_refl _) limit i a
