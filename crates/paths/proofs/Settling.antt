-- Which places are settled, as a number; offers settle none.
use Prim.Native.Nat.{ℕ, suc, ◌+◌, ◌≤◌, zero-le}
use mathlib.Core.Path.{◌≡◌, refl, sym, ◌∙◌}
use mathlib.Core.Logic.{◌≢◌}
use mathlib.Core.Bool.{Bool, true, false, cond, not}
use native.Mathlib.Nat.{le_refl}
use native.Mathlib.Omega.{arith}
use lib.ListN.{get_or}
use lib.Seq.{get_or-set_same, get_or-set_other}
use lib.Dec.{eqb}
use borrow.Author.Tests.{eqb-true, eqb-false, ne_eqb}
use Rattle.rules.specs.Lists.{indicator}
use Rattle.rules.specs.Forests.{none}
use Rattle.rules.proofs.Occurs.{by_item}
use Rattle.paths.specs.Map.{Map, from_of, to_of, loss_of, IsSpan, Accepted}
use Rattle.paths.specs.Search.{Search, Verdict, unmet, smaller, tie, worse, update, examine, best_at, shown_best}
use Rattle.paths.specs.Table.{is_reached}
use Rattle.paths.proofs.Hiding.{hide_at}
use Rattle.paths.proofs.Invariant.{Settled}
use Rattle.paths.proofs.Offers.{TryingOf, Case, at_unmet, at_smaller}
use Rattle.paths.proofs.Tried.{KeptByOffers}

-- 1 for a settled place: it does not wait, and is met
unfoldable pub is_settled : ℕ → ℕ → ℕ
is_settled w l = cond (eqb w 0) (is_reached l) 0

pub waits_not : (w l : ℕ) → w ≢ 0 → is_settled w l ≡ 0
unfolding is_settled
waits_not w l n = rw (ne_eqb w 0 n)

pub not_settled : (w l : ℕ) → ((w ≡ 0) × (l ≢ none) → ⊥) → is_settled w l ≡ 0
unfolding is_settled is_reached
not_settled w l f = go (eqb w 0) (eqb l none) refl refl
  where
    go : (a b : Bool) → eqb w 0 ≡ a → eqb l none ≡ b → ◌≡◌ {A = ℕ} (cond a (indicator (not b)) 0) 0
    go true true p q = refl
    go true false p q = absurd (f (eqb-true w 0 p, eqb-false l none q))
    go false b p q = refl

pub is_settled_lem : (l : ℕ) → l ≢ none → is_settled 0 l ≡ 1
unfolding is_settled is_reached
is_settled_lem l n = rw (ne_eqb l none n)

pub settled_is : (w l : ℕ) → 1 ≤ is_settled w l → (w ≡ 0) × (l ≢ none)
unfolding is_settled is_reached
settled_is w l = go (eqb w 0) (eqb l none) refl refl
  where
    go : (a b : Bool) → eqb w 0 ≡ a → eqb l none ≡ b → 1 ≤ cond a (indicator (not b)) 0 → (w ≡ 0) × (l ≢ none)
    go true true p q h = absurd (omega arith)
    go true false p q h = (eqb-true w 0 p, eqb-false l none q)
    go false b p q h = absurd (omega arith)

pub settled_le : (w l : ℕ) → is_settled w l ≤ 1
unfolding is_settled is_reached
settled_le w l = go (eqb w 0) (eqb l none)
  where
    go : (a b : Bool) → cond a (indicator (not b)) 0 ≤ 1
    go true true = zero-le
    go true false = le_refl 1
    go false b = zero-le

abbrev pub settled_at : Search → ℕ → ℕ
settled_at s q = is_settled (get_or s.queue.waits q 0) (best_at s q)

-- in the table, as it is shown, the reached places are the settled ones
pub shown_settled : (s : Search) (q : ℕ) → is_reached (get_or (shown_best s) q none) ≡ settled_at s q
unfolding is_settled is_reached
shown_settled s q = rw (hide_at s.queue.waits s.best q) (go (eqb (get_or s.queue.waits q 0) 0))
  where
    go : (t : Bool) → is_reached (cond t (best_at s q) none) ≡ cond t (is_reached (best_at s q)) 0
    go true = refl
    go false = refl

-- A place that is settled after an offer was so before, with the same loss: the place that gains by one waits.
module _
    (m : Map) (A : Accepted m) (u d hu k r : ℕ) (s : Search) (T : TryingOf m u d hu k r s) (is : IsSpan m k)
    (fu : from_of m k ≡ u) where
  abbrev p : ℕ
  p = to_of m k

  abbrev l : ℕ
  l = d + loss_of m k

  abbrev h : ℕ
  h = suc hu

  pub record StaysSettled (s' : Search) (q : ℕ) : Type 0 where
    pub settled : Settled s.queue.waits s.best q
    pub loss : best_at s' q ≡ best_at s q

  pub stays_settled : (v : Verdict) → Case s p l h k v → (q : ℕ) →
      let s' : Search = update v p l h k (examine s) in
      Settled s'.queue.waits s'.best q → StaysSettled s' q
  unfolding update
  stays_settled unmet (at_unmet z o) =
      by_item p
      (λ t. absurd (omega (
        arith,
        get_or-set_same s.queue.waits p 1 0 (omega (arith, T.invariant.waits_n, A.to_in k is.0)),
        t.0,
      )))
      (λ q n t.
      let b = get_or-set_other s.best p q l none n in
      record {
        settled = (sym (get_or-set_other s.queue.waits p q 1 0 n) ∙ t.0, rw b at t.1);
        loss = b;
      })
  stays_settled smaller (at_smaller _ o w _) =
      by_item p (λ t. absurd (omega (arith, w, t.0)))
      (λ q n t. let b = get_or-set_other s.best p q l none n in record { settled = (t.0, rw b at t.1); loss = b })
  stays_settled tie c = λ q t. record { settled = t; loss = refl }
  stays_settled worse c = λ q t. record { settled = t; loss = refl }

-- offers settle no place
pub update_settles : (m : Map) → Accepted m → (f : ℕ → ℕ) → KeptByOffers m (λ s. (q : ℕ) → settled_at s q ≡ f q)
unfolding update
update_settles m A f = record { examined = λ _ _ _ _ _ s _ h. h; offered = offered }
  where
    offered : (u d hu k r : ℕ) (s : Search) → TryingOf m u d hu k r s → IsSpan m k → from_of m k ≡ u → (v : Verdict)
        → Case s (to_of m k) (d + loss_of m k) (suc hu) k v → ((q : ℕ) → settled_at s q ≡ f q) → (q : ℕ)
        → settled_at (update v (to_of m k) (d + loss_of m k) (suc hu) k (examine s)) q ≡ f q
    offered u d hu k r s T is fu v c t = go v c
      where
        p : ℕ
        p = to_of m k

        l : ℕ
        l = d + loss_of m k

        h : ℕ
        h = suc hu

        one : get_or s.queue.waits p 0 ≡ 1 → (x : ℕ) → is_settled (get_or s.queue.waits p 0) x ≡ f p
        one w x = waits_not _ x (λ e. omega (arith, w)) ∙ sym (waits_not _ (best_at s p) (λ e. omega (arith, w))) ∙ t p

        go : (v : Verdict) → Case s p l h k v → (q : ℕ) → settled_at (update v p l h k (examine s)) q ≡ f q
        go unmet (at_unmet z o) =
            let i = get_or-set_same s.queue.waits p 1 0 (omega (arith, T.invariant.waits_n, A.to_in k is.0)) in
            by_item p
            (rw i (waits_not 1 _ (λ e. omega arith))
            ∙ sym (not_settled (get_or s.queue.waits p 0) (best_at s p) (λ x. x.1 z)) ∙ t p)
            (λ q n. rw (get_or-set_other s.queue.waits p q 1 0 n, get_or-set_other s.best p q l none n) (t q))
        go smaller (at_smaller _ o w _) =
            by_item p (one w _) (λ q n. rw (get_or-set_other s.best p q l none n) (t q))
        go tie c = t
        go worse c = t
