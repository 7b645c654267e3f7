-- At the end of a search with a budget the places that wait are those with losses beyond it, so to hide by the losses
-- is to hide what waits.
use Prim.Native.Nat.{ℕ}
use mathlib.Core.Path.{◌≡◌, refl, sym, ◌∙◌}
use mathlib.Core.List.{List}
use mathlib.Core.Bool.{Bool, true, false, cond}
use native.Mathlib.Omega.{arith}
use lib.ListN.{length, get_or}
use lib.Seq.{ext_get_or}
use lib.Dec.{eqb, ltb}
use borrow.Author.Tests.{eqb-true, eqb-false, ltb-true, ltb-false}
use Rattle.rules.specs.Forests.{none}
use Rattle.paths.specs.Map.{Map, Accepted}
use Rattle.paths.specs.Table.{up_to}
use Rattle.paths.specs.Search.{Search, beyond, find, hide_waiting, shown_best, shown_last, shown_joints, best_at}
use Rattle.paths.proofs.Hiding.{length_hide, hide_at}
use Rattle.paths.proofs.Steps.{search_between}
use Rattle.paths.proofs.Halting.{search_halted}
use Rattle.finder.proofs.HideBeyond.{hidden, hidden_at}

module _ (budget : ℕ) (m : Map) (A : Accepted m) where
  abbrev s : Search
  s = find (up_to budget) m

  best_n : length s.best ≡ m.places
  best_n = (search_between (beyond (up_to budget)) m A).invariant.best_n

  -- A place beyond the budget waits or is not met, and one that is not met has no word to hide.
  same_word : (p x : ℕ) → (best_at s p ≡ none → x ≡ none)
      → cond (ltb budget (best_at s p)) none x ≡ cond (eqb (get_or s.queue.waits p 0) 0) x none
  same_word p x f = go (ltb budget (best_at s p)) refl (eqb (get_or s.queue.waits p 0) 0) refl
    where
      unmet : get_or s.queue.waits p 0 ≡ 0 → ltb budget (best_at s p) ≡ true → (t : Bool) → eqb (best_at s p) none ≡ t
          → none ≡ x
      unmet z b true e = sym (f (eqb-true (best_at s p) none e))
      unmet z b false e =
          absurd
          (omega (
            arith,
            (search_halted (up_to budget) m A).inside p (z, eqb-false (best_at s p) none e),
            ltb-true budget (best_at s p) b,
          ))

      go : (b : Bool) → ltb budget (best_at s p) ≡ b → (z : Bool) → eqb (get_or s.queue.waits p 0) 0 ≡ z
          → cond b none x ≡ cond z x none
      go true b true z = unmet (eqb-true (get_or s.queue.waits p 0) 0 z) b (eqb (best_at s p) none) refl
      go true b false z = refl
      go false b true z = refl
      go false b false z =
          absurd
          ((search_halted (up_to budget) m A).out p (eqb-false (get_or s.queue.waits p 0) 0 z)
          (ltb-false budget (best_at s p) b))

  -- so to hide words by the losses beside them is to hide those of the places that wait
  hidden_waiting : (words : List ℕ) → length words ≡ m.places
      → ((p : ℕ) → best_at s p ≡ none → get_or words p none ≡ none)
      → hidden budget s.best words ≡ hide_waiting s.queue.waits words
  hidden_waiting words n f =
      ext_get_or none (hidden budget s.best words) (hide_waiting s.queue.waits words)
      (length_hide _ words ∙ sym (length_hide s.queue.waits words))
      (λ p h.
      let i = rw (length_hide _ words) at h in
      hidden_at budget none s.best words p (omega (arith, i, n, best_n)) i
      ∙ same_word p (get_or words p none) (f p) ∙ sym (hide_at s.queue.waits words p))

  pub hidden_best : hidden budget s.best s.best ≡ shown_best s
  hidden_best = hidden_waiting s.best best_n (λ _ e. e)

  pub hidden_last : hidden budget s.best s.last ≡ shown_last s
  hidden_last =
      let I = (search_between (beyond (up_to budget)) m A).invariant in
      hidden_waiting s.last I.last_n (λ p e. (I.unmet p e).0)

  pub hidden_joints : hidden budget s.best s.joints ≡ shown_joints s
  hidden_joints =
      let I = (search_between (beyond (up_to budget)) m A).invariant in
      hidden_waiting s.joints I.joints_n (λ p e. (I.unmet p e).1)
