-- Two lists are rewritten word by word: none where the loss is beyond the budget.
use Prim.Native.Nat.{ℕ, zero, suc, ◌+◌, ◌<◌}
use mathlib.Core.Path.{◌≡◌, refl, sym, ap, ◌∙◌}
use mathlib.Core.List.{List, [], ◌∷◌, ◌++◌, append-nil}
use mathlib.Core.Bool.{Bool, true, false, cond}
use native.Mathlib.Numerals.{add-one}
use native.Mathlib.Omega.{arith}
use lib.ListN.{length, get_or, set, take, drop, drop_of_length-le}
use lib.Seq.{take_all}
use lib.Dec.{eqb, ltb}
use Rattle.rules.specs.Lists.{indicator}
use Rattle.rules.specs.Forests.{none}
use Rattle.paths.specs.Search.{hide_waiting}
use Rattle.paths.proofs.Hiding.{length_hide}
use Rattle.finder.specs.Hidden.{beyond_budget}

-- the words below p are those of one list, the others those of another
abbrev pub written : List ℕ → List ℕ → ℕ → List ℕ
written new old p = take p new ++ drop p old

-- word p is still to be written, and may then be
written_at : (new old : List ℕ) (p : ℕ) → length new ≡ length old → p < length old
    → get_or (written new old p) p 0 ≡ get_or old p 0
written_at new [] p q h = absurd (omega arith)
written_at [] (y ∷ old) p q h = absurd (omega (arith, q))
written_at (x ∷ new) (y ∷ old) zero q h = refl
written_at (x ∷ new) (y ∷ old) (suc p) q h = written_at new old p (omega (arith, q)) (omega arith)

written_more : (new old : List ℕ) (p : ℕ) → length new ≡ length old → p < length old
    → set (written new old p) p (get_or new p 0) ≡ written new old (suc p)
written_more new [] p q h = absurd (omega arith)
written_more [] (y ∷ old) p q h = absurd (omega (arith, q))
written_more (x ∷ new) (y ∷ old) zero q h = refl
written_more (x ∷ new) (y ∷ old) (suc p) q h = ap (λ l. x ∷ l) (written_more new old p (omega (arith, q)) (omega arith))

module _ (budget : ℕ) where
  -- what is hidden of a list beside these losses
  abbrev pub hidden : List ℕ → List ℕ → List ℕ
  hidden best words = hide_waiting (beyond_budget budget best) words

  -- word by word
  pub hidden_at : (d : ℕ) (best words : List ℕ) (p : ℕ) → p < length best → p < length words
      → get_or (hidden best words) p d ≡ cond (ltb budget (get_or best p d)) none (get_or words p d)
  unfolding hide_waiting
  hidden_at d [] words p h i = absurd (omega arith)
  hidden_at d (b ∷ best) [] p h i = absurd (omega arith)
  hidden_at d (b ∷ best) (x ∷ words) zero h i = go (ltb budget b)
    where
      go : (t : Bool) → cond (eqb (indicator t) 0) x none ≡ cond t none x
      go true = refl
      go false = refl
  hidden_at d (b ∷ best) (x ∷ words) (suc p) h i = hidden_at d best words p (omega arith) (omega arith)

  -- Of the losses and the words the first p are rewritten; then so is word p, by its loss.
  pub hide_more : (best words : List ℕ) {best₁ words₁ : List ℕ} (p : ℕ) {r : ℕ} → length words ≡ length best
      → p < length best → best₁ ≡ written (hidden best best) best p → words₁ ≡ written (hidden best words) words p
      → r ≡ cond (ltb budget (get_or best₁ p 0)) none (get_or words₁ p 0)
      → set words₁ p r ≡ written (hidden best words) words (p + 1)
  hide_more best words {best₁} {words₁} p {r} n h b w e =
      let i : p < length words = omega (arith, n) in
      let loss : get_or best₁ p 0 ≡ get_or best p 0 = rw b (written_at (hidden best best) best p (length_hide _ best) h) in
      let word : get_or words₁ p 0 ≡ get_or words p 0 =
      rw w (written_at (hidden best words) words p (length_hide _ words) i) in
      let v : r ≡ get_or (hidden best words) p 0 = e ∙ rw (loss, word) (sym (hidden_at 0 best words p h i)) in
      rw (v, w, add-one) (written_more (hidden best words) words p (length_hide _ words) i)

  -- all of the words are rewritten
  pub hide_all : (best words : List ℕ) (p : ℕ) → length words ≡ length best → p ≡ length best
      → written (hidden best words) words p ≡ hidden best words
  hide_all best words p n z =
      let e : p ≡ length (hidden best words) = z ∙ sym n ∙ sym (length_hide _ words) in
      rw (take_all p (hidden best words) (omega (arith, e)), drop_of_length-le words {i = p} (omega (arith, z, n)))
      (append-nil (hidden best words))
