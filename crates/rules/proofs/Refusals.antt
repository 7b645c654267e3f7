-- What is known of a call that is not refused.
use Prim.Native.Nat.{ℕ, zero, suc, ◌+◌, ◌≤◌, ◌<◌}
use mathlib.Core.Path.{◌≡◌, refl}
use mathlib.Core.Logic.{◌≢◌}
use mathlib.Core.List.{List, [], ◌∷◌}
use mathlib.Core.Bool.{Bool, true, false, cond, ◌||◌, true≢false}
use native.Mathlib.Omega.{arith}
use lib.ListN.{length}
use lib.Dec.{eqb, ltb, leb}
use borrow.Author.Tests.{eqb-true, eqb-false, ltb-false, leb-false}
use Rattle.rules.specs.declared.Call.{Call}
use Rattle.rules.specs.declared.Call.TheVariants.{DecreaseKey, Delete, ExtractMin, FindMin, Insert, Meld, Raise}
use Rattle.rules.specs.Answers.{carried_over, is_empty, refusal, some_carried_over}
use Rattle.rules.specs.Forests.{Forests, heap_of, key_of, row_of, table_size}
use Rattle.rules.specs.Lists.{occurs}
use Rattle.rules.specs.Order.{least_in, minimum}
use Rattle.rules.proofs.Members.{heap_in}
use Rattle.rules.proofs.Minimum.{least_of_in}
use Rattle.rules.proofs.Occurs.{by_item, eqb_self}

pub insert_ok : (s : Forests) (h i k : ℕ) → refusal s (Insert h i k) ≡ 0
    → (h < 8) × (i < length s.heap) × (heap_of s i ≡ 0)
unfolding refusal
insert_ok s h i k e = go (ltb 7 h) (leb (length s.heap) i) (eqb (heap_of s i) 0) refl refl refl e
  where
    go : (u v w : Bool) → ltb 7 h ≡ u → leb (length s.heap) i ≡ v → eqb (heap_of s i) 0 ≡ w
        → ◌≡◌ {A = ℕ} (cond u 7 (cond v 8 (cond w 0 9))) 0
        → (h < 8) × (i < length s.heap) × (heap_of s i ≡ 0)
    go true v w p q r e = absurd (omega arith)
    go false true w p q r e = absurd (omega arith)
    go false false true p q r e = (omega (arith, ltb-false 7 h p), leb-false _ _ q, eqb-true _ _ r)
    go false false false p q r e = absurd (omega arith)

pub extract_ok : (s : Forests) (h : ℕ) → refusal s (ExtractMin h) ≡ 0 → 1 ≤ occurs (minimum s h) (row_of s h)
unfolding refusal is_empty minimum least_in
extract_ok s h e = go (ltb 7 h) (row_of s h) e
  where
    go : (u : Bool) (l : List ℕ) → ◌≡◌ {A = ℕ} (cond u 7 (cond (is_empty l) 12 0)) 0
        → 1 ≤ occurs (least_in s.key l) l
    go true l e = absurd (omega arith)
    go false [] e = absurd (omega arith)
    go false (x ∷ xs) e = least_of_in s.key x xs

pub decrease_ok : (s : Forests) (i k : ℕ) → refusal s (DecreaseKey i k) ≡ 0 → (heap_of s i ≢ 0) × (k ≤ key_of s i)
unfolding refusal
decrease_ok s i k e = go (leb (length s.heap) i) (eqb (heap_of s i) 0) (ltb (key_of s i) k) refl refl e
  where
    go : (u v w : Bool) → eqb (heap_of s i) 0 ≡ v → ltb (key_of s i) k ≡ w
        → ◌≡◌ {A = ℕ} (cond u 8 (cond v 10 (cond w 11 0))) 0 → (heap_of s i ≢ 0) × (k ≤ key_of s i)
    go true v w q r e = absurd (omega arith)
    go false true w q r e = absurd (omega arith)
    go false false true q r e = absurd (omega arith)
    go false false false q r e = (eqb-false _ _ q, ltb-false _ _ r)

pub delete_ok : (s : Forests) (i : ℕ) → refusal s (Delete i) ≡ 0 → heap_of s i ≢ 0
unfolding refusal
delete_ok s i e = go (leb (length s.heap) i) (eqb (heap_of s i) 0) refl e
  where
    go : (u v : Bool) → eqb (heap_of s i) 0 ≡ v → ◌≡◌ {A = ℕ} (cond u 8 (cond v 10 0)) 0 → heap_of s i ≢ 0
    go true v q e = absurd (omega arith)
    go false true q e = absurd (omega arith)
    go false false q e = eqb-false _ _ q

pub meld_ok : (s : Forests) (a b : ℕ) → refusal s (Meld a b) ≡ 0 → (a < 8) × (b < 8) × (a ≢ b)
unfolding refusal
meld_ok s a b e = go (ltb 7 a) (ltb 7 b) (eqb a b) refl refl refl e
  where
    go : (u v w : Bool) → ltb 7 a ≡ u → ltb 7 b ≡ v → eqb a b ≡ w → ◌≡◌ {A = ℕ} (cond (u || v) 7 (cond w 13 0)) 0
        → (a < 8) × (b < 8) × (a ≢ b)
    go true v w p q r e = absurd (omega arith)
    go false true w p q r e = absurd (omega arith)
    go false false true p q r e = absurd (omega arith)
    go false false false p q r e = (omega (arith, ltb-false 7 a p), omega (arith, ltb-false 7 b q), eqb-false a b r)

pub find_ok : (s : Forests) (h : ℕ) → refusal s (FindMin h) ≡ 0 → 1 ≤ occurs (minimum s h) (row_of s h)
unfolding refusal
find_ok s h e = extract_ok s h e

-- where no item below n is carried over, each is not
none_carried : (h d : ℕ) (s : Forests) (n : ℕ) → some_carried_over h d s n ≡ false → (x : ℕ) → x < n
    → carried_over h d s x ≡ false
unfolding some_carried_over
none_carried h d s zero e x k = absurd (omega arith)
none_carried h d s (suc n) e x k =
    let f = neither (some_carried_over h d s n) (carried_over h d s n) e in
    by_item {P = λ x. x < suc n → carried_over h d s x ≡ false} n (λ _. f.1)
    (λ x m k. none_carried h d s n f.0 x (omega arith)) x k
  where
    neither : (a b : Bool) → (a || b) ≡ false → (a ≡ false) × (b ≡ false)
    neither true b e = absurd (true≢false e)
    neither false b e = (refl, e)

-- a raise carries no key of its heap above 4,294,967,295
pub raise_ok : (s : Forests) (h d : ℕ) → refusal s (Raise h d) ≡ 0
    → (h < 8) × ((x : ℕ) → heap_of s x ≡ suc h → key_of s x + d ≤ 4294967295)
unfolding refusal carried_over
raise_ok s h d e = go (ltb 7 h) (some_carried_over h d s (table_size s)) refl refl e
  where
    go : (u v : Bool) → ltb 7 h ≡ u → some_carried_over h d s (table_size s) ≡ v
        → ◌≡◌ {A = ℕ} (cond u 7 (cond v 25 0)) 0
        → (h < 8) × ((x : ℕ) → heap_of s x ≡ suc h → key_of s x + d ≤ 4294967295)
    go true v p q e = absurd (omega arith)
    go false true p q e = absurd (omega arith)
    go false false p q e = (
      omega (arith, ltb-false 7 h p),
      λ x i.
          let c = none_carried h d s (table_size s) q x (heap_in s x (λ z. omega (arith, i))) in
          let f = rw (i, eqb_self (suc h)) at c in
          omega (arith, ltb-false),
    )

-- of two numbers up to n, the chosen one is
cond_le : (n a b : ℕ) (t : Bool) → a ≤ n → b ≤ n → cond t a b ≤ n
cond_le n a b true p q = p
cond_le n a b false p q = q

pub refusal_le : (s : Forests) (c : Call) → refusal s c ≤ 25
unfolding refusal
refusal_le s (Insert h i k) =
    cond_le 25 _ _ (ltb 7 h) (omega arith)
    (cond_le 25 _ _ (leb (table_size s) i) (omega arith)
    (cond_le 25 _ _ (eqb (heap_of s i) 0) (omega arith) (omega arith)))
refusal_le s (FindMin h) =
    cond_le 25 _ _ (ltb 7 h) (omega arith) (cond_le 25 _ _ (is_empty (row_of s h)) (omega arith) (omega arith))
refusal_le s (ExtractMin h) =
    cond_le 25 _ _ (ltb 7 h) (omega arith) (cond_le 25 _ _ (is_empty (row_of s h)) (omega arith) (omega arith))
refusal_le s (DecreaseKey i k) =
    cond_le 25 _ _ (leb (table_size s) i) (omega arith)
    (cond_le 25 _ _ (eqb (heap_of s i) 0) (omega arith)
    (cond_le 25 _ _ (ltb (key_of s i) k) (omega arith) (omega arith)))
refusal_le s (Delete i) =
    cond_le 25 _ _ (leb (table_size s) i) (omega arith)
    (cond_le 25 _ _ (eqb (heap_of s i) 0) (omega arith) (omega arith))
refusal_le s (Meld a b) =
    cond_le 25 _ _ (ltb 7 a || ltb 7 b) (omega arith) (cond_le 25 _ _ (eqb a b) (omega arith) (omega arith))
refusal_le s (Raise h d) =
    cond_le 25 _ _ (ltb 7 h) (omega arith)
    (cond_le 25 _ _ (some_carried_over h d s (table_size s)) (omega arith) (omega arith))
