-- The key of an item, by what words say, and the order of items as one of numbers.
use Prim.Native.Nat.{ℕ, suc, ◌+◌, ◌*◌, ◌%◌, ◌<◌, ◌≤◌}
use mathlib.Core.Path.{◌≡◌, refl, sym, ◌∙◌}
use mathlib.Core.Logic.{◌⊎◌, ⊎_elim}
use mathlib.Core.List.{List}
use mathlib.Core.Bool.{cond}
use native.Mathlib.Omega.{arith}
use lib.Dec.{ltb}
use borrow.Author.Tests.{lt-ltb, le-ltb, ne_eqb}
use Rattle.rules.specs.declared.Field.TheVariants.{Amount, Key}
use Rattle.rules.specs.Forests.{Forests, heap_number, heap_of, key_of, none}
use Rattle.rules.specs.Order.{lesser}
use Rattle.rules.specs.Words.{look, unless_free, word}
use Rattle.rules.proofs.KeyWords.{key_words}
use Rattle.rules.proofs.LeastOfTwo.{lesser_two}
use Rattle.rules.proofs.Order.{before_number}
use Rattle.store.specs.Families.{Holds, with_links, word_but}
use Rattle.store.specs.ItemOrder.{item_key}
use Rattle.store.specs.Says.{Says, Values}

-- ---- keys

-- words and what they say give an item the same key
pub key_says : {n : ℕ} {w : List ℕ} {v : Values} → Says n w v → (h i : ℕ) → h < 8 → i < n
    → item_key h (look n w) i ≡ item_key h v i
unfolding item_key
key_says s h i l k = rw (s.says Amount h l, s.says Key i k)

-- and it is that of the forests whose words they are, where item i is of heap h and its key of 32 bits
pub key_is : (v : Values) (a : ℕ → ℕ) (t : Forests) (h i : ℕ) → v Amount h ≡ a h → v Key i ≡ word a t Key i
    → heap_of t i ≡ suc h → key_of t i < 4294967296 → item_key h v i ≡ key_of t i
unfolding item_key word unless_free
key_is v a t h i p q e k =
    let z : heap_number t i ≡ h = omega (arith, e) in
    rw (p, q, z, e, ne_eqb (suc h) 0 (λ y. omega arith)) (key_words.key_back (a h) (key_of t i) k)

pub key_held : {n : ℕ} {w : List ℕ} {a c m : ℕ → ℕ} {t : Forests} {x : ℕ} → Holds n w a c m t x → (h i : ℕ) → h < 8
    → i < n → heap_of t i ≡ suc h → key_of t i < 4294967296 → item_key h (look n w) i ≡ key_of t i
unfolding with_links word_but word
key_held {a = a} {t = t} H h i l k e f = key_says H.says h i l k ∙ key_is _ a t h i refl refl e f

-- ---- numbers

-- the lesser of two items is the lower half of the lesser of their numbers x and y
pub lesser_number : (key : ℕ → ℕ) (a b : ℕ) {j k x y l : ℕ} → a < none → b < none → j ≡ key a → k ≡ key b
    → x ≡ j * 4294967296 + a → y ≡ k * 4294967296 + b → ((y < x) × (l ≡ y)) ⊎ ((x ≤ y) × (l ≡ x))
    → l % 4294967296 ≡ lesser key a b
lesser_number key a b {j} {k} {x} {y} {l} m n p q r s =
    ⊎_elim (λ w. let e : l % 4294967296 ≡ b = omega arith in e ∙ sym (by_number ∙ rw (lt-ltb y x w.0)))
    (λ w. let e : l % 4294967296 ≡ a = omega arith in e ∙ sym (by_number ∙ rw (le-ltb y x w.0)))
  where
    by_number : lesser key a b ≡ cond (ltb y x) b a
    by_number =
        lesser_two key a b (λ e. omega arith) (λ e. omega arith)
        ∙ rw (before_number key b a (omega arith) (omega arith), r, s, p, q)
