-- The words beside a row, by kind, and the order of items by them.
use Prim.Native.Nat.{ℕ, suc, ◌<◌}
use mathlib.Core.Path.{◌≡◌, refl, ◌∙◌}
use mathlib.Core.List.{List, [], ◌∷◌}
use native.Mathlib.Omega.{arith}
use Rattle.rules.specs.declared.Field.{Field}
use Rattle.rules.specs.declared.Field.TheVariants.{Amount, Count, Key, Parent, Rank, State}
use Rattle.rules.specs.Forests.{Forests, count, heap_of, key_of, mark_of, parent_of, rank_of}
use Rattle.rules.specs.Kinds.{Apart}
use Rattle.rules.specs.Order.{comes_before, precedes}
use Rattle.rules.specs.WellFormed.{KeysFit}
use Rattle.rules.specs.Words.{field_size, look, state_of, word}
use Rattle.rules.proofs.Members.{heap_in}
use Rattle.rules.proofs.Order.{before_keys}
use Rattle.store.specs.ItemOrder.{item_key}
use Rattle.store.specs.Says.{Says, Values}
use Rattle.store.proofs.ItemOrder.{key_is}
use Rattle.consolidate.specs.Stored.{Beside}

-- the words w say the same as v, but for parents and states
pub record Reads (n : ℕ) (w : List ℕ) (v : Values) : Type 0 where
  pub read : (f : Field) → Apart (Parent ∷ State ∷ []) f → (i : ℕ) → i < field_size n f → look n w f i ≡ v f i

pub reads : {n : ℕ} {w : List ℕ} {v : Values} → Says n w v → Reads n w v
reads s = record { read = λ f o i k. s.says f i k }

module _ {n h : ℕ} {v : Values} {amounts : ℕ → ℕ} {t : Forests} (B : Beside n h v amounts t) where
  pub beside_amount : (g : ℕ) → g < 8 → v Amount g ≡ amounts g
  unfolding word
  beside_amount = B.words Amount refl

  pub beside_parent : (i : ℕ) → i < n → v Parent i ≡ parent_of t i
  unfolding word
  beside_parent = B.words Parent refl

  pub beside_rank : (i : ℕ) → i < n → v Rank i ≡ rank_of t i
  unfolding word
  beside_rank = B.words Rank refl

  pub beside_state : (i : ℕ) → i < n → v State i ≡ state_of (heap_of t i) (mark_of t i)
  unfolding word
  beside_state = B.words State refl

  pub beside_count : (g : ℕ) → g < 8 → v Count g ≡ count t g
  unfolding word
  beside_count = B.words Count refl

  -- The keys of the items of heap h by such words are those of the forests, and so is the order.
  module _ {w : List ℕ} (s : Reads n w v) (l : h < 8) (fit : KeysFit t) where
    pub key_beside : (i : ℕ) → heap_of t i ≡ suc h → item_key h (look n w) i ≡ key_of t i
    unfolding KeysFit
    key_beside i e =
        let k : i < n = omega (arith, heap_in t i (λ z. omega (arith, z, e)), B.size) in
        key_is (look n w) amounts t h i (s.read Amount refl h l ∙ beside_amount h l)
        (s.read Key refl i k ∙ B.words Key refl i k) e (fit i)

    pub before_says : (a b : ℕ) → heap_of t a ≡ suc h → heap_of t b ≡ suc h
        → comes_before (item_key h (look n w)) a b ≡ precedes t.key a b
    before_says a b i j = before_keys (item_key h (look n w)) (key_of t) a b (key_beside a i) (key_beside b j)
