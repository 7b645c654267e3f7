-- The queues are read back from their words, so the words determine the queues.
use Prim.Native.Nat.{ℕ, zero, suc, ◌+◌, ◌-◌, ◌*◌, ◌≤◌, ◌<◌}
use mathlib.Core.Path.{◌≡◌, refl, sym, ap, ◌∙◌}
use mathlib.Core.Logic.{◌≢◌}
use mathlib.Core.List.{List, []}
use mathlib.Core.Bool.{cond, false}
use native.Mathlib.Omega.{arith}
use lib.ListN.{length}
use lib.Dec.{eqb}
use borrow.Author.Tests.{ne_eqb}
use Rattle.rules.specs.declared.Layout.{Layout}
use Rattle.rules.specs.declared.Layout.TheVariants.{ByItem}
use Rattle.rules.specs.declared.Field.{Field}
use Rattle.rules.specs.declared.Field.TheVariants.{Amount, FirstChild, FirstTree, Key, Next, Parent, State}
use Rattle.rules.specs.Forests.{Forests, children_of, heap_of, key_of, mark_of, none, row_of, table_size}
use Rattle.rules.specs.Lists.{occurs, tabulate}
use Rattle.rules.specs.Queues.{Queues, amount_of, key_from, key_word}
use Rattle.rules.specs.Theorems.{DecodeEncode, EncodeInjective, EncodeLength}
use Rattle.rules.specs.WellFormed.{Disjoint, KeysFit}
use Rattle.rules.specs.Words.{
  decode,
  decode_forests,
  encode,
  encode_in,
  head_or,
  list_from,
  look_in,
  field_size,
  read_key,
  siblings,
  state_heap,
  state_mark,
  state_of,
  store_size,
  unless_free,
  word,
}
use Rattle.rules.proofs.KeyWords.{key_words}
use Rattle.rules.proofs.Follow.{follow_list, once_short}
use Rattle.rules.proofs.Members.{free_children, heap_in}
use Rattle.rules.proofs.SiblingLists.{list_inside, once_children, once_row, siblings_children, siblings-row}
use Rattle.rules.proofs.Siblings.{Once}
use Rattle.rules.proofs.Sizes.{size_injective}
use Rattle.rules.proofs.Tabulate.{tabulate_is}
use Rattle.rules.proofs.Words.{length-words_in, look-words_in}

-- ---- the state words

state_heap_lem : (v m : ℕ) → m ≤ 1 → state_heap (state_of v m) ≡ v
unfolding state_heap state_of
state_heap_lem zero m k = refl
state_heap_lem (suc h) m k = let e : 1 + 2 * h + m ≡ suc (2 * h + m) = omega arith in rw e (omega arith)

state_mark_lem : (v m : ℕ) → m ≤ 1 → (v ≡ 0 → m ≡ 0) → state_mark (state_of v m) ≡ m
unfolding state_mark state_of
state_mark_lem zero m k f = sym (f refl)
state_mark_lem (suc h) m k f = let e : 1 + 2 * h + m ≡ suc (2 * h + m) = omega arith in rw e (omega arith)

state_free : (m : ℕ) → state_of 0 m ≡ 0
unfolding state_of
state_free m = refl

state_live : (h m : ℕ) → eqb (state_of (suc h) m) 0 ≡ false
unfolding state_of
state_live h m = ne_eqb (1 + 2 * h + m) 0 (λ z. omega arith)

pub encode_length : EncodeLength
unfolding encode_in
encode_length o q = length-words_in o (table_size q.forests) (word (amount_of q) q.forests)

pub encode-length : (q : Queues) → length (encode q) ≡ store_size (table_size q.forests)
encode-length = encode_length ByItem

module _ (o : Layout) (q : Queues) (D : Disjoint q.forests) where
  abbrev s : Forests
  s = q.forests

  abbrev n : ℕ
  n = table_size s

  -- what the words say
  abbrev v : Field → ℕ → ℕ
  v = look_in o n (encode_in o q)

  looks : (f : Field) (i : ℕ) → i < field_size n f → v f i ≡ word (amount_of q) s f i
  unfolding encode_in
  looks f i h = look-words_in o n (word (amount_of q) s) f i h

  read_list : (l : List ℕ) → Once l → ((y : ℕ) → 1 ≤ occurs y l → (heap_of s y ≢ 0) × (siblings s y ≡ l))
      → list_from n v (head_or none l) ≡ l
  unfolding list_from word unless_free
  read_list l once f =
      let out = list_inside s D l (λ y i. (f y i).0) in
      follow_list n (v Next) l (once_short n l once out) once
      (out none (omega (arith, D.small)))
      (λ y i.
      let e = f y i in
      looks Next y (heap_in s y e.0) ∙ rw (ne_eqb (heap_of s y) 0 e.0, e.1))

  rows_again : (decode_forests n v).rows ≡ s.rows
  unfolding decode_forests word
  rows_again =
      tabulate_is [] 8 (λ h. list_from n v (v FirstTree h)) s.rows
      D.rows8 (λ h k.
      ap (list_from n v) (looks FirstTree h k)
      ∙ read_list (row_of s h) (once_row s D h) (siblings-row s D h))

  children_at_lem : (i : ℕ) → i < n
      → cond (eqb (v State i) 0) []
      (list_from n v (v FirstChild i))
      ≡ children_of s i
  unfolding word unless_free state_of
  children_at_lem i k = rw (looks State i k, looks FirstChild i k) (go (heap_of s i) refl)
    where
      go : (x : ℕ) → heap_of s i ≡ x
          → cond (eqb (state_of x (mark_of s i)) 0) []
          (list_from n v (cond (eqb x 0) 0 (head_or none (children_of s i))))
          ≡ children_of s i
      go zero e = sym (free_children s D i k e)
      go (suc h) e =
          rw (ne_eqb (1 + 2 * h + mark_of s i) 0 (λ z. omega arith), ne_eqb (suc h) 0 (λ z. omega arith))
          (read_list (children_of s i) (once_children s D i k) (siblings_children s D i k))

  children_again : (decode_forests n v).children ≡ s.children
  unfolding decode_forests
  children_again =
      tabulate_is [] n
      (λ i.
      cond (eqb (v State i) 0) []
      (list_from n v (v FirstChild i)))
      s.children D.children_n children_at_lem

  parent_again : (decode_forests n v).parent ≡ s.parent
  unfolding decode_forests word
  parent_again =
      tabulate_is 0 n (v Parent) s.parent D.parent_n (looks Parent)

  -- an item of heap g has its key by the amount of g, and a free item has key 0
  key_at : KeysFit s → (i : ℕ) → i < n → read_key v i ≡ key_of s i
  unfolding read_key word unless_free KeysFit
  key_at fit i k = rw (looks State i k, looks Key i k) (go (heap_of s i) refl)
    where
      go : (x : ℕ) → heap_of s i ≡ x
          → cond (eqb (state_of x (mark_of s i)) 0) 0
          (key_from (v Amount (state_heap (state_of x (mark_of s i)) - 1))
          (cond (eqb x 0) 0 (key_word (amount_of q (x - 1)) (key_of s i))))
          ≡ key_of s i
      go zero e = rw (state_free (mark_of s i)) (sym (D.free i e).0)
      go (suc g) e =
          let h : state_heap (state_of (suc g) (mark_of s i)) - 1 ≡ g =
          omega (arith, state_heap_lem (suc g) (mark_of s i) (D.bit i)) in
          let z : suc g - 1 ≡ g = omega arith in
          let a = looks Amount g (omega (arith, e, D.heaps i)) in
          rw (state_live g (mark_of s i), ne_eqb (suc g) 0 (λ v. omega arith), h, z, a)
          (key_words.key_back (amount_of q g) (key_of s i) (fit i))

  key_again : KeysFit s → (decode_forests n v).key ≡ s.key
  unfolding decode_forests
  key_again fit = tabulate_is 0 n (read_key v) s.key D.key_n (key_at fit)

  mark_again : (decode_forests n v).mark ≡ s.mark
  unfolding decode_forests word
  mark_again =
      tabulate_is 0 n (λ i. state_mark (v State i)) s.mark D.mark_n (λ i k.
      ap state_mark (looks State i k)
      ∙ state_mark_lem (heap_of s i) (mark_of s i) (D.bit i) (λ e. (D.free i e).2))

  heap_again : (decode_forests n v).heap ≡ s.heap
  unfolding decode_forests word
  heap_again =
      tabulate_is 0 n (λ i. state_heap (v State i)) s.heap refl (λ i k.
      ap state_heap (looks State i k) ∙ state_heap_lem (heap_of s i) (mark_of s i) (D.bit i))

  -- of disjoint forests with keys of 32 bits the words are read back, whatever the amounts are
  pub decode_forests_lem : KeysFit s → decode_forests n v ≡ s
  decode_forests_lem fit = λ i.
      record {
        rows = rows_again i;
        children = children_again i;
        parent = parent_again i;
        key = key_again fit i;
        mark = mark_again i;
        heap = heap_again i;
      }

  amounts_again : length q.amounts ≡ 8 → tabulate 8 (v Amount) ≡ q.amounts
  unfolding word
  amounts_again e = tabulate_is 0 8 (v Amount) q.amounts e (looks Amount)

pub decode_encode : DecodeEncode
decode_encode o q W = λ i.
    record {
      forests = decode_forests_lem o q W.forests.disjoint W.forests.keys i;
      amounts = amounts_again o q W.forests.disjoint W.amounts8 i;
    }

pub encode_injective : EncodeInjective
encode_injective o q r Q R e =
    let n : table_size q.forests ≡ table_size r.forests =
    size_injective (table_size q.forests) (table_size r.forests)
    (sym (encode_length o q) ∙ ap length e ∙ encode_length o r) in
    sym (decode_encode o q Q)
    ∙ ap (λ w. decode (table_size q.forests) (look_in o (table_size q.forests) w)) e
    ∙ ap (λ k. decode k (look_in o k (encode_in o r))) n
    ∙ decode_encode o r R
