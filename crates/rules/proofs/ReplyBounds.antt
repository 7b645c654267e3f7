-- How large the numbers of an answer can be, from well-formed forests.
use Prim.Native.Nat.{ℕ, zero, suc, ◌+◌, ◌*◌, ◌≤◌, ◌<◌, zero-le}
use mathlib.Core.Path.{◌≡◌, refl}
use mathlib.Core.List.{List, [], ◌∷◌}
use mathlib.Core.Bool.{Bool, true, false}
use native.Mathlib.Omega.{arith}
use lib.ListN.{length, get_or}
use lib.Dec.{eqb}
use Rattle.rules.specs.declared.Answer.{Answer}
use Rattle.rules.specs.Lines.{Line}
use Rattle.std.specs.Prelude.{Some, None}
use Rattle.rules.specs.declared.Call.{Call}
use Rattle.rules.specs.declared.Call.TheVariants.{DecreaseKey, Delete, ExtractMin, FindMin, Insert, Meld, Raise}
use Rattle.rules.specs.Answers.{answer, refusal, refused, unless_refused}
use Rattle.rules.specs.Calls.{decrease_key, delete, delete_as, extract, perform}
use Rattle.rules.specs.Forests.{Forests, heap_number, key_of, potential, row_of, table_size, trees}
use Rattle.rules.specs.Ledger.{price}
use Rattle.rules.specs.Lists.{sum_by}
use Rattle.rules.specs.Order.{minimum}
use Rattle.rules.specs.Theorems.{InRange}
use Rattle.rules.specs.WellFormed.{Disjoint, KeysFit, WellFormed}
use Rattle.rules.proofs.CallsKeep.{perform_kept}
use Rattle.rules.proofs.CascadeKeeps.{marks_le}
use Rattle.rules.proofs.Excused.{to_formed}
use Rattle.rules.proofs.Follow.{once_short}
use Rattle.rules.proofs.Members.{heap_in, row_root, row_small}
use Rattle.rules.proofs.RankSixteen.{R_sixteen, count_table}
use Rattle.rules.proofs.Refusals.{
  decrease_ok,
  delete_ok,
  extract_ok,
  find_ok,
  insert_ok,
  meld_ok,
  raise_ok,
  refusal_le,
}
use Rattle.rules.proofs.SiblingLists.{list_inside, once_row}

pub record Small (a : Answer) : Type 0 where
  pub code : a.code ≤ 25
  pub item : a.item ≤ 4096
  pub key : a.key < 4294967296
  pub moves : a.links + a.cuts ≤ 41000

-- ---- the potential

rows_length : (rows : List (List ℕ)) (n k : ℕ) → length rows ≡ k → ((h : ℕ) → length (get_or rows h []) ≤ n)
    → sum_by length rows ≤ k * n
unfolding sum_by
rows_length [] n k e f = zero-le
rows_length (r ∷ rows) n zero e f = absurd (omega arith)
rows_length (r ∷ rows) n (suc k) e f = omega (arith, f 0, rows_length rows n k (omega arith) (λ h. f (suc h)))

row_short : (s : Forests) → Disjoint s → (h : ℕ) → length (row_of s h) ≤ table_size s
row_short s S h =
    once_short (table_size s) (row_of s h) (once_row s S h)
    (list_inside s S (row_of s h) (λ y i e. omega (arith, (row_root s S h y i).0)))

potential_le : (s : Forests) → Disjoint s → potential s ≤ 40960
unfolding potential trees
potential_le s S =
    omega (arith, marks_le s S, S.small, rows_length s.rows (table_size s) 8 S.rows8 (row_short s S))

price_le : (s : Forests) → Disjoint s → (c : Call) → price s c ≤ 19
unfolding price
price_le s S (Insert h i k) = omega arith
price_le s S (FindMin h) = omega arith
price_le s S (ExtractMin h) = omega (arith, R_sixteen s S h)
price_le s S (DecreaseKey i k) = omega arith
price_le s S (Delete i) = omega (arith, R_sixteen s S (heap_number s i))
price_le s S (Meld a b) = omega arith
price_le s S (Raise h d) = omega arith

-- ---- item and key

-- what a deletion answers, whichever way it goes
pub record DeleteSays (i k : ℕ) (a : Answer) : Type 0 where
  pub code : a.code ≡ 0
  pub item : a.item ≡ i
  pub key : a.key ≡ k

pub delete_says : (b : Bool) (i : ℕ) (s : Forests) → DeleteSays i (key_of s i) (delete_as b i s).reply
unfolding delete_as extract
delete_says true i s = record { code = refl; item = refl; key = refl }
delete_says false i s = record { code = refl; item = refl; key = refl }

-- a call that is performed answers 0
pub perform_code : (s : Forests) (c : Call) → (perform s c).reply.code ≡ 0
unfolding perform extract decrease_key delete
perform_code s (Insert h i k) = refl
perform_code s (FindMin h) = refl
perform_code s (ExtractMin h) = refl
perform_code s (DecreaseKey i k) = refl
perform_code s (Delete i) = (delete_says (eqb (minimum s (heap_number s i)) i) i s).code
perform_code s (Meld a b) = refl
perform_code s (Raise h d) = refl

perform-small : (s : Forests) → WellFormed s → (c : Call) → refusal s c ≡ 0 → InRange (Some c)
    → Small (perform s c).reply
unfolding KeysFit perform extract decrease_key delete InRange
perform-small s W c e f =
    record { code = omega (arith, perform_code s c); item = item c e; key = key c e f; moves = paid }
  where
    D : Disjoint s
    D = W.disjoint

    item : (c : Call) → refusal s c ≡ 0 → (perform s c).reply.item ≤ 4096
    item (Insert h i k) e = omega (arith, (insert_ok s h i k e).1, D.small)
    item (FindMin h) e = row_small s D h (minimum s h) (find_ok s h e)
    item (ExtractMin h) e = row_small s D h (minimum s h) (extract_ok s h e)
    item (DecreaseKey i k) e = omega (arith, heap_in s i (decrease_ok s i k e).0, D.small)
    item (Delete i) e =
        omega (
          arith,
          (delete_says (eqb (minimum s (heap_number s i)) i) i s).item,
          heap_in s i (delete_ok s i e),
          D.small,
        )
    item (Meld a b) e = omega (arith, (meld_ok s a b e).0)
    item (Raise h d) e = omega (arith, (raise_ok s h d e).0)

    key : (c : Call) → refusal s c ≡ 0 → InRange (Some c) → (perform s c).reply.key < 4294967296
    key (Insert h i k) e f = f
    key (FindMin h) e f = W.keys (minimum s h)
    key (ExtractMin h) e f = W.keys (minimum s h)
    key (DecreaseKey i k) e f = omega (arith, (decrease_ok s i k e).1, W.keys i)
    key (Delete i) e f = omega (arith, (delete_says (eqb (minimum s (heap_number s i)) i) i s).key, W.keys i)
    key (Meld a b) e f = omega (arith, count_table s a, count_table s b, D.small)
    key (Raise h d) e f = omega (arith, count_table s h, D.small)

    paid : (perform s c).reply.links + (perform s c).reply.cuts ≤ 41000
    paid = omega (arith, (perform_kept s (to_formed s W) c e).paid, potential_le s D, price_le s D c)

refused-small : (r : ℕ) (s : Forests) → r ≤ 25 → Small (refused r s).reply
unfolding refused
refused-small r s k = record { code = k; item = zero-le; key = omega arith; moves = zero-le }

-- every answer's numbers are small
pub answer-small : (s : Forests) → WellFormed s → (l : Line) → InRange l → Small (answer s l).reply
unfolding answer unless_refused
answer-small s W None f = refused-small 6 s (omega arith)
answer-small s W (Some c) f = go (refusal s c) refl
  where
    go : (r : ℕ) → refusal s c ≡ r → Small (unless_refused r s c).reply
    go zero e = perform-small s W c e f
    go (suc r) e = refused-small (suc r) s (omega (arith, refusal_le s c))
