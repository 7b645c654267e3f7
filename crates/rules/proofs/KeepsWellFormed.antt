-- Every line leaves well-formed forests well-formed: keys stay words.
use Prim.Native.Nat.{ℕ, zero, suc, ◌<◌}
use mathlib.Core.Path.{◌≡◌, refl, ap, ◌∙◌}
use mathlib.Core.List.{List}
use mathlib.Core.Bool.{Bool, true, false}
use native.Mathlib.Omega.{arith}
use lib.ListN.{length, get_or, set, length-set, length-map}
use lib.Seq.{get_or-set_same, get_or-set_other, set_out}
use lib.Dec.{eqb, ltb}
use borrow.Author.Tests.{ltb-true, ltb-false}
use Rattle.rules.specs.Lines.{Line}
use Rattle.std.specs.Prelude.{Some, None}
use Rattle.rules.specs.declared.Call.{Call}
use Rattle.rules.specs.declared.Call.TheVariants.{DecreaseKey, Delete, ExtractMin, FindMin, Insert, Meld, Raise}
use Rattle.rules.specs.Answers.{answer, refusal, refused, unless_refused}
use Rattle.rules.specs.Calls.{delete, insert, meld, move_heap, perform, raise}
use Rattle.rules.specs.Forests.{Forests, heap_number, table_size}
use Rattle.rules.specs.Order.{minimum}
use Rattle.rules.specs.Theorems.{InRange, KeepsTableSize, KeepsWellFormed}
use Rattle.rules.specs.WellFormed.{KeysFit}
use Rattle.rules.proofs.CallsKeep.{answer_kept}
use Rattle.rules.proofs.Excused.{to_formed, well_formed}
use Rattle.rules.proofs.Lists.{decrease_heap, decrease_key_lem, delete_heap, delete_key, extract_heap, extract_key}
use Rattle.rules.proofs.Occurs.{by_item}
use Rattle.rules.proofs.RaiseKeeps.{raise_keys}
use Rattle.rules.proofs.Refusals.{decrease_ok, raise_ok}

-- a list of words stays one where a word is stored
pub fits_set : (l : List ℕ) (i v : ℕ) → ((x : ℕ) → get_or l x 0 < 4294967296) → v < 4294967296
    → (x : ℕ) → get_or (set l i v) x 0 < 4294967296
fits_set l i v F f x = go (ltb i (length l)) refl
  where
    go : (t : Bool) → ltb i (length l) ≡ t → get_or (set l i v) x 0 < 4294967296
    go true q = by_item {P = λ x. get_or (set l i v) x 0 < 4294967296} i
        (rw (get_or-set_same l i v 0 (ltb-true _ _ q)) f) (λ y n. rw (get_or-set_other l i y v 0 n) (F y)) x
    go false q = rw (set_out l i v (ltb-false _ _ q)) (F x)

keys_set : (s : Forests) (i k : ℕ) (l : List ℕ) → KeysFit s → k < 4294967296 → l ≡ set s.key i k
    → (x : ℕ) → get_or l x 0 < 4294967296
unfolding KeysFit
keys_set s i k l K f e x = rw e (fits_set s.key i k K f x)

perform_keys : (s : Forests) → KeysFit s → (c : Call) → refusal s c ≡ 0 → InRange (Some c)
    → KeysFit (perform s c).next
unfolding KeysFit InRange perform insert meld delete
perform_keys s K (Insert h i k) e f = keys_set s i k (set s.key i k) K f refl
perform_keys s K (FindMin h) e f = K
perform_keys s K (ExtractMin h) e f = keys_set s (minimum s h) 0 _ K (omega arith) (extract_key h (minimum s h) s)
perform_keys s K (DecreaseKey i k) e f =
    keys_set s i k _ K (omega (arith, (decrease_ok s i k e).1, K i)) (decrease_key_lem i k s)
perform_keys s K (Delete i) e f =
    keys_set s i 0 _ K (omega arith) (delete_key (eqb (minimum s (heap_number s i)) i) i s)
perform_keys s K (Meld a b) e f = K
perform_keys s K (Raise h d) e f = raise_keys h d s K (raise_ok s h d e).1

pub keeps_well_formed : KeepsWellFormed
unfolding answer unless_refused refused
keeps_well_formed s S l f = well_formed (answer s l).next (answer_kept s (to_formed s S) l).formed (keys l f)
  where
    guarded : (c : Call) → InRange (Some c) → (r : ℕ) → refusal s c ≡ r → KeysFit (unless_refused r s c).next
    guarded c f zero e = perform_keys s S.keys c e f
    guarded c f (suc r) e = S.keys

    keys : (l : Line) → InRange l → KeysFit (answer s l).next
    keys None f = S.keys
    keys (Some c) f = guarded c f (refusal s c) refl

-- the table keeps its length
pub perform_size : (s : Forests) (c : Call) → table_size (perform s c).next ≡ table_size s
unfolding perform insert meld delete raise
perform_size s (Insert h i k) = length-set s.heap i (suc h)
perform_size s (FindMin h) = refl
perform_size s (ExtractMin h) = ap length (extract_heap h (minimum s h) s) ∙ length-set s.heap (minimum s h) 0
perform_size s (DecreaseKey i k) = ap length (decrease_heap i k s)
perform_size s (Delete i) =
    ap length (delete_heap (eqb (minimum s (heap_number s i)) i) i s) ∙ length-set s.heap i 0
perform_size s (Meld a b) = length-map s.heap (move_heap a b)
perform_size s (Raise h d) = refl

pub keeps_table_size : KeepsTableSize
unfolding answer unless_refused refused
keeps_table_size s None = refl
keeps_table_size s (Some c) = go (refusal s c)
  where
    go : (r : ℕ) → table_size (unless_refused r s c).next ≡ table_size s
    go zero = perform_size s c
    go (suc r) = refl
