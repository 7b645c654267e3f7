-- Every line, and every list of lines, leaves well-formed queues well-formed: their amounts too.
use Prim.Native.Nat.{ℕ, zero, suc, ◌+◌, ◌%◌, ◌<◌}
use mathlib.Core.Path.{◌≡◌, refl, sym, ◌∙◌}
use mathlib.Core.Logic.{◌≢◌}
use mathlib.Core.List.{List, [], ◌∷◌}
use mathlib.Core.Bool.{Bool, true, false, cond}
use native.Mathlib.Omega.{arith}
use lib.ListN.{length, get_or, set, length-set}
use lib.Seq.{get_or-set_same, get_or-set_other}
use lib.Dec.{eqb}
use borrow.Author.Tests.{eqb-false, ne_eqb}
use Rattle.rules.specs.Lines.{Line}
use Rattle.std.specs.Prelude.{Some, None}
use Rattle.rules.specs.declared.Call.{Call}
use Rattle.rules.specs.declared.Call.TheVariants.{DecreaseKey, Delete, ExtractMin, FindMin, Insert, Meld, Raise}
use Rattle.rules.specs.Answers.{after, answer, refusal, refused, unless_refused}
use Rattle.rules.specs.Calls.{decrease_key, delete, extract, meld, perform, raise}
use Rattle.rules.specs.Forests.{Forests, count, heap_number}
use Rattle.rules.specs.Order.{minimum}
use Rattle.rules.specs.Queues.{
  Queues,
  after_line,
  after_lines,
  amounts_after,
  amounts_after_call,
  amounts_after_line,
  amounts_left,
}
use Rattle.rules.specs.Theorems.{AllInRange, KeepsQueues}
use Rattle.rules.specs.WellFormed.{Disjoint, WellFormedQueues}
use Rattle.rules.proofs.CountAfter.{
  OneLeft,
  decrease_count,
  delete-count,
  extract-count,
  insert-count,
  raise-count,
}
use Rattle.rules.proofs.Counts.{count_apart, count-meld}
use Rattle.rules.proofs.KeepsWellFormed.{fits_set, keeps_well_formed}
use Rattle.rules.proofs.Members.{row_root}
use Rattle.rules.proofs.Occurs.{by_item}
use Rattle.rules.proofs.Refusals.{delete_ok, extract_ok, meld_ok, raise_ok}

-- What is asked of the amounts, given the forests.
pub record Amounts (s : Forests) (l : List ℕ) : Type 0 where
  pub eight : length l ≡ 8
  pub fit : (h : ℕ) → get_or l h 0 < 4294967296
  pub of_empty : (h : ℕ) → count s h ≡ 0 → get_or l h 0 ≡ 0

-- from s to t, where no heap is empty that was not
amounts_kept : (s t : Forests) (l : List ℕ) → Amounts s l → ((g : ℕ) → count t g ≡ 0 → count s g ≡ 0) → Amounts t l
amounts_kept s t l A f = record { eight = A.eight; fit = A.fit; of_empty = λ g z. A.of_empty g (f g z) }

-- the amount of heap h is set to a, which is 0 if the heap is now empty
amounts_set : (s t : Forests) (l : List ℕ) (h a : ℕ) → Amounts s l → h < 8 → a < 4294967296
    → (count t h ≡ 0 → a ≡ 0) → ((g : ℕ) → g ≢ h → count t g ≡ 0 → count s g ≡ 0) → Amounts t (set l h a)
amounts_set s t l h a A k b own other = record {
  eight = length-set l h a ∙ A.eight;
  fit = fits_set l h a A.fit b;
  of_empty = by_item {P = λ g. count t g ≡ 0 → get_or (set l h a) g 0 ≡ 0} h
      (λ z. get_or-set_same l h a 0 (omega (arith, A.eight)) ∙ own z)
      (λ g n z. get_or-set_other l h g a 0 n ∙ A.of_empty g (other g n z));
}

-- an item leaves heap h
amounts_left_lem : (s t : Forests) (l : List ℕ) (h : ℕ) → Amounts s l → h < 8 → OneLeft s t h
    → Amounts t (amounts_left s h l)
unfolding amounts_left
amounts_left_lem s t l h A k o = go (eqb (count s h) 1) refl
  where
    go : (b : Bool) → eqb (count s h) 1 ≡ b → Amounts t (cond b (set l h 0) l)
    go true e = amounts_set s t l h 0 A k (omega arith) (λ _. refl) (λ g n z. sym (o.other g n) ∙ z)
    go false e =
        let m : count s h ≢ 1 = eqb-false (count s h) 1 e in
        amounts_kept s t l A
        (by_item {P = λ g. count t g ≡ 0 → count s g ≡ 0} h (λ z. absurd (m (omega (arith, o.own))))
        (λ g n z. sym (o.other g n) ∙ z))

call_amounts : (s : Forests) → Disjoint s → (l : List ℕ) → Amounts s l → (c : Call) → refusal s c ≡ 0
    → Amounts (perform s c).next (amounts_after_call s c l)
unfolding amounts_after_call perform
call_amounts s D l A (Insert h i k) e = amounts_kept s _ l A (λ g z. omega (arith, insert-count s h i k e g))
call_amounts s D l A (FindMin h) e = A
call_amounts s D l A (ExtractMin h) e =
    let x : ℕ = minimum s h in
    amounts_left_lem s (extract h x s).next l h A
    (omega (arith, D.heaps x, (row_root s D h x (extract_ok s h e)).0)) (extract-count s D h e)
call_amounts s D l A (DecreaseKey i k) e =
    amounts_kept s (decrease_key i k s).next l A (λ g z. sym (decrease_count s i k g) ∙ z)
call_amounts s D l A (Delete i) e =
    let n = delete_ok s i e in
    amounts_left_lem s (delete i s).next l (heap_number s i) A (omega (arith, D.heaps i, n)) (delete-count s i e)
call_amounts s D l A (Meld a b) e =
    let o = meld_ok s a b e in
    amounts_set s (meld a b s) l b 0 A o.1 (omega arith) (λ _. refl)
    (by_item {P = λ g. g ≢ b → count (meld a b s) g ≡ 0 → count s g ≡ 0} a
    (λ _ z. omega (arith, count-meld s a b o.2)) (λ g m n z. sym (count_apart s a b g m n) ∙ z))
call_amounts s D l A (Raise h d) e = go (eqb (count s h) 0) refl
  where
    a : ℕ
    a = (get_or l h 0 + d) % 4294967296

    go : (b : Bool) → eqb (count s h) 0 ≡ b → Amounts (perform s (Raise h d)).next (cond b l (set l h a))
    go true q = amounts_kept s (raise h d s) l A (λ g z. sym (raise-count h d s g) ∙ z)
    go false q =
        let n : count s h ≢ 0 = eqb-false (count s h) 0 q in
        amounts_set s (raise h d s) l h a A (raise_ok s h d e).0 (omega arith)
        (λ z. absurd (n (sym (raise-count h d s h) ∙ z))) (λ g _ z. sym (raise-count h d s g) ∙ z)

line_amounts : (s : Forests) → Disjoint s → (l : List ℕ) → Amounts s l → (m : Line)
    → Amounts (answer s m).next (amounts_after_line s m l)
unfolding answer unless_refused refused amounts_after_line
line_amounts s D l A None = A
line_amounts s D l A (Some c) = go (refusal s c) refl
  where
    go : (r : ℕ) → refusal s c ≡ r
        → Amounts (unless_refused r s c).next (cond (eqb r 0) (amounts_after_call s c l) l)
    go zero e = call_amounts s D l A c e
    go (suc r) e = rw (ne_eqb (suc r) 0 (λ z. omega arith)) A

pub keeps_queues : KeepsQueues
keeps_queues q Q l f =
    let A = line_amounts q.forests Q.forests.disjoint q.amounts
    (record { eight = Q.amounts8; fit = Q.amounts_fit; of_empty = Q.of_empty }) l in
    record {
      forests = keeps_well_formed q.forests Q.forests l f;
      amounts8 = A.eight;
      amounts_fit = A.fit;
      of_empty = A.of_empty;
    }

pub after_queues : (q : Queues) → WellFormedQueues q → (ls : List Line) → AllInRange ls
    → WellFormedQueues (after_lines q ls)
unfolding after amounts_after
after_queues q Q [] r = Q
after_queues q Q (l ∷ ls) r = after_queues (after_line q l) (keeps_queues q Q l r.0) ls r.1
