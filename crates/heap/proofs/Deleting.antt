-- X on the words of a sound store: the minimum of a heap goes as by T, any other item with no linking.
use Rattle.std.proofs.Common.{◌≡◌, ℕ, ◌+◌, ◌≤◌, cond, ltb, ◌≢◌, List, [], ◌∷◌, sym, ap, ◌∙◌, arith, le-ltb, eq-eqb}
use Rattle.rules.specs.declared.Call.TheVariants.{Delete, ExtractMin}
use Rattle.rules.specs.declared.Field.TheVariants.{Minimum}
use Rattle.rules.specs.declared.Tally.{Tally}
use Rattle.rules.specs.Answers.{is_empty, refusal}
use Rattle.rules.specs.Calls.{Outcome, delete, delete_as, extract, perform}
use Rattle.rules.specs.Forests.{Forests, heap_number, row_of}
use Rattle.rules.specs.Lists.{occurs, sum_by}
use Rattle.rules.specs.Order.{minimum}
use Rattle.rules.specs.Queues.{amounts_after_call, amounts_left}
use Rattle.rules.specs.Words.{encode, forests_of, look, queues_of}
use Rattle.rules.proofs.Excused.{to_formed}
use Rattle.rules.proofs.Minimum.{minimum_root}
use Rattle.rules.proofs.Refusals.{delete_ok}
use Rattle.heap.specs.Allowed.{MayMove, Moves}
use Rattle.heap.specs.Moving.{DeleteOther, InHeap}
use Rattle.heap.proofs.ItemHeap.{heap_inside}
use Rattle.heap.proofs.SoundStore.{formed, minimum-at}

module _ {w : List ℕ} {n i : ℕ} {tally : Tally} (P : MayMove w n (Delete i) tally) where
  abbrev t : Forests
  t = forests_of w

  pub deleted_in_heap : InHeap w n i
  deleted_in_heap = record { store = P.allowed.store; live = delete_ok (forests_of w) i P.allowed.done }

  abbrev own : ℕ
  own = heap_number (forests_of w) i

  minimum-word : {m : ℕ} → m ≡ look n w Minimum own → m ≡ minimum t own
  minimum-word e = e ∙ minimum-at P.allowed.store (heap_inside deleted_in_heap)

  -- T is allowed: the heap of i is not empty
  pub as_extract : {h : ℕ} → h ≡ own → MayMove w n (ExtractMin h) tally
  unfolding refusal is_empty occurs sum_by
  as_extract e =
      record {
        allowed = record { store = P.allowed.store; done = rw e (go (row_of t own) least_in_lem) };
        room = P.room;
      }
    where
      least_in_lem : 1 ≤ occurs (minimum t own) (row_of t own)
      least_in_lem =
          minimum_root t (to_formed t (formed P.allowed.store)) own i (omega (arith, deleted_in_heap.live))

      go : (l : List ℕ) → 1 ≤ occurs (minimum t own) l → ◌≡◌ {A = ℕ} (cond (ltb 7 own) 7 (cond (is_empty l) 12 0)) 0
      go [] k = absurd (omega arith)
      go (x ∷ l) k = rw (le-ltb 7 own (omega (arith, heap_inside deleted_in_heap)))

  -- the minimum goes as by T
  pub as_minimum : {h m : ℕ} {w' : List ℕ} {u : Tally} → h ≡ own → m ≡ look n w Minimum own → m ≡ i
      → Moves (queues_of w) (ExtractMin h) tally u w' → Moves (queues_of w) (Delete i) tally u w'
  unfolding perform delete delete_as amounts_after_call
  as_minimum {h} {m} e em q k =
      let z : minimum t own ≡ i = sym (minimum-word em) ∙ q in
      let same : perform t (ExtractMin h) ≡ perform t (Delete i) =
      ap (λ g. extract g (minimum t g) t) e
      ∙ ap (λ x. extract own x t) z
      ∙ ap (λ b. delete_as b i t) (sym (eq-eqb (minimum t own) i z)) in
      record {
        words = k.words
            ∙ ap encode (λ j. record { forests = (same j).next; amounts = amounts_left t (e j) (queues_of w).amounts });
        links = k.links ∙ ap (λ (o : Outcome). tally.links + o.reply.links) same;
        cuts = k.cuts ∙ ap (λ (o : Outcome). tally.cuts + o.reply.cuts) same;
      }

  -- any other item goes with no linking
  pub as_other : {h m : ℕ} → h ≡ own → m ≡ look n w Minimum own → m ≢ i → DeleteOther w n h i tally
  as_other e em q = record { may = P; heap = e; other = λ z. q (minimum-word em ∙ rw (← e) z) }
