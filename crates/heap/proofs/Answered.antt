-- A call's contract from its parts.
use Rattle.std.proofs.Common.{◌≡◌, ℕ, zero, suc, ◌+◌, ◌<◌, eqb, ◌≢◌, List, Ok, Err, Some, sym, refl, ap, ◌∙◌, arith, ne_eqb}
use Rattle.rules.specs.declared.Call.{Call}
use Rattle.rules.specs.declared.Call.TheVariants.{
  DecreaseKey,
  Delete,
  ExtractMin,
  FindMin,
  Insert,
  Meld,
  Raise,
}
use Rattle.rules.specs.declared.Field.TheVariants.{Count}
use Rattle.rules.specs.Answers.{answer, refusal, refused, unless_refused}
use Rattle.rules.specs.Calls.{decrease_key, delete, extract, perform}
use Rattle.rules.specs.Forests.{heap_number, heap_of, key_of}
use Rattle.rules.specs.Order.{minimum}
use Rattle.rules.specs.Queues.{Queues, after_call, after_line, amounts_after_call, amounts_after_line}
use Rattle.rules.specs.Words.{encode, forests_of, look, queues_of}
use Rattle.rules.proofs.Members.{heap_in, row_root}
use Rattle.rules.proofs.Refusals.{find_ok, meld_ok}
use Rattle.rules.proofs.ReplyBounds.{delete_says, perform_code}
use Rattle.rules.proofs.SoundWords.{sound_words}
use Rattle.rules.specs.declared.Tally.{Tally}
use Rattle.store.specs.ItemOrder.{item_key}
use Rattle.consolidate.specs.declared.Reply.{Reply}
use Rattle.rules.specs.Refusals.{code, code_of}
use Rattle.rules.specs.declared.Refusal.{Refusal}
use Rattle.heap.specs.Allowed.{Allowed, MayMove, Moves, Store}
use Rattle.heap.specs.Performed.{Done, Performed, Ready}
use Rattle.heap.proofs.Deleting.{deleted_in_heap}
use Rattle.heap.proofs.ItemHeap.{item_inside}
use Rattle.heap.proofs.RaiseWords.{raise_heap}
use Rattle.rules.proofs.Codes.{some_code}
use Rattle.heap.proofs.SoundStore.{count_at_lem, formed, items_size, key_at}

pub may_move : {w : List ℕ} {n : ℕ} {c : Call} {t : Tally} → Ready w t → Store w n → 0 ≡ refusal (forests_of w) c
    → MayMove w n c t
may_move Y S p =
    record {
      allowed = record { store = S; done = sym p };
      room = Y.room;
    }

-- the queues after a line whose call is done
after-done : (q : Queues) (c : Call) → refusal q.forests c ≡ 0 → after_line q (Some c) ≡ after_call q c
unfolding answer unless_refused amounts_after_line
after-done q c e = rw e

-- a refused call: its code, and nothing is changed
pub refused_performed : {w : List ℕ} {e : Refusal} {c : Call} {t : Tally} → Ready w t
    → code e ≡ refusal (forests_of w) c → Performed w c t (Err e) w
unfolding answer unless_refused refused amounts_after_line code_of
refused_performed {w} {e} {c} {t} Y p = go (code e) (sym p) (some_code e) refl
  where
    go : (k : ℕ) → refusal (forests_of w) c ≡ k → k ≢ 0 → code e ≡ k → Performed w c t (Err e) w
    go zero p m q = absurd (m refl)
    go (suc k) p m q =
        record {
          code = rw p q;
          done = tt;
          words = rw (p, ne_eqb (suc k) 0 (λ z. omega arith)) (sound_words w Y.sound);
        }

-- a call that is done
pub performed : {w w' : List ℕ} {c : Call} {t : Tally} {p : Reply} → refusal (forests_of w) c ≡ 0 → Done w c t p w'
    → Performed w c t (Ok p) w'
unfolding answer unless_refused code_of
performed {w} {c = c} e D =
    record {
      code = rw e (sym (perform_code (forests_of w) c));
      done = D;
      words = D.words;
    }

call_done : {w w' : List ℕ} {n item key : ℕ} {c : Call} {t u : Tally} → MayMove w n c t
    → item ≡ (perform (forests_of w) c).reply.item → key ≡ (perform (forests_of w) c).reply.key
    → Moves (queues_of w) c t u w' → Done w c t (record { item = item; key = key; tally = u }) w'
unfolding answer unless_refused
call_done {w} {c = c} M i k N =
    let e = M.allowed.done in
    record {
      item = rw e i;
      key = rw e k;
      links = rw e N.links;
      cuts = rw e N.cuts;
      words = N.words ∙ ap encode (sym (after-done (queues_of w) c e));
    }

-- ---- the seven calls

pub inserted_done : {w w' : List ℕ} {n h i k : ℕ} {t : Tally} → MayMove w n (Insert h i k) t
    → w' ≡ encode (after_call (queues_of w) (Insert h i k))
    → Done w (Insert h i k) t (record { item = i; key = k; tally = t }) w'
unfolding perform
inserted_done M e =
    call_done M refl refl (record { words = e; links = omega arith; cuts = omega arith })

-- the minimum of a heap that is not empty is in it, and in the table
minimum_heap : {w : List ℕ} {n h : ℕ} → Allowed w n (FindMin h)
    → heap_of (forests_of w) (minimum (forests_of w) h) ≡ suc h
minimum_heap {w} {n} {h} A =
    let t = forests_of w in
    (row_root t (formed A.store).disjoint h (minimum t h) (find_ok t h A.done)).0

pub minimum_item : {w : List ℕ} {n h : ℕ} → Allowed w n (FindMin h) → minimum (forests_of w) h < n
minimum_item {w} {n} {h} A =
    let t = forests_of w in
    omega (arith, heap_in t (minimum t h) (λ e. omega (arith, e, minimum_heap A)), items_size A.store)

-- T is refused as M is
pub as_find : {w : List ℕ} {n h : ℕ} → Allowed w n (ExtractMin h) → Allowed w n (FindMin h)
unfolding refusal
as_find A = record { store = A.store; done = A.done }

minimum_key : {w : List ℕ} {n h i k : ℕ} → Allowed w n (FindMin h) → i ≡ minimum (forests_of w) h
    → k ≡ item_key h (look n w) i → k ≡ key_of (forests_of w) (minimum (forests_of w) h)
minimum_key {w} {n} {h} {i} A p q =
    q ∙ ap (item_key h (look n w)) p ∙ key_at A.store h (minimum (forests_of w) h) (minimum_heap A)

pub found_min_done : {w : List ℕ} {n h i k : ℕ} {t : Tally} → MayMove w n (FindMin h) t
    → i ≡ minimum (forests_of w) h → k ≡ item_key h (look n w) i
    → Done w (FindMin h) t (record { item = i; key = k; tally = t }) w
unfolding perform amounts_after_call
found_min_done {w} M p q =
    call_done M p (minimum_key M.allowed p q)
    (record { words = sound_words w M.allowed.store.sound; links = omega arith; cuts = omega arith })

pub extracted_done : {w w' : List ℕ} {n h i k : ℕ} {t u : Tally} → MayMove w n (ExtractMin h) t
    → i ≡ minimum (forests_of w) h → k ≡ item_key h (look n w) i → Moves (queues_of w) (ExtractMin h) t u w'
    → Done w (ExtractMin h) t (record { item = i; key = k; tally = u }) w'
unfolding perform extract
extracted_done M p q N = call_done M p (minimum_key (as_find M.allowed) p q) N

pub decreased_done : {w w' : List ℕ} {n i k : ℕ} {t u : Tally} → MayMove w n (DecreaseKey i k) t
    → Moves (queues_of w) (DecreaseKey i k) t u w'
    → Done w (DecreaseKey i k) t (record { item = i; key = k; tally = u }) w'
unfolding perform decrease_key
decreased_done M N = call_done M refl refl N

-- a deleted item is in the table, and its key is by the amount of its heap
pub deleted_item : {w : List ℕ} {n i : ℕ} {t : Tally} → MayMove w n (Delete i) t → i < n
deleted_item M = item_inside (deleted_in_heap M)

pub deleted_done : {w w' : List ℕ} {n h i k : ℕ} {t u : Tally} → MayMove w n (Delete i) t
    → h ≡ heap_number (forests_of w) i → k ≡ item_key h (look n w) i → Moves (queues_of w) (Delete i) t u w'
    → Done w (Delete i) t (record { item = i; key = k; tally = u }) w'
unfolding perform delete
deleted_done {w} {h = h} {i = i} M e q N =
    let s = forests_of w in
    let d = delete_says (eqb (minimum s (heap_number s i)) i) i s in
    call_done M (sym d.item)
    (q ∙ key_at M.allowed.store h i (omega (arith, e, (deleted_in_heap M).live)) ∙ sym d.key) N

pub melded_done : {w w' : List ℕ} {n a b c d : ℕ} {t : Tally} → MayMove w n (Meld a b) t
    → c ≡ look n w Count a → d ≡ look n w Count b → w' ≡ encode (after_call (queues_of w) (Meld a b))
    → Done w (Meld a b) t (record { item = a; key = (c + d); tally = t }) w'
unfolding perform
melded_done {w} {w'} {n} {a} {b} M p q e =
    let ok = meld_ok (forests_of w) a b M.allowed.done in
    call_done M refl
    (omega (arith, p, q, count_at_lem M.allowed.store ok.0, count_at_lem M.allowed.store ok.1))
    (record { words = e; links = omega arith; cuts = omega arith })

pub raised_done : {w w' : List ℕ} {n h d c : ℕ} {t : Tally} → MayMove w n (Raise h d) t
    → c ≡ look n w Count h → w' ≡ encode (after_call (queues_of w) (Raise h d))
    → Done w (Raise h d) t (record { item = h; key = c; tally = t }) w'
unfolding perform
raised_done M p e =
    call_done M refl (p ∙ count_at_lem M.allowed.store (raise_heap M.allowed))
    (record { words = e; links = omega arith; cuts = omega arith })
