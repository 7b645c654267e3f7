-- The heap of an item, from its state word.
use Rattle.std.proofs.Common.{◌≡◌, ℕ, zero, suc, ◌+◌, ◌-◌, ◌*◌, ◌/◌, ◌<◌, ◌≤◌, ◌≢◌, List, refl, ap, ◌∙◌, arith}
use Rattle.rules.specs.declared.Field.TheVariants.{State}
use Rattle.rules.specs.Forests.{heap_number, heap_of, mark_of}
use Rattle.rules.specs.Words.{forests_of, look, state_of}
use Rattle.rules.proofs.Members.{heap_in}
use Rattle.heap.specs.Moving.{InHeap}
use Rattle.heap.proofs.SoundStore.{formed, items_size, state_at}

-- a state word of an item in a heap is 1 + 2 * heap, plus its mark
state_heap_lem : (v m : ℕ) → v ≢ 0 → m ≤ 1 → (state_of v m - 1) / 2 ≡ v - 1
unfolding state_of
state_heap_lem zero m n k = absurd (n refl)
state_heap_lem (suc h) m n k = let e : 1 + 2 * h + m - 1 ≡ 2 * h + m = omega arith in rw e (omega arith)

module _ {w : List ℕ} {n i : ℕ} (P : InHeap w n i) where
  pub item_inside : i < n
  item_inside = let k = heap_in (forests_of w) i P.live in omega (arith, items_size P.store)

  pub state_some : {v : ℕ} → v ≡ look n w State i → 1 ≤ v
  unfolding state_of
  state_some {v} e = go (heap_of (forests_of w) i) P.live (e ∙ state_at P.store item_inside)
    where
      go : (g : ℕ) → g ≢ 0 → v ≡ state_of g (mark_of (forests_of w) i) → 1 ≤ v
      go zero n q = absurd (n refl)
      go (suc g) n q = omega arith

  pub heap_number_lem : {v : ℕ} → v ≡ look n w State i → (v - 1) / 2 ≡ heap_number (forests_of w) i
  heap_number_lem e =
      ap (λ u. (u - 1) / 2) (e ∙ state_at P.store item_inside)
      ∙ state_heap_lem (heap_of (forests_of w) i) (mark_of (forests_of w) i) P.live ((formed P.store).disjoint.bit i)

  pub heap_inside : heap_number (forests_of w) i < 8
  heap_inside = omega (arith, (formed P.store).disjoint.heaps i, P.live)

  -- h is the number of its heap
  pub item_heap : {h : ℕ} → h ≡ heap_number (forests_of w) i → heap_of (forests_of w) i ≡ suc h
  item_heap e = omega (arith, e, P.live)
