-- X of an item that is not the minimum of its heap: it is cut if it has a parent, and leaves the row.
use Rattle.std.proofs.Common.{◌≡◌, ℕ, suc, ◌+◌, ◌≤◌, Bool, true, false, cond, eqb, ◌≢◌, List, get_or, set, sym, refl, ap, ◌∙◌, arith, ne_eqb, Some}
use Rattle.rules.specs.declared.Call.TheVariants.{Delete}
use Rattle.rules.specs.declared.Tally.{Tally}
use Rattle.rules.specs.Answers.{answer, unless_refused}
use Rattle.rules.specs.Calls.{Outcome, delete, delete_as, done, has_parent, perform, release, remove_root, set_free}
use Rattle.rules.specs.Cut.{Cuts, cut_if}
use Rattle.rules.specs.Forests.{Forests, count, heap_number, heap_of, key_of, none, parent_of}
use Rattle.rules.specs.Lists.{sum_by}
use Rattle.rules.specs.Order.{minimum}
use Rattle.rules.specs.Queues.{amount_of, amounts_after_call, amounts_left}
use Rattle.rules.specs.Theorems.{InRange}
use Rattle.rules.specs.WellFormed.{WellFormed}
use Rattle.rules.specs.Words.{encode_in, forests_of, queues_of, words_with}
use Rattle.rules.proofs.CallsKeep.{cut_child_formed, has_none}
use Rattle.rules.proofs.CountAfter.{not_minimum_two}
use Rattle.rules.proofs.Cutting.{cut_if_heap, cut_if_key, cut_out_root}
use Rattle.rules.proofs.Excused.{to_formed}
use Rattle.rules.proofs.KeepsWellFormed.{keeps_well_formed}
use Rattle.rules.proofs.MinimumAfter.{minimum_kept, removed-minimum}
use Rattle.rules.proofs.ReplyBounds.{Small, answer-small}
use Rattle.cut.specs.Ready.{CascadeReady, Cascaded, Member}
use Rattle.consolidate.specs.Removed.{RemovesRoot, RootOf, RootReady}
use Rattle.consolidate.specs.Stored.{Rowed}
use Rattle.consolidate.proofs.RowedWords.{holds_rowed, rowed_words}
use Rattle.heap.specs.Allowed.{Moves, Store}
use Rattle.heap.specs.Moving.{CutsIf, DeleteOther}
use Rattle.heap.proofs.Deleting.{deleted_in_heap}
use Rattle.heap.proofs.SoundStore.{formed, sound_holds}

module _ {w : List ℕ} {n h i : ℕ} {tally : Tally} (P : DeleteOther w n h i tally) where
  abbrev t : Forests
  t = forests_of w

  S : Store w n
  S = P.may.allowed.store

  W : WellFormed (forests_of w)
  W = formed S

  live : heap_of (forests_of w) i ≢ 0
  live = (deleted_in_heap P.may).live

  -- i is not the minimum of its heap, as the rules name it
  no : minimum (forests_of w) (heap_number (forests_of w) i) ≢ i
  no z = P.other (rw P.heap z)

  -- i is an item of heap h
  owned : Member t h i
  owned = record { disjoint = W.disjoint; heap = omega (arith, live, P.heap) }

  pub other_ready : CascadeReady n w h i
  other_ready =
      record {
        amounts = amount_of (queues_of w);
        counts = count t;
        minima = minimum t;
        forests = t;
        holds = sound_holds S;
        member = owned;
      }

  module _ {w₁ : List ℕ} {r : ℕ} (b : CutsIf (λ s. has_parent s i) n w h i w₁ r) where
    abbrev c : Cuts
    c = cut_if (has_parent t i) h i t

    cutted : Cascaded n w₁ (amount_of (queues_of w)) (count t) (minimum t) c r
    cutted = b.gives (amount_of (queues_of w)) (count t) (minimum t) t (sound_holds S) W.keys owned

    U : WellFormed c.forests
    U = rw P.heap (cut_child_formed t W i live)

    heaps : c.forests.heap ≡ t.heap
    heaps = cut_if_heap (has_parent t i) h i t

    keys : c.forests.key ≡ t.key
    keys = cut_if_key (has_parent t i) h i t

    -- the minima are as they were: neither heaps nor keys changed
    kept : (g : ℕ) → minimum t g ≡ minimum c.forests g
    kept g =
        sym (minimum_kept t c.forests W U g
        (λ x q. (sym (ap (λ l. get_or l x 0) heaps) ∙ q, ap (λ l. get_or l x 0) keys))
        (λ x q _. ap (λ l. get_or l x 0) heaps ∙ q))

    -- after the cut i is a root of h
    rowed : Rowed n h (minimum t h) w₁ (amount_of (queues_of w)) c.forests
    unfolding count
    rowed =
        holds_rowed (amount_of (queues_of w)) c.forests U.disjoint h cutted.holds
        (λ g _. ap (λ v. sum_by (λ x. cond (eqb x (suc g)) 1 0) v) (sym heaps)) (λ g _ _. kept g)

    rooted : RootOf c.forests h i
    unfolding cut_if
    rooted =
        record {
          disjoint = U.disjoint;
          member = ap (λ l. get_or l i 0) heaps ∙ omega (arith, live, P.heap);
          root = go (has_parent t i) refl;
        }
      where
        go : (b : Bool) → has_parent t i ≡ b → parent_of (cut_if b h i t).forests i ≡ none
        go true z = cut_out_root h i t W.disjoint live
        go false z = has_none t i z

    pub root_ready : RootReady n w₁ h i
    root_ready =
        record {
          least = minimum t h;
          amounts = amount_of (queues_of w);
          forests = c.forests;
          rowed = rowed;
          rooted = rooted;
        }

    abbrev last : Forests
    last = remove_root h i c.forests

    done_as : (delete i t).next ≡ last
    unfolding delete delete_as
    done_as = rw (ne_eqb (minimum t (heap_number t i)) i no, ← P.heap)

    -- the forests of the rules after the call
    last_formed : WellFormed last
    unfolding answer unless_refused perform InRange
    last_formed = rw (← done_as) (rw P.may.allowed.done at (keeps_well_formed t W (Some (Delete i)) tt))

    least : minimum t h ≡ minimum last h
    unfolding remove_root set_free release
    least =
        sym (removed-minimum t last W last_formed i live no (ap (λ l. set l i 0) heaps)
        (ap (λ l. set l i 0) keys) h)

    module _ {w₂ : List ℕ} (d : RemovesRoot n w₁ h i w₂) where
      last_rowed : Rowed n h (minimum last h) w₂ (amount_of (queues_of w)) last
      unfolding RemovesRoot
      last_rowed = rw (← least) (d (minimum t h) (amount_of (queues_of w)) c.forests rowed rooted)

      pub other_moves : {u : Tally} → u.links ≡ tally.links → u.cuts ≡ tally.cuts + r
          → Moves (queues_of w) (Delete i) tally u w₂
      unfolding perform delete delete_as encode_in words_with amounts_after_call amounts_left
      other_moves el ec =
          record {
            words = rw amounts_stay (rowed_words (amount_of (queues_of w)) last last_formed.disjoint last_rowed
                ∙ sym (ap (words_with (amount_of (queues_of w))) done_as));
            links = omega (arith, el, ap (λ (o : Outcome). o.reply.links) as_other);
            cuts = omega (arith, ec, cutted.cuts, ap (λ (o : Outcome). o.reply.cuts) as_other);
          }
        where
          -- the minimum is still there, so the heap is not empty
          amounts_stay : eqb (count t (heap_number t i)) 1 ≡ false
          amounts_stay =
              ne_eqb (count t (heap_number t i)) 1 (λ z.
              omega (arith, z, not_minimum_two t (to_formed t W) i live no))

          as_other : delete i t ≡ done i (key_of t i) 0 c.cuts last
          as_other = rw (ne_eqb (minimum t (heap_number t i)) i no, ← P.heap)

    pub other_room : tally.cuts + r ≤ 4294967295
    unfolding answer unless_refused perform InRange delete delete_as
    other_room =
        let s : Small (delete i t).reply =
        rw P.may.allowed.done at (answer-small t W (Some (Delete i)) tt) in
        let e : (delete i t).reply.cuts ≡ c.cuts =
        rw (ne_eqb (minimum t (heap_number t i)) i no, ← P.heap) in
        omega (arith, s.moves, cutted.cuts, P.may.room.cuts)
