-- D on the words of a sound store: what its steps need, and what the words are at the end.
use Rattle.std.proofs.Common.{◌≡◌, ℕ, suc, ◌+◌, ◌<◌, ◌≤◌, Bool, true, false, cond, ◌&&◌, eqb, ◌≢◌, List, get_or, set, sym, refl, ap, ◌∙◌, arith, eqb-true, Some}
use borrow.Author.Tests.{eqb-false}
use Rattle.rules.specs.declared.Call.TheVariants.{DecreaseKey}
use Rattle.rules.specs.declared.Field.TheVariants.{Minimum}
use Rattle.rules.specs.declared.Tally.{Tally}
use Rattle.rules.specs.Answers.{answer, unless_refused}
use Rattle.rules.specs.Calls.{decrease_key, has_parent, perform}
use Rattle.rules.specs.Cut.{cut_if}
use Rattle.rules.specs.Forests.{Forests, count, heap_number, heap_of, key_of, none, parent_of, set_key}
use Rattle.rules.specs.Lists.{sum_by}
use Rattle.rules.specs.Order.{lesser, minimum, precedes}
use Rattle.rules.specs.Queues.{amount_of, amounts_after_call}
use Rattle.rules.specs.SetWord.{set_word}
use Rattle.rules.specs.Theorems.{InRange, IsMinimum}
use Rattle.rules.specs.WellFormed.{KeysFit, WellFormed}
use Rattle.rules.specs.Words.{encode_in, forests_of, look, queues_of, words_with}
use Rattle.rules.proofs.Excused.{Formed, FormedBut, exact, to_formed}
use Rattle.rules.proofs.KeepsWellFormed.{fits_set, keeps_well_formed}
use Rattle.rules.proofs.KeyKeeps.{key_formed}
use Rattle.rules.proofs.LeastOfTwo.{lesser_keys, lesser_two}
use Rattle.rules.proofs.Lists.{decrease_heap, decrease_key_lem}
use Rattle.rules.proofs.Members.{heap_in}
use Rattle.rules.proofs.Minimum.{minimum_first}
use Rattle.rules.proofs.MinimumAfter.{count_one, lowered-minimum, lowered_other}
use Rattle.rules.proofs.Refusals.{decrease_ok}
use Rattle.rules.proofs.ReplyBounds.{Small, answer-small}
use Rattle.store.specs.Families.{Holds, word_but}
use Rattle.store.specs.ItemOrder.{TwoItems, item_key, key_stored}
use Rattle.store.specs.Says.{Changes, Sized}
use Rattle.store.proofs.Encoded.{holds-encode}
use Rattle.store.proofs.Holds.{holds_says}
use Rattle.store.proofs.ItemOrder.{key_held}
use Rattle.store.proofs.Listed.{item_not_none}
use Rattle.store.proofs.Scalars.{instead, key_holds, minimum-holds}
use Rattle.cut.specs.Ready.{CascadeReady, Cascaded, Member}
use Rattle.heap.specs.Allowed.{MayMove, Moves, Store}
use Rattle.heap.specs.Moving.{CutsIf, InHeap}
use Rattle.heap.proofs.ItemHeap.{heap_inside, item_inside}
use Rattle.heap.proofs.SoundStore.{formed, items_size, sound_holds}

module _ {w : List ℕ} {n i k : ℕ} {tally : Tally} (P : MayMove w n (DecreaseKey i k) tally) where
  abbrev t : Forests
  t = forests_of w

  S : Store w n
  S = P.allowed.store

  W : WellFormed (forests_of w)
  W = formed S

  ok : (heap_of (forests_of w) i ≢ 0) × (k ≤ key_of (forests_of w) i)
  ok = decrease_ok (forests_of w) i k P.allowed.done

  pub in_heap_lem : InHeap w n i
  in_heap_lem = record { store = S; live = ok.0 }

  abbrev h : ℕ
  h = heap_number (forests_of w) i

  F : Formed (forests_of w)
  F = to_formed (forests_of w) W

  -- with its new key i may come before its parent: the forests are well-formed but for that
  lowered : FormedBut i exact (set_key i k (forests_of w))
  lowered = key_formed (forests_of w) W.disjoint i k ok.0 ok.1 F.ordered F.ranked

  member : Member (set_key i k (forests_of w)) h i
  member = record { disjoint = lowered.disjoint; heap = omega (arith, ok.0) }

  -- the new key is of 32 bits, as the old one
  keys_fit : KeysFit (set_key i k (forests_of w))
  unfolding KeysFit
  keys_fit = fits_set t.key i k W.keys (omega (arith, ok.1, W.keys i))

  module _ {w₁ : List ℕ} (a : Changes n w (key_stored h i k) w₁) where
    lowered-holds : Holds n w₁ (amount_of (queues_of w)) (count t) (minimum t) (set_key i k t) none
    lowered-holds = key_holds (sound_holds S) h i k (item_inside in_heap_lem) member.heap a

    pub cut_ready : CascadeReady n w₁ h i
    cut_ready =
        record {
          amounts = amount_of (queues_of w);
          counts = count t;
          minima = minimum t;
          forests = set_key i k t;
          holds = lowered-holds;
          member = member;
        }

    module _ {w₂ : List ℕ} {r : ℕ}
        (b : CutsIf (λ s. has_parent s i && precedes s.key i (parent_of s i)) n w₁ h i w₂ r) where
      abbrev after : Forests
      after = (decrease_key i k t).next

      cutted : Cascaded n w₂ (amount_of (queues_of w)) (count t) (minimum t)
          (cut_if (has_parent (set_key i k t) i && precedes (set t.key i k) i (parent_of t i)) h i (set_key i k t)) r
      cutted = b.gives (amount_of (queues_of w)) (count t) (minimum t) (set_key i k t) lowered-holds keys_fit member

      holds : Holds n w₂ (amount_of (queues_of w)) (count t) (minimum t) after none
      unfolding decrease_key
      holds = cutted.holds

      next_formed : WellFormed after
      unfolding answer unless_refused perform InRange
      next_formed = rw P.allowed.done at (keeps_well_formed t W (Some (DecreaseKey i k)) tt)

      pub sized₂ : Sized n w₂
      sized₂ = holds.says.sized

      least_word : {m : ℕ} → m ≡ look n w₂ Minimum h → m ≡ minimum t h
      unfolding word_but
      least_word e = e ∙ (holds_says holds).says Minimum h (heap_inside in_heap_lem)

      old : IsMinimum t h (minimum t h)
      unfolding count
      old = minimum_first t W h (count_one t.heap h i (omega (arith, ok.0)))

      old_inside : minimum t h < n
      old_inside =
          let q = heap_in t (minimum t h) (λ z. omega (arith, z, old.inside)) in
          omega (arith, items_size S)

      pub two_ready : {m : ℕ} → m ≡ look n w₂ Minimum h → TwoItems n w₂ m i
      two_ready e =
          record {
            sized = sized₂;
            one = λ _. rw (least_word e) old_inside;
            two = λ _. item_inside in_heap_lem;
          }

      -- the keys after the call, by the words
      key_after : (x : ℕ) → heap_of t x ≡ suc h → item_key h (look n w₂) x ≡ key_of after x
      unfolding KeysFit
      key_after x e =
          let z = ap (λ l. get_or l x 0) (decrease_heap i k t) ∙ e in
          let q = heap_in t x (λ y. omega (arith, y, e)) in
          key_held holds h x (heap_inside in_heap_lem) (omega (arith, items_size S)) z (next_formed.keys x)

      module _ {w₃ : List ℕ} {m l : ℕ} (em : m ≡ look n w₂ Minimum h) (el : l ≡ lesser (item_key h (look n w₂)) m i)
          (d : Changes n w₂ (set_word Minimum h l) w₃) where
        least : l ≡ cond (precedes after.key i (minimum t h)) i (minimum t h)
        least =
            el ∙ ap (λ x. lesser (item_key h (look n w₂)) x i) (least_word em)
            ∙ lesser_keys (item_key h (look n w₂)) (key_of after) (minimum t h) i
            (λ _. key_after (minimum t h) old.inside) (λ _. key_after i member.heap)
            ∙ lesser_two (key_of after) (minimum t h) i
            (item_not_none holds.shape (minimum t h) old_inside)
            (item_not_none holds.shape i (item_inside in_heap_lem))

        minima : (g : ℕ) → g < 8 → instead (minimum t) h l g ≡ minimum after g
        minima g _ = go (eqb h g) refl
          where
            go : (b : Bool) → eqb h g ≡ b → cond b l (minimum t g) ≡ minimum after g
            go true q =
                least
                ∙ sym
                (lowered-minimum t after W next_formed i k ok.0 ok.1 (decrease_heap i k t) (decrease_key_lem i k t))
                ∙ ap (minimum after) (eqb-true h g q)
            go false q =
                sym
                (lowered_other t after W next_formed i k ok.0 ok.1 (decrease_heap i k t) (decrease_key_lem i k t) g
                (λ z. eqb-false h g q (sym z)))

        words : w₃ ≡ words_with (amount_of (queues_of w)) after
        unfolding count
        words =
            holds-encode (minimum-holds holds h l d)
            (λ g _. ap (λ v. sum_by (λ x. cond (eqb x (suc g)) 1 0) v) (sym (decrease_heap i k t))) minima

        pub decrease_moves : {u : Tally} → u.links ≡ tally.links → u.cuts ≡ tally.cuts + r
            → Moves (queues_of w) (DecreaseKey i k) tally u w₃
        unfolding perform decrease_key amounts_after_call encode_in words_with
        decrease_moves el ec =
            record { words = words; links = omega (arith, el); cuts = omega (arith, ec, cutted.cuts) }

      pub room_cuts : tally.cuts + r ≤ 4294967295
      unfolding answer unless_refused perform InRange decrease_key
      room_cuts =
          let s : Small (decrease_key i k t).reply =
          rw P.allowed.done at (answer-small t W (Some (DecreaseKey i k)) tt) in
          omega (arith, s.moves, cutted.cuts, P.room.cuts)
