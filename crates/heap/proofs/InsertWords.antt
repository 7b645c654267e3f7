-- The words after an insertion are those of the rules' next forests.
use Rattle.std.proofs.Common.{◌≡◌, ℕ, suc, ◌<◌, List, sym, refl, ◌∙◌, subst, arith, length-set, get_or-set_same, Some}
use Rattle.rules.specs.declared.Call.TheVariants.{Insert}
use Rattle.rules.specs.declared.Field.TheVariants.{Count, Minimum}
use Rattle.store.specs.declared.Owner.TheVariants.{Row}
use Rattle.rules.specs.Answers.{answer, unless_refused}
use Rattle.rules.specs.Calls.{insert, perform}
use Rattle.rules.specs.Forests.{Forests, count, heap_of, set_heap, set_key, table_size}
use Rattle.rules.specs.Order.{minimum}
use Rattle.rules.specs.Queues.{after_call, amount_of, amounts_after_call}
use Rattle.rules.specs.Theorems.{InRange}
use Rattle.rules.specs.WellFormed.{Disjoint, WellFormed}
use Rattle.rules.specs.Words.{encode, encode_in, forests_of, queues_of, words_with}
use Rattle.rules.proofs.KeepsWellFormed.{keeps_well_formed}
use Rattle.rules.proofs.RankSixteen.{count_table}
use Rattle.rules.proofs.Refusals.{insert_ok}
use Rattle.store.specs.Families.{Family, Holds, append_to, list_of, word_but}
use Rattle.store.specs.Says.{Changes, Says}
use Rattle.store.specs.Siblings.{AppendReady, Link, appended}
use Rattle.store.proofs.Holds.{append-holds, holds_says, reshape}
use Rattle.store.proofs.Ready.{append_ready}
use Rattle.store.proofs.Says.{says_as}
use Rattle.heap.specs.Allowed.{Allowed}
use Rattle.heap.specs.Entered.{CountItemReady, EnterReady, item_counted, entered}
use Rattle.heap.proofs.CountedKinds.{item_counted-word}
use Rattle.heap.proofs.EnteredKinds.{MayEnter, entered-word, family, out}
use Rattle.heap.proofs.RowLinks.{minimum-link}
use Rattle.heap.proofs.SoundStore.{formed, items_size, says_words, sound_holds, sound_says}

module _ {w : List ℕ} {n h i k : ℕ} (A : Allowed w n (Insert h i k)) where
  abbrev t : Forests
  t = forests_of w

  D : Disjoint t
  D = (formed A.store).disjoint

  ok : (h < 8) × (i < table_size t) × (heap_of t i ≡ 0)
  ok = insert_ok t h i k A.done

  enters : MayEnter t h i
  enters = record { disjoint = D; heap = ok.0; inside = ok.1; free = ok.2 }

  e : table_size t ≡ n
  e = items_size A.store

  pub enter_ready : EnterReady n w h i
  enter_ready = record { sized = (sound_says A.store).sized; heap = ok.0; item = omega (arith, ok.1, e) }

  module _ {w₁ : List ℕ} (c₁ : Changes n w (entered h i k) w₁) where
    held : Holds n w₁ (amount_of (queues_of w)) (count t) (minimum t) (set_heap i (suc h) (set_key i k t)) i
    held =
        let H = sound_holds A.store in
        record {
          next = 0;
          prev = 0;
          says = says_as n w₁ _ _ (c₁.says _ (holds_says H))
              (entered-word (amount_of (queues_of w)) enters k n);
          shape = reshape (set_heap i (suc h) (set_key i k t)) H.shape refl refl refl (length-set t.key i k) refl
              (length-set t.heap i (suc h));
        }

    joins : Family n (set_heap i (suc h) (set_key i k t)) (Row h)
    joins = family (amount_of (queues_of w)) enters k n

    pub row_ready : AppendReady n w₁ (Row h) i
    row_ready = append_ready held (Row h) joins enter_ready.item

    module _ {w₂ : List ℕ} (c₂ : Changes n w₁ (appended (Row h) i) w₂) where
      inserted : Says n w₂ (word_but (amount_of (queues_of w)) (count t) (minimum t) (insert h i k t))
      unfolding append_to insert list_of
      inserted =
          holds_says
          (append-holds (Row h) i held joins enter_ready.item (out (amount_of (queues_of w)) enters k h)
          (get_or-set_same t.heap i (suc h) 0 ok.1) c₂)

      pub count_item_ready : CountItemReady n w₂ h i
      unfolding word_but
      count_item_ready =
          record {
            enter = record { sized = inserted.sized; heap = ok.0; item = enter_ready.item };
            minimum = subst (Link n) (sym (inserted.says Minimum h ok.0))
                (subst (λ m. Link m (minimum t h)) e (minimum-link t D h));
            count = omega (arith, inserted.says Count h ok.0, count_table t h, D.small);
          }

      -- the keys are of 32 bits, the new one too
      next_formed : k < 4294967296 → WellFormed (insert h i k t)
      unfolding answer unless_refused perform InRange
      next_formed l = rw A.done at (keeps_well_formed t (formed A.store) (Some (Insert h i k)) l)

      pub insert_words : {w₃ : List ℕ} → k < 4294967296 → Changes n w₂ (item_counted h i) w₃
          → w₃ ≡ encode (after_call (queues_of w) (Insert h i k))
      unfolding insert perform amounts_after_call encode_in words_with
      insert_words {w₃} l c₃ =
          says_words (amount_of (queues_of w)) (insert h i k t) (length-set t.heap i (suc h) ∙ e)
          (says_as n w₃ _ _ (c₃.says _ inserted)
          (item_counted-word (amount_of (queues_of w)) enters k (next_formed l).keys n))
