-- The words after two heaps are joined are those of the rules' next queues.
use Rattle.std.proofs.Common.{◌≡◌, ℕ, ◌+◌, ◌<◌, ◌≤◌, cond, eqb, ◌≢◌, List, sym, ◌∙◌, arith}
use lib.ListN.{length-map}
use Rattle.rules.specs.declared.Call.TheVariants.{Meld}
use Rattle.rules.specs.declared.Field.TheVariants.{Amount, Count, FirstTree, LastTree, Minimum}
use Rattle.rules.specs.Calls.{meld, move_heap, perform}
use Rattle.rules.specs.Forests.{Forests, table_size}
use Rattle.rules.specs.Queues.{Queues, after_call, amount_of, amounts_after_call}
use Rattle.rules.specs.WellFormed.{Disjoint}
use Rattle.rules.specs.Words.{encode, encode_in, forests_of, look, queues_of, word, words_with}
use Rattle.rules.proofs.RankSixteen.{count_table}
use Rattle.rules.proofs.Refusals.{meld_ok}
use Rattle.store.specs.Says.{Changes, Says}
use Rattle.store.specs.Siblings.{Link}
use Rattle.store.proofs.Says.{says_as}
use Rattle.store.proofs.SetAt.{get_or_set}
use Rattle.heap.specs.Allowed.{Allowed}
use Rattle.heap.specs.HeapsJoined.{JoinHeapsReady, MoveItemsReady, heaps_joined, items_moved, states_moved}
use Rattle.heap.proofs.MeldKinds.{melded_word}
use Rattle.heap.proofs.MeldLists.{TwoHeaps}
use Rattle.heap.proofs.SameAmount.{moved_alike}
use Rattle.heap.proofs.RowLinks.{first_link, last_link, minimum-link}
use Rattle.heap.proofs.SoundStore.{amount_at, formed, items_size, queues, says_words, sound_says}

module _ {w : List ℕ} {n a b : ℕ} (A : Allowed w n (Meld a b)) where
  abbrev t : Forests
  t = forests_of w

  D : Disjoint t
  D = (formed A.store).disjoint

  ok : (a < 8) × (b < 8) × (a ≢ b)
  ok = meld_ok t a b A.done

  heaps : TwoHeaps t a b
  heaps = record { disjoint = D; into = ok.0; from = ok.1; two = ok.2 }

  e : table_size t ≡ n
  e = items_size A.store

  S : Says n w (word (amount_of (queues_of w)) t)
  S = sound_says A.store

  abbrev next : Queues
  next = after_call (queues_of w) (Meld a b)

  -- heap b is empty, so its amount is 0
  emptied : (g : ℕ) → amount_of next g ≡ cond (eqb b g) 0 (amount_of (queues_of w) g)
  unfolding amounts_after_call
  emptied g =
      get_or_set (queues_of w).amounts b g 0 0 (omega (arith, (queues A.store).amounts8, ok.1))

  -- a link read is one of the forests
  link_n : (x y : ℕ) → x ≡ y → Link (table_size t) y → Link n x
  link_n x y p k m = omega (arith, k (λ q. m (p ∙ q)), p, e)

  pub move_items_ready : MoveItemsReady n w a b
  move_items_ready = record { sized = S.sized; into = ok.0; from = ok.1 }

  pub counts_fit : look n w Count a + look n w Count b ≤ 4294967295
  unfolding word
  counts_fit =
      omega (
        arith,
        S.says Count a ok.0,
        S.says Count b ok.1,
        count_table t a,
        count_table t b,
        D.small,
      )

  -- the words of all items are moved; where both heaps have one amount the key words are those that they were
  abbrev pub Moved : List ℕ → Type 0
  Moved w₁ = Says n w₁ (items_moved a b (word (amount_of (queues_of w)) t))

  pub moved_items : {w₁ : List ℕ} → Changes n w (items_moved a b) w₁ → Moved w₁
  moved_items c = c.says _ S

  pub moved_states : {w₁ : List ℕ} {x y : ℕ} → x ≡ look n w Amount a → y ≡ look n w Amount b → x ≡ y
      → Changes n w (states_moved a b) w₁ → Moved w₁
  moved_states {w₁} p q z c =
      let o : amount_of (queues_of w) a ≡ amount_of (queues_of w) b =
      sym (amount_at A.store ok.0) ∙ sym p ∙ z ∙ q ∙ amount_at A.store ok.1 in
      says_as n w₁ _ _ (c.says _ S) (λ f i _. sym (moved_alike (amount_of (queues_of w)) t a b o f i))

  module _ {w₁ : List ℕ} (S₁ : Moved w₁) where
    pub join_heaps_ready : JoinHeapsReady n w₁ a b
    unfolding items_moved word
    join_heaps_ready =
        record {
          rows = record {
            heaps = record { sized = S₁.sized; into = ok.0; from = ok.1 };
            last = link_n _ _ (S₁.says LastTree a ok.0) (last_link t D a);
            first = link_n _ _ (S₁.says FirstTree b ok.1) (first_link t D b);
          };
          one = link_n _ _ (S₁.says Minimum a ok.0) (minimum-link t D a);
          two = link_n _ _ (S₁.says Minimum b ok.1) (minimum-link t D b);
          count =
              let p = S₁.says Count a ok.0 in
              let q = S₁.says Count b ok.1 in
              omega (arith, count_table t a, count_table t b, D.small);
        }

    pub meld_words : {w₂ : List ℕ} → Changes n w₁ (heaps_joined a b) w₂ → w₂ ≡ encode next
    unfolding encode_in words_with perform meld
    meld_words {w₂} c₂ =
        says_words (amount_of next) (meld a b t) (length-map t.heap (move_heap a b) ∙ e)
        (says_as n w₂ _ _ (c₂.says _ S₁)
        (melded_word heaps (formed A.store).keys (amount_of (queues_of w)) (amount_of next) emptied n e))
