-- The changes that an entry into a heap makes, from those of its steps.
use Rattle.std.proofs.Common.{◌≡◌, ℕ, ◌+◌, List, sym, ap, ◌∙◌, subst}
use Rattle.rules.specs.declared.Field.TheVariants.{Count, Minimum}
use Rattle.rules.specs.Order.{lesser}
use Rattle.rules.specs.SetWord.{set_word}
use Rattle.rules.specs.Words.{look}
use Rattle.rules.proofs.LeastOfTwo.{lesser_keys}
use Rattle.store.specs.ItemOrder.{item_key}
use Rattle.store.specs.Says.{Changes, Says, Values}
use Rattle.store.specs.Siblings.{Link}
use Rattle.store.proofs.ItemOrder.{key_says}
use Rattle.heap.specs.Entered.{CountItemReady, item_counted}

pub count_item_changes : {n : ℕ} {w w₁ w₂ : List ℕ} {h i m c l : ℕ} → CountItemReady n w h i → m ≡ look n w Minimum h
    → c ≡ look n w Count h → l ≡ lesser (item_key h (look n w)) m i → Changes n w (set_word Count h (c + 1)) w₁
    → Changes n w₁ (set_word Minimum h l) w₂ → Changes n w (item_counted h i) w₂
unfolding item_counted
count_item_changes {n} {w} {w₁} {w₂} {h} {i} {m} {c} {l} r p q e a b =
    record {
      sized = b.sized;
      says = λ v s.
          subst (λ z. Says n w₂ (set_word Minimum h z (set_word Count h (v Count h + 1) v))) (least v s)
          (subst (λ z. Says n w₂ (set_word Minimum h l (set_word Count h (z + 1) v)))
          (q ∙ s.says Count h r.enter.heap) (b.says _ (a.says v s)));
    }
  where
    least : (v : Values) → Says n w v → l ≡ lesser (item_key h v) (v Minimum h) i
    least v s =
        e
        ∙ lesser_keys (item_key h (look n w)) (item_key h v) m i
        (λ d. key_says s h m r.enter.heap (subst (Link n) (sym p) r.minimum d))
        (λ _. key_says s h i r.enter.heap r.enter.item)
        ∙ ap (λ z. lesser (item_key h v) z i) (p ∙ s.says Minimum h r.enter.heap)
