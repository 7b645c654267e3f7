-- The changes that the steps of joining the rows and the words of two heaps make.
use Rattle.std.proofs.Common.{◌≡◌, ℕ, ◌+◌, List, sym, ap, ◌∙◌, subst, arith}
use Rattle.rules.specs.declared.Field.TheVariants.{Count, FirstTree, LastTree, Minimum}
use Rattle.rules.specs.Order.{lesser}
use Rattle.rules.specs.SetWord.{set_word}
use Rattle.rules.specs.Words.{look}
use Rattle.rules.proofs.LeastOfTwo.{lesser_keys}
use Rattle.store.specs.declared.Owner.TheVariants.{Row}
use Rattle.store.specs.Empty.{empty_heap}
use Rattle.store.specs.ItemOrder.{item_key}
use Rattle.store.specs.Says.{Changes, Says, Values}
use Rattle.store.specs.Siblings.{Link, concatenated}
use Rattle.store.proofs.ItemOrder.{key_says}
use Rattle.heap.specs.HeapsJoined.{JoinHeapsReady, MoveItemsReady, heaps_joined, rows_joined}

pub join_rows_changes : {n : ℕ} {w w₁ w₂ : List ℕ} {a b x y : ℕ} → MoveItemsReady n w a b → x ≡ look n w FirstTree b
    → y ≡ look n w LastTree b → Changes n w (concatenated (Row a) x y) w₁ → Changes n w₁ (empty_heap b) w₂
    → Changes n w (rows_joined a b) w₂
unfolding rows_joined
join_rows_changes {n} {w} {w₁} {w₂} {a} {b} {x} {y} r p q c d =
    record {
      sized = d.sized;
      says = λ v s.
          subst (λ z. Says n w₂ (empty_heap b (concatenated (Row a) (v FirstTree b) z v)))
          (q ∙ s.says LastTree b r.from)
          (subst (λ z. Says n w₂ (empty_heap b (concatenated (Row a) z y v))) (p ∙ s.says FirstTree b r.from)
          (d.says _ (c.says v s)));
    }

pub join_heaps_changes : {n : ℕ} {w w₁ w₂ w₃ : List ℕ} {a b c d p q l : ℕ} → JoinHeapsReady n w a b
    → c ≡ look n w Count a → d ≡ look n w Count b → p ≡ look n w Minimum a → q ≡ look n w Minimum b
    → l ≡ lesser (item_key a (look n w)) p q → Changes n w (rows_joined a b) w₁ → Changes n w₁ (set_word Minimum a l) w₂
    → Changes n w₂ (set_word Count a (c + d)) w₃ → Changes n w (heaps_joined a b) w₃
unfolding heaps_joined
join_heaps_changes {n} {w} {w₁} {w₂} {w₃} {a} {b} {c} {d} {p} {q} {l} r ec ed ep eq el x y z =
    record {
      sized = z.sized;
      says = λ v s.
          subst (λ k. Says n w₃ (set_word Count a k (set_word Minimum a (least v) (rows_joined a b v)))) (both v s)
          (subst (λ m. Says n w₃ (set_word Count a (c + d) (set_word Minimum a m (rows_joined a b v)))) (is_least v s)
          (z.says _ (y.says _ (x.says v s))));
    }
  where
    H : MoveItemsReady n w a b
    H = r.rows.heaps

    both : (v : Values) → Says n w v → c + d ≡ v Count a + v Count b
    both v s = omega (arith, s.says Count a H.into, s.says Count b H.from)

    least : Values → ℕ
    least v = lesser (item_key a v) (v Minimum a) (v Minimum b)

    is_least : (v : Values) → Says n w v → l ≡ least v
    is_least v s =
        el
        ∙ lesser_keys (item_key a (look n w)) (item_key a v) p q
        (λ e. key_says s a p H.into (subst (Link n) (sym ep) r.one e))
        (λ e. key_says s a q H.into (subst (Link n) (sym eq) r.two e))
        ∙ ap (λ m. lesser (item_key a v) m q) (ep ∙ s.says Minimum a H.into)
        ∙ ap (λ m. lesser (item_key a v) (v Minimum a) m) (eq ∙ s.says Minimum b H.from)
