-- An item cut if a test says so, on words that hold forests: one law for each return.
use Rattle.std.proofs.Common.{◌≡◌, ℕ, ◌<◌, Bool, true, false, ◌&&◌, ◌≢◌, List, sym, refl, ap, ◌∙◌, arith, ne_eqb}
use Rattle.rules.specs.declared.Field.TheVariants.{Parent}
use Rattle.rules.specs.Calls.{has_parent}
use Rattle.rules.specs.Cut.{cut_if, cut_out}
use Rattle.rules.specs.Forests.{Forests, heap_of, key_of, none, parent_of}
use Rattle.rules.specs.Order.{comes_before, precedes}
use Rattle.rules.specs.WellFormed.{KeysFit}
use Rattle.rules.specs.Words.{look}
use Rattle.rules.proofs.Order.{before_keys}
use Rattle.store.specs.Families.{Holds}
use Rattle.store.specs.ItemOrder.{item_key}
use Rattle.store.proofs.ItemOrder.{key_held}
use Rattle.cut.specs.Ready.{Cascaded, Child, Member}
use Rattle.cut.proofs.Cutting.{member_heap, member_item, parent_word}

module _ {n : ℕ} {w : List ℕ} {amounts c m : ℕ → ℕ} {t : Forests} {h i p : ℕ} (H : Holds n w amounts c m t none)
    (M : Member t h i) (e : p ≡ look n w Parent i) where
  parent : p ≡ parent_of t i
  parent = e ∙ parent_word H (member_item H M)

  -- i is a root
  pub no_parent : p ≡ none → has_parent t i ≡ false
  unfolding has_parent
  no_parent z = let q : parent_of t i ≡ none = sym parent ∙ z in rw q

  -- where the test fails nothing is cut
  pub kept : {b : Bool} → b ≡ false → Cascaded n w amounts c m (cut_if b h i t) 0
  unfolding cut_if
  kept f = rw f (record { holds = H; cuts = refl })

  has : p ≢ none → has_parent t i ≡ true
  unfolding has_parent
  has z = rw (ne_eqb (parent_of t i) none (λ q. z (parent ∙ q)))

  pub parent_inside : p ≢ none → p < n
  parent_inside z =
      let u = M.disjoint.up i (λ q. omega (arith, q, M.heap)) (λ q. z (parent ∙ q)) in
      omega (arith, u.0, H.shape.heap_n, parent)

  pub child : p ≢ none → Child t h i
  child z = record { member = M; child = λ q. z (parent ∙ q) }

  -- where the test is only that it has a parent
  pub child_cut : {w' : List ℕ} {r : ℕ} → p ≢ none → Cascaded n w' amounts c m (cut_out h i t) r
      → Cascaded n w' amounts c m (cut_if (has_parent t i) h i t) r
  unfolding cut_if
  child_cut z k = rw (has z) k

  -- the order of the words is that of the forests
  module _ (fit : KeysFit t) where
    order : p ≢ none → comes_before (item_key h (look n w)) i p ≡ precedes t.key i (parent_of t i)
    unfolding KeysFit
    order z =
        let l : h < 8 = member_heap M in
        let u = M.disjoint.up i (λ q. omega (arith, q, M.heap)) (λ q. z (parent ∙ q)) in
        before_keys (item_key h (look n w)) (key_of t) i p (key_held H h i l (member_item H M) M.heap (fit i))
        (key_held H h p l (parent_inside z) (ap (heap_of t) parent ∙ u.1 ∙ M.heap) (fit p))
        ∙ ap (precedes t.key i) parent

    -- i does not come before its parent
    pub later_kept : {b : Bool} → p ≢ none → b ≡ comes_before (item_key h (look n w)) i p → b ≡ false
        → Cascaded n w amounts c m (cut_if (has_parent t i && precedes t.key i (parent_of t i)) h i t) 0
    later_kept {b} z d f = kept (rw (has z) (sym (order z) ∙ sym d ∙ f))

    -- it does
    pub before_cut : {b : Bool} {w' : List ℕ} {r : ℕ} → p ≢ none → b ≡ comes_before (item_key h (look n w)) i p
        → b ≡ true → Cascaded n w' amounts c m (cut_out h i t) r
        → Cascaded n w' amounts c m (cut_if (has_parent t i && precedes t.key i (parent_of t i)) h i t) r
    unfolding cut_if
    before_cut {b} z d f k = rw (has z, ← order z, ← d, f) k
