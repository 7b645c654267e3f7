-- The heap fields, state words and counts once the items of heap b are heap a's.
use Rattle.std.proofs.Common.{◌≡◌, ℕ, zero, suc, ◌+◌, ◌*◌, ◌≤◌, Bool, true, false, cond, eqb, ◌≢◌, List, [], ◌∷◌, map, sym, refl, ap, ◌∙◌, arith, eq-eqb, ne_eqb, eqb-true}
use borrow.Author.Tests.{eqb-false}
use Rattle.rules.specs.Calls.{move_heap}
use Rattle.rules.specs.Lists.{indicator, sum_by}
use Rattle.rules.specs.Words.{state_of}
use Rattle.rules.proofs.Occurs.{by_item, eqb_self}
use Rattle.heap.specs.HeapsJoined.{moved_state}

pub free_stays : (a b g : ℕ) → eqb (move_heap a b g) 0 ≡ eqb g 0
unfolding move_heap
free_stays a b zero = refl
free_stays a b (suc g) =
    ne_eqb (suc (cond (eqb g b) a g)) 0 (λ e. omega arith) ∙ sym (ne_eqb (suc g) 0 (λ e. omega arith))

pub heap_stays : (a b g : ℕ) → g ≢ suc b → move_heap a b g ≡ g
unfolding move_heap
heap_stays a b zero n = refl
heap_stays a b (suc g) n = rw (ne_eqb g b (λ e. n (ap suc e)))

pub heap_moves : (a b : ℕ) → move_heap a b (suc b) ≡ suc a
unfolding move_heap
heap_moves a b = rw (eqb_self b)

-- the code tests a state word, the rules move a heap field
pub state_moves : (a b g m : ℕ) → m ≤ 1 → moved_state a b (state_of g m) ≡ state_of (move_heap a b g) m
unfolding moved_state state_of move_heap
state_moves a b zero m k =
    rw (ne_eqb 0 (1 + 2 * b) (λ e. omega arith), ne_eqb 0 (2 + 2 * b) (λ e. omega arith))
state_moves a b (suc g) m k = go (eqb g b) refl m k
  where
    go : (u : Bool) → eqb g b ≡ u → (m : ℕ) → m ≤ 1
        → cond (eqb (1 + 2 * g + m) (1 + 2 * b)) (1 + 2 * a)
        (cond (eqb (1 + 2 * g + m) (2 + 2 * b)) (2 + 2 * a) (1 + 2 * g + m))
        ≡ 1 + 2 * cond u a g + m
    go true e zero k =
        let d : g ≡ b = eqb-true g b e in
        rw (eq-eqb (1 + 2 * g + 0) (1 + 2 * b) (omega arith)) (omega arith)
    go true e (suc zero) k =
        let d : g ≡ b = eqb-true g b e in
        rw (ne_eqb (1 + 2 * g + 1) (1 + 2 * b) (λ q. omega arith), eq-eqb (1 + 2 * g + 1) (2 + 2 * b) (omega arith))
        (omega arith)
    go true e (suc (suc m)) k = absurd (omega arith)
    go false e m k =
        let d : g ≢ b = eqb-false g b e in
        rw (
          ne_eqb (1 + 2 * g + m) (1 + 2 * b) (λ q. d (omega arith)),
          ne_eqb (1 + 2 * g + m) (2 + 2 * b) (λ q. d (omega arith)),
        )

-- the items of a heap that is not a: none of b, and all of any other
module _ (a b g : ℕ) (n : g ≢ a) where
  one_moves : (t : Bool) → eqb b g ≡ t → (x : ℕ)
      → indicator (eqb (move_heap a b x) (suc g)) ≡ cond t 0 (indicator (eqb x (suc g)))
  one_moves true e = by_item (suc b) (rw (heap_moves a b, ne_eqb (suc a) (suc g) (λ q. n (omega arith))))
      (λ y m. rw (heap_stays a b y m, ne_eqb y (suc g) (λ q. m (q ∙ ap suc (sym (eqb-true b g e))))))
  one_moves false e =
      let d : b ≢ g = eqb-false b g e in
      by_item (suc b)
      (rw (
        heap_moves a b,
        ne_eqb (suc a) (suc g) (λ q. n (omega arith)),
        ne_eqb (suc b) (suc g) (λ q. d (omega arith)),
      ))
      (λ y m. rw (heap_stays a b y m))

  pub counts_move : (l : List ℕ)
      → sum_by (λ v. indicator (eqb v (suc g))) (map (move_heap a b) l)
      ≡ cond (eqb b g) 0 (sum_by (λ v. indicator (eqb v (suc g))) l)
  unfolding sum_by
  counts_move l = go (eqb b g) refl l
    where
      go : (t : Bool) → eqb b g ≡ t → (l : List ℕ)
          → sum_by (λ v. indicator (eqb v (suc g))) (map (move_heap a b) l)
          ≡ cond t 0 (sum_by (λ v. indicator (eqb v (suc g))) l)
      go true e [] = refl
      go true e (x ∷ l) = omega (arith, one_moves true e x, go true e l)
      go false e [] = refl
      go false e (x ∷ l) = omega (arith, one_moves false e x, go false e l)
