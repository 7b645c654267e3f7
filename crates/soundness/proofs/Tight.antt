-- The one count: where each list holds none but its own items, each once, and all lists together hold as many as there
-- are, each holds all of its own.
use Prim.Native.Nat.{ℕ, zero, suc, ◌+◌, ◌*◌, ◌≤◌, ◌<◌}
use mathlib.Core.Path.{◌≡◌, refl, sym, ◌∙◌, subst}
use mathlib.Core.Logic.{◌≢◌}
use mathlib.Core.List.{List}
use mathlib.Core.Bool.{Bool, true, false, not, ◌&&◌}
use native.Mathlib.Nat.{le_refl}
use native.Mathlib.Omega.{arith}
use lib.ListN.{length}
use lib.Dec.{eqb, eqb-zero-suc, eqb-suc-suc}
use borrow.Author.Tests.{eqb-true, eqb-false, ne_eqb}
use Rattle.rules.specs.Lists.{indicator, sum_to, delta, occurs}
use Rattle.rules.specs.Forests.{none}
use Rattle.rules.proofs.Occurs.{and_true, and_false}
use Rattle.rules.proofs.SumTo.{sum_to_le, sum_to_cong, sum_to-add, sum_to_zero, sum_to_swap, sum_to_pick, sum_by_occurs}
use Rattle.rules.proofs.Follow.{sum_ones, to_ones}

pub sum_to_tight : (n : ℕ) (f g : ℕ → ℕ) → ((x : ℕ) → x < n → f x ≤ g x) → sum_to n g ≤ sum_to n f → (x : ℕ) → x < n
    → f x ≡ g x
unfolding sum_to
sum_to_tight zero f g h e x k = absurd (omega arith)
sum_to_tight (suc n) f g h e x k =
    let a : sum_to n f ≤ sum_to n g = sum_to_le n f g (λ x k. h x (omega arith)) in
    let b : f n ≤ g n = h n (le_refl (suc n)) in
    go (eqb x n) refl (λ i. sum_to_tight n f g (λ x k. h x (omega arith)) (omega arith) x i)
  where
    go : (t : Bool) → eqb x n ≡ t → (x < n → f x ≡ g x) → f x ≡ g x
    go true q ih =
        let a : sum_to n f ≤ sum_to n g = sum_to_le n f g (λ x k. h x (omega arith)) in
        let b : f n ≤ g n = h n (le_refl (suc n)) in
        subst (λ y. f y ≡ g y) (sym (eqb-true x n q)) (omega arith)
    go false q ih = let m : x ≢ n = eqb-false x n q in ih (omega arith)

-- the lists' lengths, by item
pub lists_sum : (m n : ℕ) (rows : ℕ → List ℕ) → ((h : ℕ) → h < m → (x : ℕ) → n ≤ x → occurs x (rows h) ≡ 0)
    → sum_to m (λ h. length (rows h)) ≡ sum_to n (λ x. sum_to m (λ h. occurs x (rows h)))
lists_sum m n rows out =
    sum_to_cong m (λ h. length (rows h)) (λ h. sum_to n (λ x. occurs x (rows h)))
    (λ h k. sym (sum_ones (rows h)) ∙ sum_by_occurs n (λ _. 1) (rows h) (out h k)
    ∙ sum_to_cong n (λ x. occurs x (rows h) * 1) (λ x. occurs x (rows h)) (λ x _. omega arith))
    ∙ sum_to_swap m n (λ h x. occurs x (rows h))

module _ (m n : ℕ) (rows children : ℕ → List ℕ) (row_due child_due : ℕ → ℕ → ℕ)
    (rows_out : (h : ℕ) → h < m → (x : ℕ) → n ≤ x → occurs x (rows h) ≡ 0)
    (children_out : (p : ℕ) → p < n → (x : ℕ) → n ≤ x → occurs x (children p) ≡ 0) where
  abbrev here : ℕ → ℕ
  here x = sum_to m (λ h. occurs x (rows h)) + sum_to n (λ p. occurs x (children p))

  abbrev due : ℕ → ℕ
  due x = sum_to m (λ h. row_due h x) + sum_to n (λ p. child_due p x)

  pub both_sum : sum_to m (λ h. length (rows h)) + sum_to n (λ p. length (children p)) ≡ sum_to n here
  both_sum =
      omega (
        arith,
        lists_sum m n rows rows_out,
        lists_sum n n children children_out,
        sum_to-add n
            (λ x. sum_to m (λ h. occurs x (rows h))) (λ x. sum_to n (λ p. occurs x (children p))),
      )

  module _ (rows-le : (h : ℕ) → h < m → (x : ℕ) → occurs x (rows h) ≤ row_due h x)
      (children-le : (p : ℕ) → p < n → (x : ℕ) → occurs x (children p) ≤ child_due p x)
      (all : sum_to m (λ h. length (rows h)) + sum_to n (λ p. length (children p)) ≡ sum_to n due) where
    rows_low : (x : ℕ) → sum_to m (λ h. occurs x (rows h)) ≤ sum_to m (λ h. row_due h x)
    rows_low x = sum_to_le m (λ h. occurs x (rows h)) (λ h. row_due h x) (λ h k. rows-le h k x)

    children_low : (x : ℕ) → sum_to n (λ p. occurs x (children p)) ≤ sum_to n (λ p. child_due p x)
    children_low x = sum_to_le n (λ p. occurs x (children p)) (λ p. child_due p x) (λ p k. children-le p k x)

    even : (x : ℕ) → x < n → here x ≡ due x
    even = sum_to_tight n here due (λ x _. omega (arith, rows_low x, children_low x)) (omega (arith, both_sum, all))

    pub tight_rows : (x h : ℕ) → x < n → h < m → occurs x (rows h) ≡ row_due h x
    tight_rows x h i k =
        sum_to_tight m (λ h. occurs x (rows h)) (λ h. row_due h x) (λ h k. rows-le h k x)
        (omega (arith, even x i, rows_low x, children_low x)) h k

    pub tight_children : (x p : ℕ) → x < n → p < n → occurs x (children p) ≡ child_due p x
    tight_children x p i k =
        sum_to_tight n (λ p. occurs x (children p)) (λ p. child_due p x) (λ p k. children-le p k x)
        (omega (arith, even x i, rows_low x, children_low x)) p k

indicator-delta : (x y : ℕ) → indicator (eqb y x) ≡ delta x y * 1
unfolding delta
indicator-delta x y = omega arith

-- an item in a heap has one place: in the row, or under its parent
pub one_place : (heap p n : ℕ) → heap ≤ 8 → (heap ≢ 0 → p ≢ none → p < n) → n ≤ 4096
    → sum_to 8 (λ h. indicator (eqb heap (suc h) && eqb p none)) + sum_to n
    (λ q. indicator (not (eqb heap 0) && eqb p q)) ≡ indicator (not (eqb heap 0))
one_place zero p n a b c =
    let e : sum_to 8 (λ h. indicator (eqb 0 (suc h) && eqb p none)) ≡ sum_to 8 (λ _. 0) =
    sum_to_cong 8 _ (λ _. 0) (λ h _. rw (eqb-zero-suc h)) in
    omega (arith, e, sum_to_zero 8, sum_to_zero n)
one_place (suc g) p n a b c = go (eqb p none) refl
  where
    ne : eqb (suc g) 0 ≡ false
    ne = ne_eqb (suc g) 0 (λ z. omega arith)

    one : indicator (not (eqb (suc g) 0)) ≡ 1
    one = rw ne

    go : (t : Bool) → eqb p none ≡ t
        → sum_to 8 (λ h. indicator (eqb (suc g) (suc h) && t)) + sum_to n
        (λ q. indicator (not (eqb (suc g) 0) && eqb p q)) ≡ indicator (not (eqb (suc g) 0))
    go true e =
        let r : sum_to 8 (λ h. indicator (eqb (suc g) (suc h) && true)) ≡ sum_to 8 (λ h. delta h g * 1) =
        sum_to_cong 8 _ (λ h. delta h g * 1) (λ h _. rw (eqb-suc-suc g h, and_true) (indicator-delta h g)) in
        let k : sum_to n (λ q. indicator (not (eqb (suc g) 0) && eqb p q)) ≡ sum_to n (λ _. 0) =
        sum_to_cong n _ (λ _. 0) (λ q j. rw (ne, ne_eqb p q (λ z. omega (arith, eqb-true p none e)))) in
        omega (arith, one, r, k, sum_to_zero n, sum_to_pick 8 g (λ _. 1) (omega arith))
    go false e =
        let r : sum_to 8 (λ h. indicator (eqb (suc g) (suc h) && false)) ≡ sum_to 8 (λ _. 0) =
        sum_to_cong 8 _ (λ _. 0) (λ h _. rw and_false) in
        let k : sum_to n (λ q. indicator (not (eqb (suc g) 0) && eqb p q)) ≡ sum_to n (λ q. delta q p * 1) =
        sum_to_cong n _ (λ q. delta q p * 1) (λ q _. rw ne (indicator-delta q p)) in
        omega (arith, one, r, k, sum_to_zero 8, sum_to_pick n p (λ _. 1) (b (λ z. omega arith) (eqb-false p none e)))

-- the numbers of which a test holds, and the others
pub both_ways : (n : ℕ) (f : ℕ → Bool) → sum_to n (λ i. indicator (f i)) + sum_to n (λ i. indicator (not (f i))) ≡ n
both_ways n f =
    omega (
      arith,
      to_ones n,
      sum_to-add n (λ i. indicator (f i)) (λ i. indicator (not (f i))),
      sum_to_cong n (λ i. indicator (f i) + indicator (not (f i))) (λ _. 1) (λ i _. one (f i)),
    )
  where
    one : (t : Bool) → indicator t + indicator (not t) ≡ 1
    one true = refl
    one false = refl
