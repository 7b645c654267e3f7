-- Lists of places in ascending order: their heads come first, they grow at the end, and two with the same members are
-- one.
use Prim.Native.Nat.{ℕ, ◌≤◌}
use mathlib.Core.Path.{◌≡◌, refl, sym, ◌∙◌}
use mathlib.Core.Logic.{◌≢◌}
use mathlib.Core.List.{List, [], ◌∷◌, ◌++◌}
use mathlib.Core.Bool.{Bool, true, false}
use native.Mathlib.Omega.{arith}
use lib.ListN.{get_or}
use lib.Dec.{eqb}
use borrow.Author.Tests.{eqb-true, eqb-false}
use Rattle.rules.specs.Lists.{sum_by, occurs}
use Rattle.rules.specs.Order.{key_in, precedes}
use Rattle.rules.proofs.Occurs.{by_item, delta_self, delta_other}
use Rattle.rules.proofs.Order.{is_precedes, precedes_is, before_keys}
use Rattle.paths.specs.Table.{Ascending}
use Rattle.paths.specs.Theorems.{ListingUnique}

-- the order looks at the losses of the members alone
pub ascending_same : (best best' l : List ℕ) → ((q : ℕ) → 1 ≤ occurs q l → get_or best' q 0 ≡ get_or best q 0)
    → Ascending best l → Ascending best' l
unfolding occurs sum_by
ascending_same best best' [] f a = tt
ascending_same best best' (x ∷ []) f a = tt
ascending_same best best' (x ∷ y ∷ l) f a = (
  before_keys (key_in best') (key_in best) x y (f x (omega (arith, delta_self x)))
      (f y (omega (arith, delta_self y))) ∙ a.0,
  ascending_same best best' (y ∷ l) (λ q h. f q (omega arith)) a.1,
)

module _ (best : List ℕ) where
  pub ascending_more : (l : List ℕ) (u : ℕ) → Ascending best l → ((q : ℕ) → 1 ≤ occurs q l → precedes best q u ≡ true)
      → Ascending best (l ++ (u ∷ []))
  unfolding occurs sum_by
  ascending_more [] u a f = tt
  ascending_more (x ∷ []) u a f = (f x (omega (arith, delta_self x)), tt)
  ascending_more (x ∷ y ∷ l) u a f = (a.0, ascending_more (y ∷ l) u a.1 (λ q h. f q (omega arith)))

  ascending_rest : (x : ℕ) (l : List ℕ) → Ascending best (x ∷ l) → Ascending best l
  ascending_rest x [] a = tt
  ascending_rest x (y ∷ l) a = a.1

  precedes_both : (x y z : ℕ) → precedes best x y ≡ true → precedes best y z ≡ true → precedes best x z ≡ true
  precedes_both x y z e f =
      let g = is_precedes best x y e in
      let h = is_precedes best y z f in
      precedes_is best x z (omega (arith, g.0, h.0))
      (λ q. omega (arith, g.1 (omega (arith, g.0, h.0, q)), h.1 (omega (arith, g.0, h.0, q))))

  precedes_one_way : (x y : ℕ) → precedes best x y ≡ true → precedes best y x ≡ true → ⊥
  precedes_one_way x y e f =
      let g = is_precedes best x y e in
      let h = is_precedes best y x f in
      omega (arith, g.1 (omega (arith, g.0, h.0)), h.1 (omega (arith, g.0, h.0)))

  -- the head comes before all others
  head_first : (x : ℕ) (l : List ℕ) → Ascending best (x ∷ l) → (z : ℕ) → 1 ≤ occurs z l → precedes best x z ≡ true
  unfolding occurs sum_by
  head_first x [] a = λ z h. absurd (omega arith)
  head_first x (y ∷ l) a =
      by_item y (λ _. a.0)
      (λ z n h.
      precedes_both x y z a.0
      (head_first y l a.1 z (omega (arith, h, delta_other z y (λ e. n (sym e))))))

  same_head : (x y : ℕ) (l k : List ℕ) → Ascending best (x ∷ l) → Ascending best (y ∷ k)
      → ((p : ℕ) → occurs p (x ∷ l) ≡ occurs p (y ∷ k)) → x ≡ y
  unfolding occurs sum_by
  same_head x y l k a b f = go (eqb x y) refl
    where
      go : (t : Bool) → eqb x y ≡ t → x ≡ y
      go true e = eqb-true x y e
      go false e =
          let n : x ≢ y = eqb-false x y e in
          absurd
          (precedes_one_way x y
          (head_first x l a y (omega (arith, f y, delta_self y, delta_other y x n)))
          (head_first y k b x (omega (arith, f x, delta_self x, delta_other x y (λ z. n (sym z))))))

  one_list : (l k : List ℕ) → Ascending best l → Ascending best k → ((p : ℕ) → occurs p l ≡ occurs p k) → l ≡ k
  unfolding occurs sum_by
  one_list [] [] a b f = refl
  one_list [] (y ∷ k) a b f = absurd (omega (arith, f y, delta_self y))
  one_list (x ∷ l) [] a b f = absurd (omega (arith, f x, delta_self x))
  one_list (x ∷ l) (y ∷ k) a b f =
      let e : x ≡ y = same_head x y l k a b f in
      let r : l ≡ k =
      one_list l k (ascending_rest x l a) (ascending_rest y k b)
      (λ p. omega (arith, rw e at (f p))) in
      rw (e, r)

pub listing_unique : ListingUnique
listing_unique best listed listed' L M =
    one_list best listed listed' L.ascending M.ascending (λ p. L.once p ∙ sym (M.once p))
