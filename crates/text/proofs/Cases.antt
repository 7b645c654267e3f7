-- Proofs by cases: on which of two numbers is smaller, and on a test.
use Rattle.std.proofs.Common.{◌≡◌, ℕ, ◌<◌, ◌≤◌, Bool, true, false, cond, leb, ◌⊎◌, refl, inl, inr, leb-false, leb-true}

by_test : (t : Bool) (a b : ℕ) → leb a b ≡ t → (a ≤ b) ⊎ (b < a)
by_test true a b e = inl (leb-true a b e)
by_test false a b e = inr (leb-false a b e)

pub le_or_lt : (a b : ℕ) → (a ≤ b) ⊎ (b < a)
le_or_lt a b = by_test (leb a b) a b refl

-- what holds of both values holds of the one that the test chooses
pub by_cond : {A : Type 0} (P : A → Type 0) (t : Bool) {x y : A} → P x → P y → P (cond t x y)
by_cond P true p q = p
by_cond P false p q = q
