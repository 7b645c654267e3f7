-- Where a line ends, as a loop walks to it.
use Rattle.std.proofs.Common.{◌≡◌, ℕ, suc, ◌+◌, ◌<◌, ◌≤◌, eqb, List, [], ◌∷◌, length, get_or, drop, refl, add-one, arith, length-drop, drop_of_length-le, drop-cons, eq-eqb, ne_eqb}
use Rattle.text.specs.Lines.{line_feed, line_length, line_end}
use Rattle.text.proofs.Cases.{by_cond}

module _ (s : List ℕ) (i : ℕ) where
  length_more : i < length s → (get_or s i 0 ≡ line_feed → ⊥) → line_length (drop i s) ≡ suc (line_length (drop (i + 1) s))
  unfolding line_length
  length_more h n = rw (add-one, drop-cons s i 0 h) (simp (ne_eqb _ _ n))

  pub ends_feed : i < length s → get_or s i 0 ≡ line_feed → line_length (drop i s) ≡ 0
  unfolding line_length
  ends_feed h e = rw (drop-cons s i 0 h) (simp (eq-eqb _ _ e))

  pub ends_text : length s ≤ i → line_length (drop i s) ≡ 0
  unfolding line_length
  ends_text h = rw (drop_of_length-le s h)

-- the line at `at`, of which the bytes before i are passed
pub record BytesPassed (s : List ℕ) (at i : ℕ) : Type 0 where
  pub ends : at + line_length (drop at s) ≡ i + line_length (drop i s)

pub none_passed : (s : List ℕ) (at : ℕ) → BytesPassed s at at
none_passed s at = record { ends = refl }

pub one_passed :
    {s : List ℕ} {at i : ℕ} → BytesPassed s at i → i < length s → (get_or s i 0 ≡ line_feed → ⊥) → BytesPassed s at (i + 1)
one_passed {s} {at} {i} p h n = record { ends = omega (arith, p.ends, length_more s i h n) }

pub all_passed : {s : List ℕ} {at i : ℕ} → BytesPassed s at i → line_length (drop i s) ≡ 0 → i ≡ line_end s at
unfolding line_end
all_passed p e = omega (arith, p.ends, e)

-- a line's end is within the text
pub line_short : (l : List ℕ) → line_length l ≤ length l
unfolding line_length
line_short [] = omega arith
line_short (b ∷ bs) =
    by_cond (λ (n : ℕ). n ≤ length (b ∷ bs)) (eqb b line_feed) (omega arith) (omega (arith, line_short bs))

pub end_within : (s : List ℕ) (at : ℕ) → at ≤ length s → (at ≤ line_end s at) × (line_end s at ≤ length s)
unfolding line_end
end_within s at h = omega (arith, line_short (drop at s), length-drop at s)
