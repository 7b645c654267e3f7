-- How many LF there are, as loops count them: byte by byte in a part, and part by part in a text.
use Rattle.std.proofs.Common.{◌≡◌, ℕ, ◌+◌, ◌-◌, ◌<◌, ◌≤◌, cond, eqb, ◌⊎◌, List, [], ◌∷◌, ◌++◌, length, get_or, take, drop, refl, sym, ap, ◌∙◌, inl, inr, ⊎_elim, add_assoc, add-one, arith, length-drop, take-append-drop, drop_of_length-le, length-take-le, drop-cons, drop-drop, eq-eqb, ne_eqb}
use Rattle.text.specs.Lines.{line_feed, line_feeds}
use Rattle.text.proofs.Cases.{by_cond}

pub feeds_append : (a b : List ℕ) → line_feeds (a ++ b) ≡ line_feeds a + line_feeds b
unfolding line_feeds
feeds_append [] b = omega arith
feeds_append (x ∷ a) b = rw (feeds_append a b) (sym (add_assoc (cond (eqb x line_feed) 1 0) (line_feeds a) (line_feeds b)))

pub feeds_le : (s : List ℕ) → line_feeds s ≤ length s
unfolding line_feeds
feeds_le [] = omega arith
feeds_le (b ∷ bs) =
    by_cond
    (λ (n : ℕ). n + line_feeds bs ≤ length (b ∷ bs))
    (eqb b line_feed)
    (omega (arith, feeds_le bs))
    (omega (arith, feeds_le bs))

pub feeds_none : (s : List ℕ) → length s ≡ 0 → line_feeds s ≡ 0
unfolding line_feeds
feeds_none [] e = refl
feeds_none (b ∷ bs) e = absurd (omega arith)

-- n of the LF stand before i
pub record Counted (s : List ℕ) (n i : ℕ) : Type 0 where
  pub sum : n + line_feeds (drop i s) ≡ line_feeds s
  pub low : n ≤ i
  pub within : i ≤ length s

pub none-counted : (s : List ℕ) → Counted s 0 0
none-counted s = record { sum = omega arith; low = omega arith; within = omega arith }

-- what the code makes of n at the byte b
abbrev pub CountStep : (n b n' : ℕ) → Type 0
CountStep n b n' = ((b ≡ line_feed) × (n' ≡ n + 1)) ⊎ ((b ≡ line_feed → ⊥) × (n' ≡ n))

feeds_step : (n b n' : ℕ) (bs : List ℕ) → CountStep n b n' → n + line_feeds (b ∷ bs) ≡ n' + line_feeds bs
unfolding line_feeds
feeds_step n b n' bs (inl p) = simp (eq-eqb b line_feed p.0) (omega (arith, p.1))
feeds_step n b n' bs (inr p) = simp (ne_eqb b line_feed p.0) (omega (arith, p.1))

pub byte_counted :
    {s : List ℕ} {n i : ℕ} (n' : ℕ) → Counted s n i → i < length s → CountStep n (get_or s i 0) n' → Counted s n' (i + 1)
byte_counted {s} {n} {i} n' k h w =
    let e : drop i s ≡ get_or s i 0 ∷ drop (i + 1) s = rw (add-one, drop-cons s i 0 h) in
    let sum : n + line_feeds (get_or s i 0 ∷ drop (i + 1) s) ≡ line_feeds s = rw e at k.sum in
    record {
      sum = omega (arith, feeds_step n (get_or s i 0) n' (drop (i + 1) s) w);
      low = ⊎_elim (λ u. omega (arith, u.1, k.low)) (λ u. omega (arith, u.1, k.low)) w;
      within = omega arith;
    }

-- m LF in the part up to `end`
pub part_counted :
    {s : List ℕ} {n i : ℕ} (end m : ℕ) → Counted s n i → i ≤ end → end ≤ length s
    → m ≡ line_feeds (take (end - i) (drop i s)) → Counted s (n + m) end
part_counted {s} {n} {i} end m k l h e =
    let split : line_feeds (drop i s) ≡ line_feeds (take (end - i) (drop i s)) + line_feeds (drop (i + (end - i)) s) =
    ap line_feeds (sym (take-append-drop (end - i) (drop i s)))
    ∙ feeds_append (take (end - i) (drop i s)) (drop (end - i) (drop i s))
    ∙ rw (drop-drop (end - i) i s) in
    let back : i + (end - i) ≡ end = omega arith in
    let rest = ap (λ (p : ℕ). line_feeds (drop p s)) back in
    let few : length (take (end - i) (drop i s)) ≡ end - i =
    length-take-le (end - i) (drop i s) (omega (arith, length-drop i s)) in
    record {
      sum = omega (arith, k.sum);
      low = omega (arith, k.low, feeds_le (take (end - i) (drop i s)));
      within = h;
    }

pub all_counted : {s : List ℕ} {n i : ℕ} → Counted s n i → length s ≤ i → n ≡ line_feeds s
unfolding line_feeds
all_counted {s} {n} {i} k h =
    let sum : n + line_feeds [] ≡ line_feeds s = rw (drop_of_length-le s h) at k.sum in
    omega arith
