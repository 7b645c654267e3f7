-- The rest of a line from a position within it on, and a text beside its first line alone. Each step takes the test
-- for LF as an argument.
use Rattle.std.proofs.Common.{◌≡◌, ℕ, zero, suc, ◌-◌, ◌<◌, ◌≤◌, Bool, true, false, cond, eqb, List, [], ◌∷◌, length, get_or, take, drop, sym, refl, ap, ◌∙◌, ⊎_elim, arith, drop_of_length-le, drop-cons, eq-eqb, eqb-true}
use lib.ListN.{get_or-eq_default}
use lib.Dec.{eqb-suc-zero}
use Rattle.text.specs.Lines.{line_feed, line_length}
use Rattle.text.specs.Fields.{comma, ends_at}
use Rattle.text.specs.Numbers.{is_digit, digit_run}
use Rattle.text.proofs.Cases.{by_cond, le_or_lt}

-- ---- where a line ends

zero_test : (t : Bool) (n : ℕ) → t ≡ eqb (cond t 0 (suc n)) 0
zero_test true n = refl
zero_test false n = sym (eqb-suc-zero n)

pub ends_inside : (s : List ℕ) (at : ℕ) → at < length s → eqb (get_or s at 0) line_feed ≡ ends_at s at
unfolding ends_at line_length
ends_inside s at h = rw (drop-cons s at 0 h) (zero_test (eqb (get_or s at 0) line_feed) _)

pub ends_past : (s : List ℕ) (at : ℕ) → length s ≤ at → true ≡ ends_at s at
unfolding ends_at line_length
ends_past s at h = rw (drop_of_length-le s h)

-- ---- what is left of it

left_cond : (t : Bool) (n m k : ℕ) → suc k ≤ cond t 0 (suc n) → (k ≤ n → m ≡ n - k) → m ≡ cond t 0 (suc n) - suc k
left_cond true n m k h e = absurd (omega arith)
left_cond false n m k h e = omega (arith, e (omega arith))

pub left : (s : List ℕ) (k : ℕ) → k ≤ line_length s → line_length (drop k s) ≡ line_length s - k
unfolding line_length
left s zero h = omega arith
left [] (suc k) h = omega arith
left (b ∷ bs) (suc k) h = left_cond (eqb b line_feed) (line_length bs) (line_length (drop k bs)) k h (left bs k)

-- a line that ends at a position within it ends there
pub ends_line : (s : List ℕ) (k : ℕ) → k ≤ line_length s → ends_at s k ≡ true → k ≡ line_length s
unfolding ends_at
ends_line s k h e =
    let z : line_length (drop k s) ≡ 0 = eqb-true _ _ e in
    omega (arith, left s k h, z)

drop-cond : (t : Bool) (n k b : ℕ) (bs r : List ℕ) → suc k ≤ cond t 0 (suc n) → (k ≤ n → drop k (take n bs) ≡ r)
    → drop (suc k) (take (cond t 0 (suc n)) (b ∷ bs)) ≡ r
drop-cond true n k b bs r h e = absurd (omega arith)
drop-cond false n k b bs r h e = e (omega arith)

-- the first line alone, from a position within it on
pub drop_line : (s : List ℕ) (k : ℕ) → k ≤ line_length s
    → drop k (take (line_length s) s) ≡ take (line_length (drop k s)) (drop k s)
unfolding line_length
drop_line s zero h = refl
drop_line [] (suc k) h = refl
drop_line (b ∷ bs) (suc k) h = drop-cond (eqb b line_feed) (line_length bs) k b bs _ h (drop_line bs k)

-- ---- a text and its first line alone

length-cond : (t : Bool) (n b : ℕ) (bs : List ℕ) → eqb b line_feed ≡ t → line_length (take n bs) ≡ n
    → line_length (take (cond t 0 (suc n)) (b ∷ bs)) ≡ cond t 0 (suc n)
unfolding line_length
length-cond true n b bs e h = refl
length-cond false n b bs e h = rw e (ap suc h)

pub same_length : (t : List ℕ) → line_length (take (line_length t) t) ≡ line_length t
unfolding line_length
same_length [] = refl
same_length (b ∷ bs) = length-cond (eqb b line_feed) (line_length bs) b bs refl (same_length bs)

-- LF is no digit
run_cond : (t : Bool) (n b : ℕ) (bs : List ℕ) → eqb b line_feed ≡ t → digit_run (take n bs) ≡ digit_run bs
    → digit_run (take (cond t 0 (suc n)) (b ∷ bs)) ≡ digit_run (b ∷ bs)
unfolding digit_run is_digit
run_cond true n b bs e h = rw (eqb-true b line_feed e)
run_cond false n b bs e h = rw h

pub same_run : (t : List ℕ) → digit_run (take (line_length t) t) ≡ digit_run t
unfolding line_length
same_run [] = refl
same_run (b ∷ bs) = run_cond (eqb b line_feed) (line_length bs) b bs refl (same_run bs)

in_line_cond : (t : Bool) (n b : ℕ) (bs : List ℕ) → eqb b line_feed ≡ t → length (digit_run bs) ≤ n
    → length (digit_run (b ∷ bs)) ≤ cond t 0 (suc n)
unfolding digit_run is_digit
in_line_cond true n b bs e h = rw (eqb-true b line_feed e) (omega arith)
in_line_cond false n b bs e h =
    by_cond (λ (r : List ℕ). length r ≤ suc n) (is_digit b) {x = b ∷ digit_run bs} {y = []} (omega arith) (omega arith)

-- a run of digits stays in its line
pub run_in_line : (t : List ℕ) → length (digit_run t) ≤ line_length t
unfolding line_length digit_run
run_in_line [] = omega arith
run_in_line (b ∷ bs) = in_line_cond (eqb b line_feed) (line_length bs) b bs refl (run_in_line bs)

-- LF is no comma, and neither is what stands beyond a list
comma-cond : (t : Bool) (n b : ℕ) (bs : List ℕ) → eqb b line_feed ≡ t
    → eqb (get_or (take (cond t 0 (suc n)) (b ∷ bs)) 0 0) comma ≡ eqb b comma
comma-cond true n b bs e = rw (eqb-true b line_feed e)
comma-cond false n b bs e = refl

pub same_comma : (t : List ℕ) → eqb (get_or (take (line_length t) t) 0 0) comma ≡ eqb (get_or t 0 0) comma
unfolding line_length
same_comma [] = refl
same_comma (b ∷ bs) = comma-cond (eqb b line_feed) (line_length bs) b bs refl

-- a comma within a line stands before its end
pub comma_inside : (s : List ℕ) (k : ℕ) → k ≤ line_length s → get_or s k 0 ≡ comma → k < line_length s
unfolding ends_at
comma_inside s k h e = ⊎_elim (λ (g : suc k ≤ line_length s). g) at_end (le_or_lt (suc k) (line_length s))
  where
    beyond : length s ≤ k → k < length s
    beyond g = let z : get_or s k 0 ≡ 0 = get_or-eq_default s 0 g in absurd (omega (arith, e, z))

    in_text : k < length s
    in_text =
        ⊎_elim (λ (g : suc k ≤ length s). g) (λ (g : length s < suc k). beyond (omega arith))
        (le_or_lt (suc k) (length s))

    at_end : line_length s < suc k → k < line_length s
    at_end g =
        let z : line_length (drop k s) ≡ 0 = omega (arith, left s k h) in
        let f : get_or s k 0 ≡ line_feed = eqb-true _ _ (ends_inside s k in_text ∙ eq-eqb _ 0 z) in
        absurd (omega (arith, e, f))
