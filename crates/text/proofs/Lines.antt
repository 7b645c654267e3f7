-- The lines of a text: those from a position on, and those of a text after a closed one.
use Rattle.std.proofs.Common.{◌≡◌, ℕ, suc, ◌+◌, ◌-◌, ◌<◌, ◌≤◌, Bool, true, false, cond, eqb, ◌⊎◌, List, [], ◌∷◌, ◌++◌, length, take, drop, sym, refl, ap, ◌∙◌, inl, inr, ⊎_elim, arith, length-drop, drop_of_length-le, drop-drop}
use lib.Dec.{eqb-suc-zero}
use Rattle.text.specs.Lines.{line_feed, ahead, lines, line_length, line_end, closed}
use Rattle.text.specs.Laws.{LinesAppend}

-- a text is empty, or it has a first line and the lines after that
abbrev FirstLine : List ℕ → Type 0
FirstLine l = (l ≡ []) ⊎ (lines l ≡ take (line_length l) l ∷ lines (drop (suc (line_length l)) l))

first_cond : (t : Bool) (b : ℕ) (bs : List ℕ) → FirstLine bs
    → cond t ([] ∷ lines bs) (ahead b (lines bs))
    ≡ take (cond t 0 (suc (line_length bs))) (b ∷ bs) ∷ lines (drop (suc (cond t 0 (suc (line_length bs)))) (b ∷ bs))
unfolding ahead lines line_length
first_cond true b bs w = refl
first_cond false b bs (inl e) = rw e
first_cond false b bs (inr e) = rw e

first_line_lem : (l : List ℕ) → FirstLine l
unfolding lines line_length
first_line_lem [] = inl refl
first_line_lem (b ∷ bs) = inr (first_cond (eqb b line_feed) b bs (first_line_lem bs))

-- the lines from a position on: the one that ends at `line_end`, and those after its LF
pub lines_at :
    (s : List ℕ) (at : ℕ) → at < length s
    → lines (drop at s) ≡ take (line_end s at - at) (drop at s) ∷ lines (drop (line_end s at + 1) s)
unfolding line_end
lines_at s at h =
    let n : line_length (drop at s) ≡ at + line_length (drop at s) - at = omega arith in
    let m : at + suc (line_length (drop at s)) ≡ at + line_length (drop at s) + 1 = omega arith in
    ⊎_elim
    (λ e. absurd (omega (arith, length-drop at s, ap length e)))
    (λ e. e ∙ rw (← n, ← m, drop-drop (suc (line_length (drop at s))) at s))
    (first_line_lem (drop at s))

pub lines_end : (s : List ℕ) (at : ℕ) → length s ≤ at → lines (drop at s) ≡ []
unfolding lines
lines_end s at h = rw (drop_of_length-le s h)

-- a text with a byte has a line
pub some_line : (b : ℕ) (bs : List ℕ) → lines (b ∷ bs) ≡ [] → ⊥
some_line b bs e =
    ⊎_elim
    (λ p. omega (arith, ap length p))
    (λ p. omega (arith, ap length (sym e ∙ p)))
    (first_line_lem (b ∷ bs))

-- whether a text is closed lies in its last byte
pub closed_more : (a b : ℕ) (bs : List ℕ) → closed (a ∷ b ∷ bs) ≡ closed (b ∷ bs)
unfolding closed
closed_more a b bs =
    let e : suc (suc (length bs)) - 1 ≡ suc (suc (length bs) - 1) = omega arith in
    rw (eqb-suc-zero, eqb-suc-zero, e)

append-cond : (t : Bool) (x : ℕ) (l m k : List (List ℕ)) → l ≡ m ++ k → (m ≡ [] → ⊥)
    → cond t ([] ∷ l) (ahead x l) ≡ cond t ([] ∷ m) (ahead x m) ++ k
unfolding ahead
append-cond true x l m k e n = rw e
append-cond false x l [] k e n = absurd (n refl)
append-cond false x l (r ∷ m) k e n = rw e

pub lines-append : LinesAppend
unfolding lines closed
lines-append [] b c = refl
lines-append (x ∷ []) b c = rw c
lines-append (x ∷ y ∷ a) b c =
    append-cond (eqb x line_feed) x (lines (y ∷ a ++ b)) (lines (y ∷ a)) (lines b)
    (lines-append (y ∷ a) b (sym (closed_more x y a) ∙ c)) (some_line y a)
