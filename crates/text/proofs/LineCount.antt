-- How many lines there are, by the LF.
use Rattle.std.proofs.Common.{◌≡◌, ℕ, ◌+◌, ◌-◌, Bool, true, false, cond, eqb, List, [], ◌∷◌, length, get_or, sym, refl, ◌∙◌, arith, eq-eqb, ne_eqb}
use Rattle.text.specs.Lines.{line_feed, ahead, lines, line_feeds, closed}
use Rattle.text.specs.Laws.{LineCount}
use Rattle.text.proofs.Lines.{some_line, closed_more}

-- a byte ahead of some lines makes no more of them
length-ahead : (b : ℕ) (ls : List (List ℕ)) → (ls ≡ [] → ⊥) → length (ahead b ls) ≡ length ls
unfolding ahead
length-ahead b [] n = absurd (n refl)
length-ahead b (l ∷ ls) n = refl

count-cond : (t : Bool) (b n k : ℕ) (ls : List (List ℕ)) → (ls ≡ [] → ⊥) → length ls ≡ n + k
    → length (cond t ([] ∷ ls) (ahead b ls)) ≡ cond t 1 0 + n + k
count-cond true b n k ls m e = omega arith
count-cond false b n k ls m e = omega (arith, length-ahead b ls m)

last_cond : (t : Bool) (b : ℕ) → length (cond t ([] ∷ []) (ahead b [])) ≡ cond t 1 0 + 0 + cond t 0 1
unfolding ahead
last_cond true b = refl
last_cond false b = refl

pub line_count : LineCount
unfolding lines line_feeds closed
line_count [] = refl
line_count (x ∷ []) = last_cond (eqb x line_feed) x
line_count (x ∷ y ∷ a) =
    rw (closed_more x y a)
    (count-cond
    (eqb x line_feed)
    x
    (line_feeds (y ∷ a))
    (cond (closed (y ∷ a)) 0 1)
    (lines (y ∷ a))
    (some_line y a)
    (line_count (y ∷ a)))

-- the lines of a text with n LF, by its last byte
module _ (s : List ℕ) (n : ℕ) (feeds : n ≡ line_feeds s) where
  pub count-empty : length s ≡ 0 → n ≡ length (lines s)
  unfolding closed
  count-empty z = feeds ∙ sym (line_count s ∙ simp (eq-eqb (length s) 0 z) (omega arith))

  module _ (some : length s ≡ 0 → ⊥) where
    pub count-closed : get_or s (length s - 1) 0 ≡ line_feed → n ≡ length (lines s)
    unfolding closed
    count-closed e =
        feeds ∙ sym (line_count s ∙ simp (ne_eqb (length s) 0 some, eq-eqb _ line_feed e) (omega arith))

    pub count_open : (get_or s (length s - 1) 0 ≡ line_feed → ⊥) → n + 1 ≡ length (lines s)
    unfolding closed
    count_open e = rw feeds (sym (line_count s ∙ simp (ne_eqb (length s) 0 some, ne_eqb _ line_feed e)))
