-- Whether a span is faulty, by the code of its faults, and whether one of those below a number is.
use Prim.Native.Nat.{ℕ, ◌+◌}
use mathlib.Core.Path.{◌≡◌, refl}
use mathlib.Core.Bool.{Bool, true, false, cond, not, ◌||◌}
use native.Mathlib.Numerals.{add-one}
use lib.ListN.{get_or}
use lib.Dec.{eqb}
use Rattle.paths.specs.Map.{SpanLists, Windows, at_minute}
use Rattle.paths.specs.Codes.{first_code, fault, window_fault, supply_fault, previous, span_code, code_below}

-- the tests of 18, 19, 20 and 23 on one span
pub any_fault : (from to none high order empty long : Bool)
    → ((((((from || to) || none) || high) || order) || empty) || long)
    ≡ not
    (eqb (first_code (cond (from || to) 18 (cond (none || high) 19 (cond order 20 0))) (cond (empty || long) 23 0)) 0)
any_fault true t n h o e l = refl
any_fault false true n h o e l = refl
any_fault false false true h o e l = refl
any_fault false false false true o e l = refl
any_fault false false false false true e l = refl
any_fault false false false false false true l = refl
any_fault false false false false false false true = refl
any_fault false false false false false false false = refl

-- the first of two codes is one if either is
either : (x y : ℕ) → (not (eqb x 0) || not (eqb y 0)) ≡ not (eqb (first_code x y) 0)
either x y = go (eqb x 0) refl
  where
    go : (t : Bool) → eqb x 0 ≡ t → (not t || not (eqb y 0)) ≡ not (eqb (cond t y x) 0)
    go true e = refl
    go false e = rw e

not_twice : (t : Bool) → not (not t) ≡ t
not_twice true = refl
not_twice false = refl

module _ (places : ℕ) (l : SpanLists) (w : Windows) (minute : ℕ) where
  abbrev code : ℕ → ℕ
  code k = code_below places l (at_minute minute w) k

  -- one turn of a loop: span e is looked at
  pub faulty_next : (e before : ℕ) (t f : Bool) → t ≡ not (eqb (code e) 0) → before ≡ previous l.from e
      → f ≡ not
      (eqb
      (first_code (fault places (get_or l.from e 0) (get_or l.to e 0) (get_or l.loss e 0) before)
      (window_fault (get_or w.opens e 0) (get_or w.closes e 0)))
      0)
      → (t || f) ≡ not (eqb (code (e + 1)) 0)
  unfolding code_below span_code supply_fault
  faulty_next e before t f qt qb qf = rw (add-one, qt, qf, qb) (either (code e) _)
