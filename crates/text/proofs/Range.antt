-- No number that is read is above the largest.
use Rattle.std.proofs.Common.{ℕ, zero, suc, ◌+◌, ◌<◌, ◌≤◌, ◌&&◌, eqb, leb, List, [], ◌∷◌, ◌++◌, length, get_or, drop, ⊎_elim, Some, None}
use Rattle.text.specs.Numbers.{Number, largest, digit_run, value_from, well_formed, number_of, number_at, NumberFits}
use Rattle.text.specs.Fields.{comma, ends_at, field_at, row_from, RowFits}
use Rattle.text.proofs.Cases.{le_or_lt, by_cond}
use Rattle.text.proofs.NumberAt.{number_large}

of_small : (ds : List ℕ) (at : ℕ) → value_from 0 ds ≤ largest → NumberFits (number_of ds at)
unfolding number_of NumberFits
of_small ds at h =
    by_cond
    NumberFits
    (well_formed ds && leb (value_from 0 ds) largest)
    {x = Some (value_from 0 ds, at + length ds)}
    {y = None}
    h
    (tt {0})

number_in_range : (s : List ℕ) (at : ℕ) → NumberFits (number_at s at)
unfolding number_at NumberFits
number_in_range s at =
    ⊎_elim
    (λ (h : value_from 0 (digit_run (drop at s)) ≤ largest). of_small (digit_run (drop at s)) at h)
    (λ (h : largest < value_from 0 (digit_run (drop at s))). rw (← number_large s at h) (tt {0}))
    (le_or_lt (value_from 0 (digit_run (drop at s))) largest)

pub field_in_range : (s : List ℕ) (at : ℕ) → NumberFits (field_at s at)
unfolding field_at NumberFits
field_in_range s at = by_cond NumberFits (eqb (get_or s at 0) comma) (number_in_range s (at + 1)) tt

fits_snoc : (row : List ℕ) (x : ℕ) → RowFits row → x ≤ largest → RowFits (row ++ x ∷ [])
unfolding RowFits
fits_snoc [] x r h = (h, tt)
fits_snoc (y ∷ row) x (k, r) h = (k, fits_snoc row x r h)

pub row_in_range :
    (most : ℕ) (s read : List ℕ) (n : Number) → RowFits read → NumberFits n → RowFits (row_from most s read n)
unfolding row_from RowFits NumberFits
row_in_range zero s read n r h = tt
row_in_range (suc most) s read None r h = tt
row_in_range (suc most) s read (Some (x, at)) r h =
    let with-x = fits_snoc read x r h in
    by_cond RowFits (ends_at s at) with-x
    (row_in_range most s (read ++ x ∷ []) (field_at s at) with-x (field_in_range s at))
