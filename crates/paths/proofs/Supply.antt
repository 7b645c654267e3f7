-- The minutes and windows that codes 24, 16 and 23 accept are those that fit.
use Prim.Native.Nat.{ℕ, ◌≤◌, ◌<◌}
use mathlib.Core.Path.{◌≡◌, refl, sym}
use mathlib.Core.Bool.{true, ◌||◌}
use native.Mathlib.Omega.{arith}
use lib.ListN.{length, get_or}
use lib.Dec.{eqb, ltb, leb}
use borrow.Author.Tests.{eqb-true, eq-eqb, ltb-false, leb-true, leb-false, le-leb}
use Rattle.rules.proofs.Occurs.{and_split}
use Rattle.paths.specs.Map.{Supply, always, at_minute, last_minute, day_end, SupplyFits}
use Rattle.paths.specs.Codes.{window_fault, supply_fault, minute_fits, window_lists_fit}
use Rattle.paths.proofs.Codes.{no_cond, no_or, window_none}

-- a window without a fault
window_fits : (opens closes : ℕ) → window_fault opens closes ≡ 0 → (opens < closes) × (closes ≤ day_end)
unfolding window_fault
window_fits opens closes z =
    let c = no_cond (leb closes opens || ltb day_end closes) 23 0 (λ q. omega arith) z in
    let d = no_or (leb closes opens) (ltb day_end closes) c.0 in
    (leb-false closes opens d.0, ltb-false day_end closes d.1)

pub supply_fits : (n : ℕ) (supply : Supply) → minute_fits supply ≡ true → window_lists_fit n supply ≡ true
    → ((e : ℕ) → e < n → supply_fault supply e ≡ 0) → SupplyFits n supply
unfolding minute_fits window_lists_fit supply_fault
supply_fits n always m l f = tt
supply_fits n (at_minute minute w) m l f =
    let s = and_split (eqb (length w.opens) n) (eqb (length w.closes) n) l in
    record {
      in_day = leb-true minute last_minute m;
      opens_n = eqb-true (length w.opens) n s.0;
      closes_n = eqb-true (length w.closes) n s.1;
      lasts = λ e h. (window_fits (get_or w.opens e 0) (get_or w.closes e 0) (f e h)).0;
      ends = λ e h. (window_fits (get_or w.opens e 0) (get_or w.closes e 0) (f e h)).1;
    }

pub supply_minute : (n : ℕ) (supply : Supply) → SupplyFits n supply → minute_fits supply ≡ true
unfolding minute_fits
supply_minute n always F = refl
supply_minute n (at_minute minute w) F = le-leb minute last_minute F.in_day

pub supply_lists : (n : ℕ) (supply : Supply) → SupplyFits n supply → window_lists_fit n supply ≡ true
unfolding window_lists_fit
supply_lists n always F = refl
supply_lists n (at_minute minute w) F =
    rw (eq-eqb (length w.opens) n F.opens_n, eq-eqb (length w.closes) n F.closes_n)

pub supply_faultless : (n : ℕ) (supply : Supply) → SupplyFits n supply → (e : ℕ) → e < n → supply_fault supply e ≡ 0
unfolding supply_fault
supply_faultless n always F e h = refl
supply_faultless n (at_minute minute w) F e h =
    sym (window_none (get_or w.opens e 0) (get_or w.closes e 0) (F.lasts e h) (F.ends e h))
