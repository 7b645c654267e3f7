-- The code of a feed call as a chain: the codes of its tests, each 0 where its condition is not met, in their order.
use Prim.Native.Nat.{ℕ}
use mathlib.Core.Path.{◌≡◌, refl}
use mathlib.Core.Bool.{Bool, true, false, cond, not, ◌&&◌, ◌||◌}
use lib.ListN.{length}
use lib.Dec.{eqb, ltb, leb}
use Rattle.paths.specs.Map.{last_minute}
use Rattle.paths.specs.Codes.{first_code, minute_fits, span_lists_fit, window_lists_fit, result_lists_fit, feed_code}
use Rattle.spans.specs.declared.MapView.{MapView}
use Rattle.spans.specs.declared.refusal.Lengths.{Lengths}
use Rattle.spans.specs.Lists.{spans_in, map_from, faults}

-- the tests of 14, 15, 24, 16, 17 and 22, and the code of the spans
all_tests : (none first minute lists results short : Bool) (spans : ℕ)
    → cond none 14
    (cond first 15 (cond (not minute) 24 (cond (not lists) 16 (cond (not results) 17 (cond short 22 spans)))))
    ≡ first_code (cond none 14 (cond first 15 0))
    (first_code (cond (not minute) 24 0)
    (first_code (cond (not lists) 16 0) (first_code (cond (not results) 17 0) (first_code (cond short 22 0) spans))))
all_tests true f m l r s n = refl
all_tests false true m l r s n = refl
all_tests false false false l r s n = refl
all_tests false false true false r s n = refl
all_tests false false true true false s n = refl
all_tests false false true true true true n = refl
all_tests false false true true true false n = refl

pub in_order : (v : MapView) (n : Lengths)
    → feed_code (map_from v) n.best n.last n.joints n.listed n.store
    ≡ first_code (cond (eqb v.places 0 || ltb 4096 v.places) 14 (cond (leb v.places v.start) 15 0))
    (first_code (cond (not (leb v.minute last_minute)) 24 0)
    (first_code
    (cond (not (span_lists_fit (spans_in v) && window_lists_fit (length v.from.now) (map_from v).supply)) 16 0)
    (first_code (cond (not (result_lists_fit v.places n.best n.last n.joints n.store)) 17 0)
    (first_code (cond (ltb n.listed v.places) 22 0) (faults v)))))
unfolding feed_code minute_fits
in_order v n =
    all_tests (eqb v.places 0 || ltb 4096 v.places) (leb v.places v.start) (leb v.minute last_minute)
    (span_lists_fit (spans_in v) && window_lists_fit (length v.from.now) (map_from v).supply)
    (result_lists_fit v.places n.best n.last n.joints n.store) (ltb n.listed v.places) (faults v)
