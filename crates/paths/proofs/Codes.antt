-- The codes of the spans: one law for each way out of a test, and no code where no span is faulty.
use Prim.Native.Nat.{ℕ, zero, suc, ◌≤◌, ◌<◌}
use mathlib.Core.Path.{◌≡◌, refl}
use mathlib.Core.Logic.{◌≢◌}
use mathlib.Core.Bool.{Bool, true, false, cond, ◌||◌, true≢false}
use native.Mathlib.Omega.{arith}
use lib.Dec.{eqb, leb}
use borrow.Author.Tests.{eqb-true, eqb-false, ne_eqb, lt-ltb, le-ltb, le-leb, lt-leb}
use Rattle.paths.specs.Map.{SpanLists, Supply, day_end}
use Rattle.paths.specs.Codes.{fault, window_fault, first_code, span_code, code_below}

-- ---- tests

pub no_cond : (t : Bool) (c x : ℕ) → c ≢ 0 → ◌≡◌ {A = ℕ} (cond t c x) 0 → (t ≡ false) × (x ≡ 0)
no_cond true c x n e = absurd (n e)
no_cond false c x n e = (refl, e)

pub no_or : (a b : Bool) → (a || b) ≡ false → (a ≡ false) × (b ≡ false)
no_or true b e = absurd (true≢false e)
no_or false b e = (refl, e)

-- ---- one span

module _ (places from to loss before : ℕ) where
  pub fault_from : places ≤ from → 18 ≡ fault places from to loss before
  unfolding fault
  fault_from h = rw (le-leb places from h)

  module _ (p : from < places) where
    pub fault_to : places ≤ to → 18 ≡ fault places from to loss before
    unfolding fault
    fault_to h = rw (lt-leb places from p, le-leb places to h)

    module _ (q : to < places) where
      pub fault_zero : loss ≡ 0 → 19 ≡ fault places from to loss before
      unfolding fault
      fault_zero h = rw (lt-leb places from p, lt-leb places to q, h)

      module _ (r : loss ≢ 0) where
        pub fault_high : 1000000 < loss → 19 ≡ fault places from to loss before
        unfolding fault
        fault_high h = rw (lt-leb places from p, lt-leb places to q, ne_eqb loss 0 r, lt-ltb 1000000 loss h)

        module _ (k : loss ≤ 1000000) where
          pub fault_falls : from < before → 20 ≡ fault places from to loss before
          unfolding fault
          fault_falls h =
              rw (
                lt-leb places from p,
                lt-leb places to q,
                ne_eqb loss 0 r,
                le-ltb 1000000 loss k,
                lt-ltb from before h,
              )

          pub fault-none : before ≤ from → 0 ≡ fault places from to loss before
          unfolding fault
          fault-none h =
              rw (
                lt-leb places from p,
                lt-leb places to q,
                ne_eqb loss 0 r,
                le-ltb 1000000 loss k,
                le-ltb from before h,
              )

-- ---- its window

module _ (opens closes : ℕ) where
  pub window_empty : closes ≤ opens → 23 ≡ window_fault opens closes
  unfolding window_fault
  window_empty h = rw (le-leb closes opens h)

  pub window_long : day_end < closes → 23 ≡ window_fault opens closes
  unfolding window_fault
  window_long h = rw (lt-ltb day_end closes h) (go (leb closes opens))
    where
      go : (t : Bool) → ◌≡◌ {A = ℕ} 23 (cond (t || true) 23 0)
      go true = refl
      go false = refl

  pub window_none : opens < closes → closes ≤ day_end → 0 ≡ window_fault opens closes
  unfolding window_fault
  window_none p h = rw (lt-leb closes opens p, le-ltb day_end closes h)

-- ---- two codes

pub both_zero : (code next : ℕ) → first_code code next ≡ 0 → (code ≡ 0) × (next ≡ 0)
both_zero code next z = go (eqb code 0) refl z
  where
    go : (t : Bool) → eqb code 0 ≡ t → cond t next code ≡ 0 → (code ≡ 0) × (next ≡ 0)
    go true e w = (eqb-true code 0 e, w)
    go false e w = absurd (eqb-false code 0 e w)

-- ---- all spans

module _ (places : ℕ) (l : SpanLists) (supply : Supply) where
  abbrev code : ℕ → ℕ
  code k = code_below places l supply k

  -- no span below k is faulty, so none of them is
  pub each_none : (k : ℕ) → code k ≡ 0 → (e : ℕ) → e < k → span_code places l supply e ≡ 0
  unfolding code_below
  each_none zero z e h = absurd (omega arith)
  each_none (suc k) z e h =
      let w = both_zero (code k) (span_code places l supply k) z in
      at w.1 (each_none k w.0 e) (eqb e k) refl
    where
      at : span_code places l supply k ≡ 0 → (e < k → span_code places l supply e ≡ 0) → (t : Bool) → eqb e k ≡ t
          → span_code places l supply e ≡ 0
      at z ih true i = rw (eqb-true e k i) z
      at z ih false i = let x : e ≢ k = eqb-false e k i in ih (omega arith)

  pub all_none : (k : ℕ) → ((e : ℕ) → e < k → span_code places l supply e ≡ 0) → code k ≡ 0
  unfolding code_below
  all_none zero f = refl
  all_none (suc k) f = rw (all_none k (λ e h. f e (omega arith)), f k (omega arith))
