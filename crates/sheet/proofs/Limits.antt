-- The codes 1 to 4, by the conditions in the table's order, and what a run within the limits has.
use Prim.Native.Nat.{ℕ, ◌*◌, ◌<◌, ◌≤◌}
use mathlib.Core.Path.{◌≡◌, refl, sym, ◌∙◌}
use mathlib.Core.List.{List}
use mathlib.Core.Bool.{Bool, true, false, cond, not}
use native.Mathlib.Omega.{arith}
use lib.ListN.{length}
use lib.Dec.{ltb}
use borrow.Author.Tests.{ltb-false, lt-ltb, le-ltb}
use Rattle.rules.specs.Words.{items_in, is_store}
use Rattle.rules.proofs.Sizes.{same_store}
use Rattle.store.specs.Says.{Sized}
use Rattle.store.proofs.Sizes.{store_sized}
use Rattle.text.specs.Lines.{lines}
use Rattle.text.proofs.Cases.{by_cond}
use Rattle.lines.proofs.LinesOf.{lines-length}
use Rattle.std.specs.Prelude.{Ok, Err}
use Rattle.rules.specs.declared.Refusal.{Refusal}
use Rattle.rules.specs.Refusals.{code, code_of}
use Rattle.sheet.specs.Promises.{Limited}
use Rattle.sheet.specs.Runs.{limit_code}

-- the store is one for N items, and the output has room for 32 bytes a line
pub record WithinLimits (store sheet out : List ℕ) : Type 0 where
  pub sized : Sized (items_in store) store
  pub few : length (lines sheet) ≤ 2000
  pub room : 32 * length (lines sheet) ≤ length out

pub within : (store sheet out : List ℕ) → limit_code store sheet out ≡ 0 → WithinLimits store sheet out
unfolding limit_code
within store sheet out e =
    go (is_store store) (ltb 60000 (length sheet)) (ltb 2000 (length (lines sheet)))
    (ltb (length out) (32 * length (lines sheet))) refl refl refl e
  where
    go : (a b c d : Bool) → is_store store ≡ a → ltb 2000 (length (lines sheet)) ≡ c
        → ltb (length out) (32 * length (lines sheet)) ≡ d
        → ◌≡◌ {A = ℕ} (cond (not a) 1 (cond b 2 (cond c 3 (cond d 4 0)))) 0 → WithinLimits store sheet out
    go true false false false p q r e =
        record { sized = store_sized store p refl; few = ltb-false _ _ q; room = ltb-false _ _ r }
    go true false false true p q r e = absurd (omega arith)
    go true false true d p q r e = absurd (omega arith)
    go true true c d p q r e = absurd (omega arith)
    go false b c d p q r e = absurd (omega arith)

-- the limits look at a store's length alone
pub same_limits : (a b sheet out : List ℕ) → length a ≡ length b → limit_code a sheet out ≡ limit_code b sheet out
unfolding limit_code
same_limits a b sheet out e = rw (same_store a b e)

-- the codes end at 4
pub limit_le : (store sheet out : List ℕ) → limit_code store sheet out ≤ 4
unfolding limit_code
limit_le store sheet out =
    by_cond low (not (is_store store)) (omega arith)
    (by_cond low (ltb 60000 (length sheet)) (omega arith)
    (by_cond low (ltb 2000 (length (lines sheet))) (omega arith)
    (by_cond low (ltb (length out) (32 * length (lines sheet))) (omega arith) (omega arith))))
  where
    low : ℕ → Type 0
    low n = n ≤ 4

-- ---- the codes

-- a condition that is met
pub met : {store sheet out : List ℕ} {e : Refusal} → limit_code store sheet out ≡ code e → Limited store sheet out (Err e)
unfolding code_of
met q = record { code = sym q; items = tt; lines = tt }

module _ (store sheet out : List ℕ) where
  pub code_1 : is_store store ≡ false → limit_code store sheet out ≡ 1
  unfolding limit_code
  code_1 a = rw a

  module _ (a : is_store store ≡ true) where
    pub code_2 : 60000 < length sheet → limit_code store sheet out ≡ 2
    unfolding limit_code
    code_2 b = rw a (simp (lt-ltb _ _ b))

    module _ (b : length sheet ≤ 60000) {n : ℕ} (p : n ≡ length (lines sheet)) where
      pub code_3 : 2000 < n → limit_code store sheet out ≡ 3
      unfolding limit_code
      code_3 d =
          let d' : 2000 < length (lines sheet) = omega arith in
          rw a (simp (le-ltb _ _ b, lt-ltb _ _ d'))

      module _ (d : n ≤ 2000) where
        few_lines : length (lines sheet) ≤ 2000
        few_lines = omega arith

        pub code_4 : length out < 32 * n → limit_code store sheet out ≡ 4
        unfolding limit_code
        code_4 r =
            let r' : length out < 32 * length (lines sheet) = omega arith in
            rw a (simp (le-ltb _ _ b, le-ltb _ _ few_lines, lt-ltb _ _ r'))

        pub none_met : 32 * n ≤ length out → {k : ℕ} → k ≡ items_in store
            → Limited store sheet out (Ok (record { items = k; lines = n }))
        unfolding limit_code code_of
        none_met r q =
            let r' : 32 * length (lines sheet) ≤ length out = omega arith in
            record {
              code = sym (rw a (simp (le-ltb _ _ b, le-ltb _ _ few_lines, le-ltb _ _ r')));
              items = q;
              lines = p ∙ sym (lines-length sheet);
            }
