-- Code 0 is given exactly to accepted maps with lists and a store of the right sizes.
use Prim.Native.Nat.{ℕ, zero, suc, ◌≤◌, ◌<◌}
use mathlib.Core.Path.{◌≡◌, sym}
use mathlib.Core.Logic.{◌≢◌}
use mathlib.Core.Bool.{not, ◌&&◌, ◌||◌}
use native.Mathlib.Omega.{arith}
use lib.ListN.{length}
use lib.Dec.{eqb, ltb, leb}
use borrow.Author.Tests.{
  eqb-true,
  eqb-false,
  eq-eqb,
  ne_eqb,
  ltb-false,
  le-ltb,
  leb-true,
  leb-false,
  le-leb,
  lt-leb,
  not-false,
}
use Rattle.rules.specs.Words.{store_size}
use Rattle.rules.proofs.Occurs.{and_split}
use Rattle.paths.specs.Map.{Map, spans, from_of, to_of, loss_of, Accepted}
use Rattle.paths.specs.Codes.{
  fault,
  previous,
  supply_fault,
  span_code,
  minute_fits,
  span_lists_fit,
  window_lists_fit,
  result_lists_fit,
  feed_code,
}
use Rattle.paths.specs.Theorems.{Fits, CodeZero}
use Rattle.paths.proofs.Codes.{no_cond, no_or, both_zero, fault-none, each_none, all_none}
use Rattle.paths.proofs.Supply.{supply_fits, supply_minute, supply_lists, supply_faultless}

module _ (m : Map) where
  -- what a span without a fault is
  record Faultless (e : ℕ) : Type 0 where
    from_in : from_of m e < m.places
    to_in : to_of m e < m.places
    low : 1 ≤ loss_of m e
    high : loss_of m e ≤ 1000000
    level : previous m.lists.from e ≤ from_of m e
    window : supply_fault m.supply e ≡ 0

  faultless : (e : ℕ) → span_code m.places m.lists m.supply e ≡ 0 → Faultless e
  unfolding span_code fault
  faultless e z₀ =
      let both = both_zero _ (supply_fault m.supply e) z₀ in
      let z = both.0 in
      let a = no_cond (leb m.places (from_of m e) || leb m.places (to_of m e)) 18 _ (λ q. omega arith) z in
      let b = no_cond (eqb (loss_of m e) 0 || ltb 1000000 (loss_of m e)) 19 _ (λ q. omega arith) a.1 in
      let c = no_cond (ltb (from_of m e) (previous m.lists.from e)) 20 0 (λ q. omega arith) b.1 in
      let f = no_or (leb m.places (from_of m e)) (leb m.places (to_of m e)) a.0 in
      let g = no_or (eqb (loss_of m e) 0) (ltb 1000000 (loss_of m e)) b.0 in
      let n : loss_of m e ≢ 0 = eqb-false (loss_of m e) 0 g.0 in
      record {
        from_in = leb-false m.places (from_of m e) f.0;
        to_in = leb-false m.places (to_of m e) f.1;
        low = omega (arith, n);
        high = ltb-false 1000000 (loss_of m e) g.1;
        level = ltb-false (from_of m e) (previous m.lists.from e) c.0;
        window = both.1;
      }

  no_fault : Accepted m → (e : ℕ) → e < spans m → span_code m.places m.lists m.supply e ≡ 0
  unfolding span_code previous
  no_fault A e h =
      rw (sym
      (fault-none m.places (from_of m e) (to_of m e) (loss_of m e) (previous m.lists.from e) (A.from_in e h)
      (A.to_in e h) (λ q. omega (arith, A.low e h)) (A.high e h) (level e h)))
      (supply_faultless (spans m) m.supply A.supplied e h)
    where
      level : (e : ℕ) → e < spans m → previous m.lists.from e ≤ from_of m e
      level zero h = omega arith
      level (suc e) h = A.rising e h

  module _ (best_n last_n joints_n listed_n store_n : ℕ) where
    fits : feed_code m best_n last_n joints_n listed_n store_n ≡ 0 → Fits m best_n last_n joints_n listed_n store_n
    unfolding feed_code previous
    fits z =
        let c₁ = no_cond (eqb m.places 0 || ltb 4096 m.places) 14 _ (λ q. omega arith) z in
        let c₂ = no_cond (leb m.places m.start) 15 _ (λ q. omega arith) c₁.1 in
        let c₀ = no_cond (not (minute_fits m.supply)) 24 _ (λ q. omega arith) c₂.1 in
        let c₃ =
        no_cond (not (span_lists_fit m.lists && window_lists_fit (spans m) m.supply)) 16 _ (λ q. omega arith)
        c₀.1 in
        let c₄ =
        no_cond (not (result_lists_fit m.places best_n last_n joints_n store_n)) 17 _ (λ q. omega arith) c₃.1 in
        let c₅ = no_cond (ltb listed_n m.places) 22 _ (λ q. omega arith) c₄.1 in
        let f = no_or (eqb m.places 0) (ltb 4096 m.places) c₁.0 in
        let k =
        and_split (span_lists_fit m.lists) (window_lists_fit (spans m) m.supply) (not-false _ c₃.0) in
        let g = and_split _ (leb (spans m) 16384) k.0 in
        let g' = and_split (eqb (length m.lists.to) (spans m)) (eqb (length m.lists.loss) (spans m)) g.0 in
        let h = and_split _ (eqb store_n (store_size m.places)) (not-false _ c₄.0) in
        let h' = and_split _ (eqb joints_n m.places) h.0 in
        let h'' = and_split (eqb best_n m.places) (eqb last_n m.places) h'.0 in
        let n : m.places ≢ 0 = eqb-false m.places 0 f.0 in
        let s : (e : ℕ) → e < spans m → Faultless e =
        λ e k. faultless e (each_none m.places m.lists m.supply (spans m) c₅.1 e k) in
        record {
          accepted =
              record {
                some = omega (arith, n);
                few = ltb-false 4096 m.places f.1;
                start_in = leb-false m.places m.start c₂.0;
                to_n = eqb-true (length m.lists.to) (spans m) g'.0;
                loss_n = eqb-true (length m.lists.loss) (spans m) g'.1;
                short = leb-true (spans m) 16384 g.1;
                from_in = λ e k. (s e k).from_in;
                to_in = λ e k. (s e k).to_in;
                low = λ e k. (s e k).low;
                high = λ e k. (s e k).high;
                rising = λ e k. (s (suc e) k).level;
                supplied =
                    supply_fits (spans m) m.supply (not-false _ c₀.0) k.1 (λ e h. (s e h).window);
              };
          best = eqb-true best_n m.places h''.0;
          last = eqb-true last_n m.places h''.1;
          joints = eqb-true joints_n m.places h'.1;
          listed = ltb-false listed_n m.places c₅.0;
          store = eqb-true store_n (store_size m.places) h.1;
        }

    accepts : Fits m best_n last_n joints_n listed_n store_n → feed_code m best_n last_n joints_n listed_n store_n ≡ 0
    unfolding feed_code
    accepts F =
        let A = F.accepted in
        rw (
          ne_eqb m.places 0 (λ q. omega (arith, A.some)),
          le-ltb 4096 m.places A.few,
          lt-leb m.places m.start A.start_in,
          eq-eqb (length m.lists.to) (spans m) A.to_n,
          eq-eqb (length m.lists.loss) (spans m) A.loss_n,
          le-leb (spans m) 16384 A.short,
          supply_minute (spans m) m.supply A.supplied,
          supply_lists (spans m) m.supply A.supplied,
          eq-eqb best_n m.places F.best,
          eq-eqb last_n m.places F.last,
          eq-eqb joints_n m.places F.joints,
          eq-eqb store_n (store_size m.places) F.store,
          le-ltb listed_n m.places F.listed,
        )
        (all_none m.places m.lists m.supply (spans m) (no_fault A))

pub code_zero : CodeZero
code_zero = record { accepts = accepts; only = fits }
