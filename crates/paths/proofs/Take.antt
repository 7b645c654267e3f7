-- A place is taken: the invariant goes on, with none of its spans tried.
use Prim.Native.Nat.{ℕ, ◌+◌, ◌≤◌, ◌<◌, zero-le}
use mathlib.Core.Path.{◌≡◌, refl, sym, ap, ◌∙◌}
use mathlib.Core.Logic.{◌≢◌}
use mathlib.Core.List.{List}
use native.Mathlib.Nat.{le_refl, le_trans}
use native.Mathlib.Omega.{arith}
use lib.ListN.{length, get_or, set, length-set}
use lib.Seq.{get_or-set_same, get_or-set_other}
use Rattle.rules.specs.Forests.{none}
use Rattle.rules.proofs.Occurs.{by_item}
use Rattle.rules.proofs.Sums.{sum_by_set}
use Rattle.paths.specs.Map.{Map, spans, from_of}
use Rattle.paths.proofs.Waiting.{waits_below}
use Rattle.paths.proofs.Invariant.{unsettled, Settled, Invariant, TakenLast}

-- The place x, which waits with the least key, is taken.
module _
    (m : Map) (u d : ℕ) (waits key best last joints : List ℕ)
    (I : Invariant m u d (spans m) waits key best last joints) (x : ℕ)
    (wx : get_or waits x 0 ≢ 0) (least : (q : ℕ) → get_or waits q 0 ≢ 0 → get_or key x 0 ≤ get_or key q 0) where
  abbrev gone : List ℕ
  gone = set waits x 0

  x_in : x < length waits
  x_in = waits_below waits x wx

  gone_x : get_or gone x 0 ≡ 0
  gone_x = get_or-set_same waits x 0 0 x_in

  gone_o : (q : ℕ) → q ≢ x → get_or gone q 0 ≡ get_or waits q 0
  gone_o q n = get_or-set_other waits x q 0 0 n

  stays : (q : ℕ) → get_or gone q 0 ≢ 0 → (q ≢ x) × (get_or waits q 0 ≢ 0)
  stays q w = let n : q ≢ x = λ e. w (ap (λ z. get_or gone z 0) e ∙ gone_x) in (n, rw (gone_o q n) at w)

  -- one place fewer is unsettled
  pub take_unsettled : unsettled gone best + 1 ≡ unsettled waits best
  unfolding unsettled
  take_unsettled = omega (arith, sum_by_set (λ h. h) waits x 0 0 x_in, I.bit x, wx)

  still : (q : ℕ) → Settled waits best q → Settled gone best q
  still q s = (
    by_item {P = λ q. get_or waits q 0 ≡ 0 → get_or gone q 0 ≡ 0} x (λ _. gone_x) (λ q n z. gone_o q n ∙ z) q s.0,
    s.1,
  )

  pub take : Invariant m x (get_or best x none) 0 gone (set key x 0) best last joints
  take =
      record {
        waits_n = simp length-set I.waits_n;
        key_n = simp length-set I.key_n;
        best_n = I.best_n;
        last_n = I.last_n;
        joints_n = I.joints_n;
        bit = by_item x (rw gone_x zero-le) (λ q n. rw (gone_o q n) (I.bit q));
        met = λ q w. I.met q (stays q w).1;
        keyed = λ q w. rw (get_or-set_other key x q 0 0 (stays q w).0) (I.keyed q (stays q w).1);
        begun = I.begun;
        unmet = I.unmet;
        given =
            λ q a b.
            let G = I.given q a b in
            record {
              is = G.is;
              to = G.to;
              origin = still (from_of m (get_or last q none)) G.origin;
              sum = G.sum;
              count = G.count;
            };
        relaxed =
            λ e i s f.
            let n : from_of m e ≢ x = λ z. omega (arith, f z) in
            I.relaxed e i (sym (gone_o (from_of m e) n) ∙ s.0, s.1) (λ _. i.0);
        past =
            by_item x (λ _. le_refl _)
            (λ q n s. le_trans (I.past q (sym (gone_o q n) ∙ s.0, s.1)) (I.future x wx));
        future = λ q w. let s = stays q w in omega (arith, least q s.1, I.keyed x wx, I.keyed q s.1);
        small = λ q a. omega (arith, I.small q a, take_unsettled);
        short = I.short;
      }

  pub take_last : TakenLast m x (get_or best x none) (get_or joints x none) gone best joints
  take_last =
      record {
        away = gone_x;
        at = refl;
        over = refl;
        room = omega (arith, I.small x (I.met x wx), take_unsettled);
      }
