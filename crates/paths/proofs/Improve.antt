-- The place at the end of span k gets a better loss or span by it: the invariant goes on to the next span.
use Prim.Native.Nat.{ℕ, suc, ◌+◌, ◌≤◌, ◌<◌}
use mathlib.Core.Path.{◌≡◌, refl, sym, ap, ◌∙◌}
use mathlib.Core.Logic.{◌≢◌}
use mathlib.Core.List.{List}
use mathlib.Core.Bool.{Bool, true, false}
use native.Mathlib.Nat.{le_refl}
use native.Mathlib.Omega.{arith}
use lib.ListN.{get_or, set, length-set}
use lib.Seq.{get_or-set_same, get_or-set_other}
use lib.Dec.{eqb}
use borrow.Author.Tests.{eqb-true, eqb-false}
use Rattle.rules.specs.Forests.{none}
use Rattle.rules.proofs.Occurs.{by_item}
use Rattle.rules.proofs.Sums.{sum_by_set}
use Rattle.paths.specs.Map.{Map, from_of, to_of, loss_of, IsSpan, Accepted}
use Rattle.paths.proofs.Judge.{Wins, NoWorse}
use Rattle.paths.proofs.Invariant.{
  is_none,
  is_none_no,
  unsettled,
  Settled,
  Gives,
  Relaxed,
  Invariant,
  TakenLast,
}

module _
    (m : Map) (A : Accepted m) (u d hu k : ℕ) (waits key best last joints : List ℕ)
    (I : Invariant m u d k waits key best last joints) (T : TakenLast m u d hu waits best joints) (is : IsSpan m k)
    (fu : from_of m k ≡ u)
    (gap : is_none (get_or best (to_of m k) none) + get_or waits (to_of m k) 0 ≡ 1)
    (low : d + loss_of m k ≤ get_or best (to_of m k) none)
    (tie : get_or best (to_of m k) none ≡ d + loss_of m k
    → Wins (suc hu) k (get_or joints (to_of m k) none) (get_or last (to_of m k) none)) where
  abbrev p : ℕ
  p = to_of m k

  abbrev l : ℕ
  l = d + loss_of m k

  abbrev waits' : List ℕ
  waits' = set waits p 1

  abbrev best' : List ℕ
  best' = set best p l

  abbrev last' : List ℕ
  last' = set last p k

  abbrev joints' : List ℕ
  joints' = set joints p (suc hu)

  p_in : p < m.places
  p_in = A.to_in k is.0

  l_small : l < none
  l_small = omega (arith, T.room, A.high k is.0, A.few)

  waits_p : get_or waits' p 0 ≡ 1
  waits_p = get_or-set_same waits p 1 0 (omega (arith, p_in, I.waits_n))

  best_p : get_or best' p none ≡ l
  best_p = get_or-set_same best p l none (omega (arith, p_in, I.best_n))

  last_p : get_or last' p none ≡ k
  last_p = get_or-set_same last p k none (omega (arith, p_in, I.last_n))

  joints_p : get_or joints' p none ≡ suc hu
  joints_p = get_or-set_same joints p (suc hu) none (omega (arith, p_in, I.joints_n))

  waits_o : (q : ℕ) → q ≢ p → get_or waits' q 0 ≡ get_or waits q 0
  waits_o q n = get_or-set_other waits p q 1 0 n

  best_o : (q : ℕ) → q ≢ p → get_or best' q none ≡ get_or best q none
  best_o q n = get_or-set_other best p q l none n

  last_o : (q : ℕ) → q ≢ p → get_or last' q none ≡ get_or last q none
  last_o q n = get_or-set_other last p q k none n

  joints_o : (q : ℕ) → q ≢ p → get_or joints' q none ≡ get_or joints q none
  joints_o q n = get_or-set_other joints p q (suc hu) none n

  -- p is not settled, before or after
  not_p : (q : ℕ) → Settled waits best q → q ≢ p
  not_p q s e =
      omega (
        arith,
        gap,
        is_none_no (get_or best q none) s.1,
        ap (λ x. is_none (get_or best x none)) e,
        ap (λ x. get_or waits x 0) e,
        s.0,
      )

  not_p' : (q : ℕ) → get_or waits' q 0 ≡ 0 → q ≢ p
  not_p' q z e = omega (arith, waits_p, ap (λ x. get_or waits' x 0) e, z)

  settled_old : (q : ℕ) → Settled waits' best' q → Settled waits best q
  settled_old q s = let n = not_p' q s.0 in (sym (waits_o q n) ∙ s.0, rw (best_o q n) at s.1)

  settled_new : (q : ℕ) → Settled waits best q → Settled waits' best' q
  settled_new q s = let n = not_p q s in (waits_o q n ∙ s.0, rw (best_o q n) s.1)

  settled_u : Settled waits best u
  settled_u = (T.away, rw T.at (λ e. omega (arith, l_small)))

  best_u : get_or best' u none ≡ d
  best_u = best_o u (not_p u settled_u) ∙ T.at

  joints_u : get_or joints' u none ≡ hu
  joints_u = joints_o u (not_p u settled_u) ∙ T.over

  start_p : m.start ≢ p
  start_p e = omega (arith, low, A.low k is.0, I.begun.0, ap (λ x. get_or best x none) e)

  -- p waits now, and is counted once as before
  pub improve_unsettled : unsettled waits' best' ≡ unsettled waits best
  unfolding unsettled
  improve_unsettled =
      omega (
        arith,
        gap,
        is_none_no l (λ e. omega (arith, l_small)),
        sum_by_set is_none best p l none (omega (arith, p_in, I.best_n)),
        sum_by_set (λ h. h) waits p 1 0 (omega (arith, p_in, I.waits_n)),
      )

  relaxed_k : Relaxed m best' last' joints' k
  relaxed_k =
      record {
        le = rw (best_p, fu, best_u) (le_refl _);
        tie = λ _. rw (last_p, joints_p, fu, joints_u) (le_refl _, λ _. le_refl _);
      }

  relaxed_o : (e : ℕ) → Settled waits best (from_of m e) → Relaxed m best last joints e
      → Relaxed m best' last' joints' e
  relaxed_o e s R = go (eqb (to_of m e) p) refl
    where
      source : get_or best' (from_of m e) none ≡ get_or best (from_of m e) none
      source = best_o (from_of m e) (not_p (from_of m e) s)

      hops : get_or joints' (from_of m e) none ≡ get_or joints (from_of m e) none
      hops = joints_o (from_of m e) (not_p (from_of m e) s)

      go : (t : Bool) → eqb (to_of m e) p ≡ t → Relaxed m best' last' joints' e
      go true q =
          let w : to_of m e ≡ p = eqb-true (to_of m e) p q in
          let a : get_or best p none ≤ get_or best (from_of m e) none + loss_of m e = rw w at R.le in
          let b : get_or best p none ≡ get_or best (from_of m e) none + loss_of m e
          → NoWorse (get_or joints p none) (get_or last p none) (suc (get_or joints (from_of m e) none)) e =
          rw w at R.tie in
          record {
            le = rw (w, best_p, source) (omega (arith, low));
            tie =
                rw (w, best_p, source, last_p, joints_p, hops)
                (λ z.
                let new = tie (omega (arith, low, a, z)) in
                let old = b (omega (arith, low, a, z)) in (
                  omega (arith, new.0, old.0),
                  λ y. omega (
                    arith,
                    new.1 (omega (arith, new.0, old.0, y)),
                    old.1 (omega (arith, new.0, old.0, y)),
                  ),
                ));
          }
      go false q =
          let w : to_of m e ≢ p = eqb-false (to_of m e) p q in
          record {
            le = rw (best_o (to_of m e) w, source) R.le;
            tie = rw (best_o (to_of m e) w, last_o (to_of m e) w, joints_o (to_of m e) w, source, hops) R.tie;
          }

  gives_o : (q e : ℕ) → q ≢ p → Gives m waits best joints q e → Gives m waits' best' joints' q e
  gives_o q e n G =
      record {
        is = G.is;
        to = G.to;
        origin = settled_new (from_of m e) G.origin;
        sum = rw (best_o q n, best_o (from_of m e) (not_p (from_of m e) G.origin)) G.sum;
        count = rw (joints_o q n, joints_o (from_of m e) (not_p (from_of m e) G.origin)) G.count;
      }

  gives_p : Gives m waits' best' joints' p k
  gives_p =
      record {
        is = is;
        to = refl;
        origin = rw fu (settled_new u settled_u);
        sum = rw (best_p, fu, best_u);
        count = rw (joints_p, fu, joints_u);
      }

  -- one span more, at a loss of at least 1
  short_p : suc hu ≤ l
  short_p = omega (arith, I.short u settled_u.1, T.at, T.over, A.low k is.0)

  pub improve : Invariant m u d (suc k) waits' (set key p l) best' last' joints'
  improve =
      record {
        waits_n = simp length-set I.waits_n;
        key_n = simp length-set I.key_n;
        best_n = simp length-set I.best_n;
        last_n = simp length-set I.last_n;
        joints_n = simp length-set I.joints_n;
        bit = by_item p (rw waits_p (le_refl _)) (λ q n. rw (waits_o q n) (I.bit q));
        met = by_item p (λ _. rw best_p (λ e. omega (arith, l_small))) (λ q n. rw (waits_o q n, best_o q n) (I.met q));
        keyed =
            by_item p (λ _. rw (best_p, get_or-set_same key p l 0 (omega (arith, p_in, I.key_n))))
            (λ q n. rw (waits_o q n, best_o q n, get_or-set_other key p q l 0 n) (I.keyed q));
        begun = (
          best_o m.start start_p ∙ I.begun.0,
          last_o m.start start_p ∙ I.begun.1,
          joints_o m.start start_p ∙ I.begun.2,
        );
        unmet =
            by_item p (λ e. absurd (omega (arith, l_small, best_p, e)))
            (λ q n. rw (best_o q n, last_o q n, joints_o q n) (I.unmet q));
        given =
            by_item p (λ _ _. rw last_p gives_p)
            (λ q n. rw (best_o q n, last_o q n) (λ a b. gives_o q (get_or last q none) n (I.given q a b)));
        relaxed =
            by_item k (λ _ _ _. relaxed_k)
            (λ e n i s f.
            let o = settled_old (from_of m e) s in
            relaxed_o e o (I.relaxed e i o (λ z. let g = f z in omega arith)));
        past = λ q s. rw (best_o q (not_p' q s.0)) (I.past q (settled_old q s));
        future = by_item p (λ _. rw best_p (omega arith)) (λ q n. rw (waits_o q n, best_o q n) (I.future q));
        small =
            rw improve_unsettled
            (by_item p (λ _. rw best_p (omega (arith, T.room, A.high k is.0)))
            (λ q n. rw (best_o q n) (I.small q)));
        short = by_item p (λ _. rw (best_p, joints_p) short_p) (λ q n. rw (best_o q n, joints_o q n) (I.short q));
      }

  pub improve_last : TakenLast m u d hu waits' best' joints'
  improve_last =
      record {
        away = waits_o u (not_p u settled_u) ∙ T.away;
        at = best_u;
        over = joints_u;
        room = rw improve_unsettled T.room;
      }
