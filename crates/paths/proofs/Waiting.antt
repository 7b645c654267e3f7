-- Which places stand in the list of those that wait, what is known of the place that comes next, and how many wait.
use Prim.Native.Nat.{ℕ, zero, suc, ◌+◌, ◌≤◌, ◌<◌}
use mathlib.Core.Path.{◌≡◌, refl, sym, ap}
use mathlib.Core.Logic.{◌≢◌}
use mathlib.Core.List.{List, [], ◌∷◌}
use mathlib.Core.Bool.{Bool, true, false, cond, true≢false}
use native.Mathlib.Nat.{le_refl}
use native.Mathlib.Omega.{arith}
use lib.ListN.{length, get_or, get_or-eq_default}
use lib.Dec.{eqb, ltb}
use borrow.Author.Tests.{eqb-true, eqb-false, ne_eqb, ltb-true, ltb-false}
use Rattle.rules.specs.Lists.{sum_by, delta, occurs}
use Rattle.rules.specs.Order.{precedes, least_of}
use Rattle.rules.proofs.Minimum.{least_of_in}
use Rattle.rules.proofs.Occurs.{by_item, delta_self, delta_other}
use Rattle.rules.proofs.Order.{is_precedes, not_precedes}
use Rattle.paths.specs.Queue.{Queue, Stop, NextPlace, halts, takes, waiting, next_of, next}
use Rattle.paths.specs.Search.{never}

-- ---- the list of those that wait

waiting_low : (ws : List ℕ) (i x : ℕ) → x < i → occurs x (waiting i ws) ≡ 0
unfolding waiting occurs sum_by
waiting_low [] i x k = refl
waiting_low (w ∷ ws) i x k = go (eqb w 0) (waiting_low ws (suc i) x (omega arith))
  where
    go : (t : Bool) → occurs x (waiting (suc i) ws) ≡ 0
        → occurs x (cond t (waiting (suc i) ws) (i ∷ waiting (suc i) ws)) ≡ 0
    go true z = z
    go false z = omega (arith, z, delta_other x i (λ w. omega arith))

-- each that waits stands there once
waiting-at : (ws : List ℕ) (i j x : ℕ) → x ≡ i + j → occurs x (waiting i ws) ≡ cond (eqb (get_or ws j 0) 0) 0 1
unfolding waiting occurs sum_by
waiting-at [] i j x e = refl
waiting-at (w ∷ ws) i zero x e = go (eqb w 0) (waiting_low ws (suc i) x (omega arith))
  where
    go : (t : Bool) → occurs x (waiting (suc i) ws) ≡ 0
        → occurs x (cond t (waiting (suc i) ws) (i ∷ waiting (suc i) ws)) ≡ cond t 0 1
    go true z = z
    go false z = let q : i ≡ x = omega arith in omega (arith, z, ap (delta x) q, delta_self x)
waiting-at (w ∷ ws) i (suc j) x e = go (eqb w 0) (waiting-at ws (suc i) j x (omega arith))
  where
    go : (t : Bool) → occurs x (waiting (suc i) ws) ≡ cond (eqb (get_or ws j 0) 0) 0 1
        → occurs x (cond t (waiting (suc i) ws) (i ∷ waiting (suc i) ws)) ≡ cond (eqb (get_or ws j 0) 0) 0 1
    go true z = z
    go false z = omega (arith, z, delta_other x i (λ w. omega arith))

waits_in : (waits : List ℕ) (x : ℕ) → get_or waits x 0 ≢ 0 → 1 ≤ occurs x (waiting 0 waits)
waits_in waits x n = rw (waiting-at waits 0 x x (omega arith), ne_eqb (get_or waits x 0) 0 n) (le_refl _)

in_waits : (waits : List ℕ) (x : ℕ) → 1 ≤ occurs x (waiting 0 waits) → get_or waits x 0 ≢ 0
in_waits waits x k e = omega (arith, k, rw e at (waiting-at waits 0 x x (omega arith)))

-- a word that is not the one read beyond the end is in the list
pub word_in : (d : ℕ) (l : List ℕ) (x : ℕ) → get_or l x d ≢ d → x < length l
word_in d l x n = go (ltb x (length l)) refl
  where
    go : (t : Bool) → ltb x (length l) ≡ t → x < length l
    go true e = ltb-true x (length l) e
    go false e = absurd (n (get_or-eq_default l d (ltb-false x (length l) e)))

pub waits_below : (waits : List ℕ) (x : ℕ) → get_or waits x 0 ≢ 0 → x < length waits
waits_below = word_in 0

-- ---- the least of a list

-- a is b, or comes before it
abbrev pub NotAfter : List ℕ → ℕ → ℕ → Type 0
NotAfter key a b = (get_or key a 0 ≤ get_or key b 0) × (get_or key a 0 ≡ get_or key b 0 → a ≤ b)

not_after : (key : List ℕ) (a b c : ℕ) → NotAfter key a b → NotAfter key b c → NotAfter key a c
not_after key a b c f g = (omega arith, λ q. omega (arith, f.1 (omega arith), g.1 (omega arith)))

least_of_least : (key : List ℕ) (x : ℕ) (ys : List ℕ) (z : ℕ) → 1 ≤ occurs z (x ∷ ys) → NotAfter key (least_of key x ys) z
unfolding least_of occurs sum_by
least_of_least key x [] =
    by_item x (λ _. (le_refl _, λ _. le_refl _)) (λ z n k. absurd (omega (arith, delta_other z x (λ e. n (sym e)))))
least_of_least key x (y ∷ ys) = go (precedes key y x) refl (least_of_least key (cond (precedes key y x) y x) ys)
  where
    go : (t : Bool) → precedes key y x ≡ t
        → ((z : ℕ) → 1 ≤ delta z (cond t y x) + occurs z ys → NotAfter key (least_of key (cond t y x) ys) z)
        → (z : ℕ) → 1 ≤ delta z x + (delta z y + occurs z ys) → NotAfter key (least_of key (cond t y x) ys) z
    go true e f =
        let g = is_precedes key y x e in
        let h : NotAfter key y x = (g.0, λ q. omega (arith, g.1 q)) in
        by_item x (λ _. not_after key _ y x (f y (omega (arith, delta_self y))) h)
        (λ z n k. f z (omega (arith, delta_other z x (λ e. n (sym e)))))
    go false e f =
        let g = not_precedes key y x e in
        let h : NotAfter key x y = (g.0, λ q. g.1 (sym q)) in
        by_item y (λ _. not_after key _ x y (f x (omega (arith, delta_self x))) h)
        (λ z n k. f z (omega (arith, delta_other z y (λ e. n (sym e)))))

-- ---- what comes next

-- The place u is taken next.
pub record TakesNext (stop : Stop) (waits key : List ℕ) (u : ℕ) : Type 0 where
  pub inside : get_or waits u 0 ≢ 0
  pub first : (q : ℕ) → get_or waits q 0 ≢ 0 → NotAfter key u q
  pub goes : stop (get_or key u 0) ≡ false

-- the place that comes next waits, and none that waits comes before it
pub next_takes : (stop : Stop) (q : Queue) (u : ℕ) → next stop q ≡ takes u → TakesNext stop q.waits q.key u
unfolding next next_of
next_takes stop q u = go (waiting 0 q.waits) refl
  where
    go : (ws : List ℕ) → waiting 0 q.waits ≡ ws → next_of stop q.key ws ≡ takes u
        → TakesNext stop q.waits q.key u
    go [] e n = let y : ◌≡◌ {A = ℕ} 0 1 = cc in absurd (omega arith)
    go (x ∷ xs) e n = step (stop (get_or q.key (least_of q.key x xs) 0)) refl n
      where
        v : ℕ
        v = least_of q.key x xs

        step : (t : Bool) → stop (get_or q.key v 0) ≡ t → cond t halts (takes v) ≡ takes u
            → TakesNext stop q.waits q.key u
        step true s n = let y : ◌≡◌ {A = ℕ} 0 1 = cc in absurd (omega arith)
        step false s n =
            let i : v ≡ u = cc in
            rw (sym i)
            (record {
              inside = in_waits q.waits v (rw e (least_of_in q.key x xs));
              first = λ z w. least_of_least q.key x xs z (rw e at (waits_in q.waits z w));
              goes = s;
            })

-- The finder halts: if any place waits, then so does one, with no larger key, at which the rule stops.
pub next_halts : (stop : Stop) (q : Queue) → next stop q ≡ halts → (z : ℕ) → get_or q.waits z 0 ≢ 0
    → (u : ℕ) × (stop (get_or q.key u 0) ≡ true) × (get_or q.key u 0 ≤ get_or q.key z 0)
unfolding next next_of occurs sum_by
next_halts stop q n z w = go (waiting 0 q.waits) refl n
  where
    go : (ws : List ℕ) → waiting 0 q.waits ≡ ws → next_of stop q.key ws ≡ halts
        → (u : ℕ) × (stop (get_or q.key u 0) ≡ true) × (get_or q.key u 0 ≤ get_or q.key z 0)
    go [] e n = absurd (omega (arith, rw e at (waits_in q.waits z w)))
    go (x ∷ xs) e n = step (stop (get_or q.key (least_of q.key x xs) 0)) refl n
      where
        v : ℕ
        v = least_of q.key x xs

        step : (t : Bool) → stop (get_or q.key v 0) ≡ t → cond t halts (takes v) ≡ halts
            → (u : ℕ) × (stop (get_or q.key u 0) ≡ true) × (get_or q.key u 0 ≤ get_or q.key z 0)
        step true s n = (v, s, (least_of_least q.key x xs z (rw e at (waits_in q.waits z w))).0)
        step false s n = let y : ◌≡◌ {A = ℕ} 0 1 = cc in absurd (omega arith)

-- a full search halts only where no place waits
pub halts_empty : (q : Queue) → next never q ≡ halts → (z : ℕ) → get_or q.waits z 0 ≡ 0
halts_empty q n z = go (eqb (get_or q.waits z 0) 0) refl
  where
    go : (t : Bool) → eqb (get_or q.waits z 0) 0 ≡ t → get_or q.waits z 0 ≡ 0
    go true e = eqb-true (get_or q.waits z 0) 0 e
    go false e =
        let h = next_halts never q n z (eqb-false (get_or q.waits z 0) 0 e) in
        absurd (true≢false (sym h.1))

-- ---- how many wait

pub sum-none : (l : List ℕ) → ((i : ℕ) → get_or l i 0 ≡ 0) → sum_by (λ h. h) l ≡ 0
unfolding sum_by
sum-none [] f = refl
sum-none (x ∷ l) f = omega (arith, f 0, sum-none l (λ i. f (suc i)))

le_sum : (l : List ℕ) (i : ℕ) → get_or l i 0 ≤ sum_by (λ h. h) l
unfolding sum_by
le_sum [] i = omega arith
le_sum (x ∷ l) zero = omega arith
le_sum (x ∷ l) (suc i) = omega (arith, le_sum l i)

module _ (q : Queue) where
  -- a place waits, so one comes next; none waits, so a full search halts
  pub some_next : sum_by (λ h. h) q.waits ≢ 0 → (u : ℕ) × (next never q ≡ takes u)
  some_next n = go (next never q) refl
    where
      go : (x : NextPlace) → next never q ≡ x → (u : ℕ) × (next never q ≡ takes u)
      go (takes u) e = (u, e)
      go halts e = absurd (n (sum-none q.waits (halts_empty q e)))

  pub none-next : sum_by (λ h. h) q.waits ≡ 0 → next never q ≡ halts
  none-next n = go (next never q) refl
    where
      go : (x : NextPlace) → next never q ≡ x → next never q ≡ halts
      go halts e = e
      go (takes u) e =
          let w : get_or q.waits u 0 ≢ 0 = (next_takes never q u e).inside in
          absurd (omega (arith, le_sum q.waits u))
