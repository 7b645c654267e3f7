-- What linking, taking, insertion and joining do to the potential. These hold of any lists whatever, well-formed or
-- not.
use Prim.Native.Nat.{ℕ, zero, suc, ◌+◌, ◌≤◌, zero-le}
use mathlib.Core.Path.{◌≡◌, refl, sym, ap}
use mathlib.Core.Logic.{◌≢◌}
use mathlib.Core.List.{List, [], ◌∷◌, ◌++◌}
use mathlib.Core.Bool.{Bool, true, false, cond}
use native.Mathlib.Nat.{le_refl}
use native.Mathlib.Omega.{arith}
use lib.ListN.{length, get_or, set, replicate, length-append}
use lib.Seq.{get_or-set_other}
use lib.Dec.{eqb}
use Rattle.rules.specs.Calls.{extract, insert, meld, release, remove_root, set_free}
use Rattle.rules.specs.Consolidate.{
  Linking,
  climb,
  consolidate,
  consolidate_within,
  holder,
  is_free,
  link,
  link_at,
  link_trees,
  occupied,
  winner,
}
use Rattle.rules.specs.Forests.{Forests, children_of, marks, none, potential, rank_of, row_of, trees}
use Rattle.rules.specs.Lists.{occurs, set_all, sum_by, without}
use Rattle.rules.proofs.CutPotential.{clear}
use Rattle.rules.proofs.Linking.{link_trees_keeps}
use Rattle.rules.proofs.Sums.{length_without, sum_by_set_le}

-- ---- linking

-- a place counts 1 if a tree stands there
unfoldable pub busy : ℕ → ℕ
busy x = cond (eqb x none) 0 1

busy_le : (x : ℕ) → busy x ≤ 1
unfolding busy
busy_le x = go (eqb x none)
  where
    go : (t : Bool) → cond t 0 1 ≤ 1
    go true = zero-le
    go false = le_refl 1

pub length-occupied : (ps : List ℕ) → length (occupied ps) ≡ sum_by busy ps
unfolding occupied sum_by busy
length-occupied [] = refl
length-occupied (x ∷ xs) = go (eqb x none) (length-occupied xs)
  where
    go : (t : Bool) → length (occupied xs) ≡ sum_by busy xs
        → length (cond t (occupied xs) (x ∷ occupied xs)) ≡ cond t 0 1 + sum_by busy xs
    go true ih = omega arith
    go false ih = omega arith

taken_busy : (ps : List ℕ) (r : ℕ) → is_free ps r ≡ false → busy (get_or ps r none) ≡ 1
unfolding is_free busy
taken_busy ps r e = rw e

-- links made and places taken by one tree: what was there, and one more
pub climb-count : (d : ℕ) (f : Bool) (r x : ℕ) (w : Linking) → is_free w.places r ≡ f
    → (climb d f r x w).links + sum_by busy (climb d f r x w).places ≤ w.links + sum_by busy w.places + 1
unfolding climb busy
climb-count zero f r x w e = omega arith
climb-count (suc d) true r x w e = omega (arith, sum_by_set_le busy w.places r x none refl, busy_le x)
climb-count (suc d) false r x w e =
    let v : Linking = link_at r x w in
    omega (
      arith,
      climb-count d (is_free v.places (suc r)) (suc r) (winner w.forests.key (holder w.places r) x) v refl,
      sum_by_set_le busy w.places r none none refl,
      taken_busy w.places r e,
    )

link_trees-count : (d : ℕ) (xs : List ℕ) (w : Linking)
    → (link_trees d xs w).links + sum_by busy (link_trees d xs w).places ≤ w.links + sum_by busy
    w.places + length xs
unfolding link_trees
link_trees-count d [] w = omega arith
link_trees-count d (x ∷ xs) w =
    let r : ℕ = rank_of w.forests x in
    let v : Linking = climb d (is_free w.places r) r x w in
    omega (arith, climb-count d (is_free w.places r) r x w refl, link_trees-count d xs v)

link_trees_rows : (d : ℕ) (xs : List ℕ) (w : Linking) → (link_trees d xs w).forests.rows ≡ w.forests.rows
unfolding link
link_trees_rows d xs w = link_trees_keeps (λ t. t.rows ≡ w.forests.rows) (λ a l t e. e) d xs w refl

link_trees-marks : (d : ℕ) (xs : List ℕ) (w : Linking) → marks (link_trees d xs w).forests ≤ marks w.forests
unfolding link marks
link_trees-marks d xs w =
    link_trees_keeps (λ t. marks t ≤ marks w.forests) (λ a l t k. omega (arith, clear t.mark l)) d xs w
    (le_refl _)

-- each link takes one tree away
consolidate-potential : (h : ℕ) (s : Forests)
    → (consolidate h s).links + potential (consolidate h s).forests ≤ potential s
unfolding consolidate consolidate_within potential trees sum_by busy marks
consolidate-potential h s =
    let z : Linking = record { places = replicate 17 none; links = 0; forests = s } in
    let w : Linking = link_trees 18 (row_of s h) z in
    let e : w.forests.rows ≡ s.rows = link_trees_rows 18 (row_of s h) z in
    let n : sum_by busy z.places ≡ 0 = refl in
    omega (
      arith,
      link_trees-count 18 (row_of s h) z,
      link_trees-marks 18 (row_of s h) z,
      length-occupied w.places,
      sum_by_set_le length w.forests.rows h (occupied w.places) [] refl,
      ap (sum_by length) e,
      ap (λ l. length (get_or l h [])) e,
    )

-- ---- a root leaves: its children are trees now

clear_all : (cs ms : List ℕ) → sum_by (λ m. m) (set_all cs 0 ms) ≤ sum_by (λ m. m) ms
unfolding set_all
clear_all [] ms = le_refl _
clear_all (c ∷ cs) ms = omega (arith, clear_all cs (set ms c 0), clear ms c)

pub remove_root-potential : (h x : ℕ) (s : Forests) → 1 ≤ occurs x (row_of s h)
    → potential (remove_root h x s) + 1 ≤ potential s + rank_of s x
unfolding remove_root set_free release potential trees marks
remove_root-potential h x s i =
    omega (
      arith,
      clear_all (children_of s x) s.mark,
      clear (set_all (children_of s x) 0 s.mark) x,
      length_without x (row_of s h) i,
      length-append (without x (row_of s h)) (children_of s x),
      sum_by_set_le length s.rows h (without x (row_of s h) ++ children_of s x) [] refl,
    )

pub extract-potential : (h x : ℕ) (s : Forests) → 1 ≤ occurs x (row_of s h)
    → (extract h x s).reply.links + (extract h x s).reply.cuts + potential (extract h x s).next + 1
    ≤ potential s + rank_of s x
unfolding extract
extract-potential h x s i = omega (arith, remove_root-potential h x s i, consolidate-potential h (remove_root h x s))

-- ---- insertion and joining

pub insert-potential : (h i k : ℕ) (s : Forests) → potential (insert h i k s) ≤ potential s + 1
unfolding insert potential trees marks
insert-potential h i k s =
    omega (
      arith,
      sum_by_set_le length s.rows h (row_of s h ++ (i ∷ [])) [] refl,
      length-append (row_of s h) (i ∷ []),
    )

pub meld-potential : (a b : ℕ) (s : Forests) → a ≢ b → potential (meld a b s) ≤ potential s
unfolding meld potential trees marks
meld-potential a b s n =
    let r : List ℕ = row_of s a ++ row_of s b in
    omega (
      arith,
      sum_by_set_le length (set s.rows a r) b [] [] refl,
      sum_by_set_le length s.rows a r [] refl,
      length-append (row_of s a) (row_of s b),
      ap length (get_or-set_other s.rows a b r [] (λ e. n (sym e))),
    )
