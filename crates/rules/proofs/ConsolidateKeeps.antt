-- Consolidating a row leaves the forests formed, and no tree is lost at the seventeen places.
use Prim.Native.Nat.{ℕ, zero, suc, ◌+◌, ◌≤◌, ◌<◌}
use mathlib.Core.Path.{◌≡◌, refl, sym, ap, ◌∙◌}
use mathlib.Core.Logic.{◌≢◌}
use mathlib.Core.List.{List, [], ◌∷◌, ◌++◌}
use mathlib.Core.Bool.{Bool, true, false, cond}
use native.Mathlib.Nat.{le_refl}
use native.Mathlib.Omega.{arith}
use lib.ListN.{length, get_or, set, replicate, length-set, length-append}
use lib.Seq.{get_or-set_same, get_or-set_other}
use borrow.Author.Tests.{eqb-true, eqb-false}
use Rattle.rules.specs.Consolidate.{
  Linking,
  climb,
  consolidate,
  consolidate_within,
  holder,
  is_free,
  link,
  link_at,
  link_trees,
  occupied,
  winner,
}
use Rattle.rules.specs.Forests.{Forests, children_of, none, rank_of, row_of, set_row}
use Rattle.rules.specs.Lists.{delta, occurs, sum_by}
use Rattle.rules.specs.Order.{precedes}
use Rattle.rules.proofs.EmptyForests.{get_or_all}
use Rattle.rules.proofs.Excused.{Formed}
use Rattle.rules.proofs.LinkKeeps.{anew, in_row_lem, link_formed, once, re_row, row_h}
use Rattle.rules.proofs.Members.{heap_in, not_none}
use Rattle.rules.proofs.Occupied.{occupied-extract, occupied_put}
use Rattle.rules.proofs.Occurs.{by_item, delta_self, occurs-append}
use Rattle.rules.proofs.Order.{precedes-total}
use Rattle.rules.proofs.RankSixteen.{root_rank_16}

-- Between two steps: the row of h is what stands at the places and what is still to come, and a tree at place r has
-- rank r.
pub record Held (h : ℕ) (ps rest : List ℕ) (s : Forests) : Type 0 where
  pub formed : Formed (set_row h (occupied ps ++ rest) s)
  pub long : length ps ≡ 17
  pub rank : (r : ℕ) → get_or ps r none ≢ none → rank_of s (get_or ps r none) ≡ r

module _ (h : ℕ) (hh : h < 8) (ps rest : List ℕ) (x : ℕ) (s : Forests) (H : Held h ps (x ∷ rest) s) where
  abbrev ρ : List ℕ
  ρ = occupied ps ++ (x ∷ rest)

  pub occurs_ρ : (z : ℕ) → occurs z ρ ≡ occurs z (occupied ps) + delta z x + occurs z rest
  unfolding occurs sum_by
  occurs_ρ z = omega (arith, occurs-append z (occupied ps) (x ∷ rest))

  pub x_in : 1 ≤ occurs x ρ
  x_in = omega (arith, occurs_ρ x, delta_self x)

  pub x_heap : x < length s.heap
  x_heap = heap_in s x (λ e. omega (arith, (in_row_lem s h ρ H.formed hh x x_in).0))

  x_some : x ≢ none
  x_some e = not_none (set_row h ρ s) H.formed.disjoint x x_heap (sym e)

  x_apart : occurs x (occupied ps) ≡ 0
  x_apart = omega (arith, occurs_ρ x, delta_self x, once s h ρ H.formed hh x x_in)

  pub rank_low : rank_of s x ≤ 16
  rank_low = root_rank_16 (set_row h ρ s) H.formed h x (rw (row_h s h ρ H.formed hh ρ) x_in)

  -- the tree comes to rest
  pub held_put : (r : ℕ) → rank_of s x ≡ r → get_or ps r none ≡ none → Held h (set ps r x) rest s
  held_put r q e = record {
    formed = anew s h ρ H.formed hh (occupied (set ps r x) ++ rest)
        (λ z. omega
        (arith, occurs-append z (occupied (set ps r x)) rest, occupied_put ps r x z r_in e x_some, occurs_ρ z));
    long = length-set ps r x ∙ H.long;
    rank = by_item r (λ _. rw (get_or-set_same ps r x none r_in) q)
        (λ t n. rw (get_or-set_other ps r t x none n) (H.rank t));
  }
    where
      r_in : r < length ps
      r_in = omega (arith, H.long, rank_low, q)

  -- the place is taken by a tree of the same rank, and one of the two becomes the other's child
  module _ (r : ℕ) (q : rank_of s x ≡ r) (n : get_or ps r none ≢ none) where
    abbrev y : ℕ
    y = get_or ps r none

    r_in : r < length ps
    r_in = omega (arith, H.long, rank_low, q)

    pub y_in : 1 ≤ occurs y ρ
    y_in = omega (arith, occurs_ρ y, occupied-extract ps r y r_in n, delta_self y)

    pub y_apart : y ≢ x
    y_apart e = omega (arith, x_apart, occupied-extract ps r x r_in n, delta_self x, ap (delta x) e)

    linked : (a l : ℕ) → 1 ≤ occurs a ρ → 1 ≤ occurs l ρ → a ≢ l → rank_of s a ≡ r → rank_of s l ≡ r
        → precedes s.key a l ≡ true
        → ((z : ℕ) → delta z a + delta z l ≡ delta z x + delta z y)
        → Held h (set ps r none) (a ∷ rest) (link a l s) × (rank_of (link a l s) a ≡ suc r)
    unfolding link occurs sum_by
    linked a l ia il al ra rl o e = (
      record {
        formed = link_formed s h ρ H.formed hh a l ia il al (ra ∙ sym rl) o
            (occupied (set ps r none) ++ (a ∷ rest))
            (λ z. omega (
              arith,
              occurs-append z (occupied (set ps r none))
                  (a ∷ rest),
              occupied-extract ps r z r_in n,
              occurs_ρ z,
              e z,
            ));
        long = length-set ps r none ∙ H.long;
        rank = by_item r (λ m. absurd (m (get_or-set_same ps r none none r_in)))
            (λ t m. rw (get_or-set_other ps r t none none m)
            (λ u. rw (get_or-set_other s.children a (get_or ps t none) (children_of s a ++ (l ∷ [])) []
            (λ z. m (sym (H.rank t u) ∙ rw z ra))) (H.rank t u)));
      },
      rw (get_or-set_same s.children a (children_of s a ++ (l ∷ [])) []
          (omega (
            arith,
            H.formed.disjoint.children_n,
            heap_in s a
                (λ z. omega (arith, (in_row_lem s h ρ H.formed hh a ia).0)),
          )))
          (omega (arith, length-append (children_of s a) (l ∷ []), ra)),
    )

    pub held-linked : (b : Bool) → precedes s.key y x ≡ b
        → Held h (set ps r none) (cond b y x ∷ rest) (link (cond b y x) (cond b x y) s) ×
        (rank_of (link (cond b y x) (cond b x y) s) (cond b y x) ≡ suc r)
    held-linked true e = linked y x y_in x_in y_apart (H.rank r n) q e (λ z. omega arith)
    held-linked false e =
        linked x y x_in y_in (λ z. y_apart (sym z)) q (H.rank r n) (precedes-total s.key y x y_apart e)
        (λ z. refl)

pub climb-held : (d : ℕ) (f : Bool) (r x h : ℕ) (rest : List ℕ) (w : Linking) → h < 8 → is_free w.places r ≡ f
    → Held h w.places (x ∷ rest) w.forests → rank_of w.forests x ≡ r → 18 ≤ d + r
    → Held h (climb d f r x w).places rest (climb d f r x w).forests
unfolding climb is_free
climb-held zero f r x h rest w hh e H q k = absurd (omega (arith, rank_low h hh w.places rest x w.forests H))
climb-held (suc d) true r x h rest w hh e H q k = held_put h hh w.places rest x w.forests H r q (eqb-true _ _ e)
climb-held (suc d) false r x h rest w hh e H q k =
    let v : Linking = link_at r x w in
    let m = held-linked h hh w.places rest x w.forests H r q (eqb-false _ _ e) _ refl in
    climb-held d (is_free v.places (suc r)) (suc r) (winner w.forests.key (holder w.places r) x) h rest v hh
    refl m.0 m.1 (omega arith)

link_trees-held : (d : ℕ) (xs : List ℕ) (h : ℕ) (w : Linking) → 18 ≤ d → h < 8 → Held h w.places xs w.forests
    → Held h (link_trees d xs w).places [] (link_trees d xs w).forests
unfolding link_trees
link_trees-held d [] h w k hh H = H
link_trees-held d (x ∷ xs) h w k hh H =
    let r : ℕ = rank_of w.forests x in
    let v : Linking = climb d (is_free w.places r) r x w in
    link_trees-held d xs h v k hh (climb-held d (is_free w.places r) r x h xs w hh refl H refl (omega arith))

pub held_start : (h : ℕ) (s : Forests) → h < 8 → Formed s → Held h (replicate 17 none) (row_of s h) s
unfolding occupied
held_start h s hh S =
    record {
      formed = re_row s h (row_of s h) S hh (λ z. refl);
      long = refl;
      rank = λ r n. absurd (n (get_or_all 17 r none));
    }

unfoldable pub linked-row : (d h : ℕ) (s : Forests) → Linking
linked-row d h s = link_trees d (row_of s h) (record { places = replicate 17 none; links = 0; forests = s })

pub linked-held : (h : ℕ) (s : Forests) → h < 8 → Formed s
    → Held h (linked-row 18 h s).places [] (linked-row 18 h s).forests
unfolding linked-row
linked-held h s hh S = link_trees-held 18 (row_of s h) h _ (le_refl 18) hh (held_start h s hh S)

pub consolidate_formed : (h : ℕ) (s : Forests) → h < 8 → Formed s → Formed (consolidate h s).forests
unfolding consolidate consolidate_within linked-row occurs sum_by
consolidate_formed h s hh S =
    let w : Linking = linked-row 18 h s in
    anew w.forests h (occupied w.places ++ []) (linked-held h s hh S).formed hh (occupied w.places)
    (λ y. omega (arith, occurs-append y (occupied w.places) []))
