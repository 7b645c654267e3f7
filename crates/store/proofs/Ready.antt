-- The words of forests allow the moves: what stands in a list of siblings is in the table.
use Prim.Native.Nat.{ℕ, ◌≤◌, ◌<◌}
use mathlib.Core.Path.{◌≡◌, refl, sym, subst, ◌∙◌}
use mathlib.Core.Logic.{◌≢◌}
use mathlib.Core.List.{List, [], ◌∷◌}
use native.Mathlib.Omega.{arith}
use lib.ListN.{length}
use borrow.Author.Tests.{ne_eqb}
use Rattle.rules.specs.declared.Field.TheVariants.{Next, Prev, Rank}
use Rattle.rules.specs.Lists.{occurs, sum_by}
use Rattle.rules.specs.Forests.{Forests, none, heap_of, rank_of}
use Rattle.rules.specs.Words.{look, last_or, next_in, prev_in, unless_free, word}
use Rattle.rules.proofs.Members.{heap_in}
use Rattle.rules.proofs.Occurs.{delta_other}
use Rattle.rules.proofs.Siblings.{last_in}
use Rattle.rules.proofs.RemoveLinks.{prev_in_lem, next_out}
use Rattle.rules.proofs.Follow.{once_short}
use Rattle.store.specs.declared.Owner.{Owner}
use Rattle.store.specs.declared.Owner.TheVariants.{Row, Children}
use Rattle.store.specs.Siblings.{Inside, Link, last_of, OwnerReady, RankRises, RankFalls, AppendReady, RemoveReady}
use Rattle.store.specs.Families.{list_of, word_but, with_links, Shape, Present, Family, Holds}
use Rattle.store.proofs.Listed.{link_in, not_in}
use Rattle.store.proofs.Moves.{last_says}
use Rattle.store.proofs.RemoveWords.{next_of, prev_of}

present_inside : (n : ℕ) (t : Forests) (o : Owner) → Present n t o → Inside n o
present_inside n t (Row h) p = p
present_inside n t (Children q) p = p.0

-- a list with a member is not empty
member_long : (x : ℕ) (l : List ℕ) → 1 ≤ occurs x l → 1 ≤ length l
unfolding occurs sum_by
member_long x [] k = absurd (omega arith)
member_long x (y ∷ l) k = omega arith

module _ (n : ℕ) (t : Forests) (o : Owner) (S : Shape n t) (F : Family n t o) where
  -- a member is in the table
  pub member : (y : ℕ) → 1 ≤ occurs y (list_of t o) → y < n
  member y k = omega (arith, heap_in t y (F.owned y k).0, S.heap_n)

  no_member : (y : ℕ) → n ≤ y → occurs y (list_of t o) ≡ 0
  no_member y h = not_in y (list_of t o) (λ i. omega (arith, member y i))

  -- a list has at most as many members as there are items
  list_short : length (list_of t o) ≤ n
  list_short = once_short n (list_of t o) F.once no_member

  -- the ends of a list and the links of its members are in the table, or none
  member_link : (z : ℕ) → 1 ≤ occurs z (none ∷ list_of t o) → Link n z
  unfolding occurs sum_by
  member_link z k m = member z (omega (arith, delta_other z none (λ e. m (sym e))))

  last_link : Link n (last_or none (list_of t o))
  last_link = member_link (last_or none (list_of t o)) (last_in none (list_of t o))

  prev_link : (x : ℕ) → 1 ≤ occurs x (list_of t o) → Link n (prev_in none x (list_of t o))
  prev_link x k = member_link (prev_in none x (list_of t o)) (prev_in_lem none x (list_of t o) k)

  next-link : (x : ℕ) → Link n (next_in x (list_of t o))
  next-link x =
      link_in n (list_of t o) member (next_in x (list_of t o))
      (λ m z. next_out x (next_in x (list_of t o)) (list_of t o) z m refl)

-- the last word of a list whose words are those of the forests
last_word : (n : ℕ) (amounts counts minima : ℕ → ℕ) (t : Forests) (o : Owner) → Present n t o → (x a b : ℕ)
    → last_of o (with_links x a b (word_but amounts counts minima t)) ≡ last_or none (list_of t o)
unfolding last_of with_links word_but word list_of unless_free
last_word n amounts counts minima t (Row h) p x a b = refl
last_word n amounts counts minima t (Children q) p x a b = rw (ne_eqb (heap_of t q) 0 p.1)

module _ {n : ℕ} {w : List ℕ} {amounts counts minima : ℕ → ℕ} {t : Forests} {x : ℕ}
    (H : Holds n w amounts counts minima t x) where
  -- the rank of an owner can rise, since its list is short, and fall, where it has a member
  rank_word : (p : ℕ) → p < n → look n w Rank p ≡ rank_of t p
  unfolding with_links word_but word
  rank_word p k = H.says.says Rank p k

  rank_rises : (o : Owner) → Family n t o → RankRises o (look n w)
  unfolding RankRises list_of
  rank_rises (Row h) F = tt
  rank_rises (Children p) F =
      omega (arith, rank_word p F.present.0, list_short n t (Children p) H.shape F, H.shape.small)

  rank_falls : (o : Owner) → Family n t o → (y : ℕ) → 1 ≤ occurs y (list_of t o) → RankFalls o (look n w)
  unfolding RankFalls list_of
  rank_falls (Row h) F y k = tt
  rank_falls (Children p) F y k =
      omega (arith, rank_word p F.present.0, member_long y (list_of t (Children p)) k)

  owner_ready : (o : Owner) → Family n t o → OwnerReady n w o
  owner_ready o F = record { sized = H.says.sized; inside = present_inside n t o F.present }

  last_ready : (o : Owner) → Family n t o → Link n (last_of o (look n w))
  last_ready o F =
      subst (Link n)
      (sym (last_says o (present_inside n t o F.present) H.says
      ∙ last_word n amounts counts minima t o F.present x H.next H.prev))
      (last_link n t o H.shape F)

  pub append_ready : (o : Owner) → Family n t o → x < n → AppendReady n w o x
  append_ready o F k =
      record { owner = owner_ready o F; last = last_ready o F; item = k; rank = rank_rises o F }

  -- the links of an item other than x
  next_word : (y : ℕ) → y < n → y ≢ x → look n w Next y ≡ word amounts t Next y
  unfolding with_links word_but
  next_word y k m = H.says.says Next y k ∙ rw (ne_eqb x y (λ e. m (sym e)))

  prev_word : (y : ℕ) → y < n → y ≢ x → look n w Prev y ≡ word amounts t Prev y
  unfolding with_links word_but
  prev_word y k m = H.says.says Prev y k ∙ rw (ne_eqb x y (λ e. m (sym e)))

  pub remove_ready : (o : Owner) → Family n t o → (y : ℕ) → 1 ≤ occurs y (list_of t o) → y ≢ x → RemoveReady n w o y
  remove_ready o F y k m =
      let i : y < n = member n t o H.shape F y k in
      record {
        owner = owner_ready o F;
        item = i;
        next = subst (Link n) (sym (next_word y i m ∙ next_of amounts n t o y H.shape F k))
            (next-link n t o H.shape F y);
        prev = subst (Link n) (sym (prev_word y i m ∙ prev_of amounts n t o y H.shape F k))
            (prev_link n t o H.shape F y k);
        rank = rank_falls o F y k;
      }
