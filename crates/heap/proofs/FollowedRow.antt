-- The words after a list l has followed row a, by kind, from any values that have the ends of the rows.
use Rattle.std.proofs.Common.{◌≡◌, ℕ, ◌≤◌, Bool, true, false, cond, eqb, ◌≢◌, List, [], ◌∷◌, ◌++◌, sym, refl, ap, ◌∙◌, append-nil, arith, ne_eqb, eqb-true}
use Rattle.rules.specs.declared.Field.{Field}
use Rattle.rules.specs.declared.Field.TheVariants.{FirstTree, LastTree, Next, Prev}
use Rattle.store.specs.declared.Owner.TheVariants.{Row}
use Rattle.rules.specs.Forests.{Forests, none, row_of}
use Rattle.rules.specs.Kinds.{Apart}
use Rattle.rules.specs.Lists.{occurs, sum_by}
use Rattle.rules.specs.WellFormed.{Disjoint}
use Rattle.rules.specs.Words.{head_or, last_or, next_in, prev_in}
use Rattle.rules.proofs.ConcatLinks.{head_concat, last_concat, next_before, prev_behind, prev_first}
use Rattle.rules.proofs.Occurs.{delta_self}
use Rattle.rules.proofs.Relinks.{at_end}
use Rattle.rules.proofs.SiblingLists.{once_row}
use Rattle.rules.proofs.RemoveLinks.{none_head}
use Rattle.rules.proofs.Siblings.{member_apart, last_in}
use Rattle.store.specs.Says.{Values}
use Rattle.store.specs.Siblings.{concatenated, first_of, last_of}
use Rattle.store.proofs.ConcatWords.{
  concat_first,
  concat_last,
  concat_next,
  concat_none,
  concat_other,
  concat_prev,
  link_kinds,
}
use Rattle.store.proofs.ListMembers.{none_row}

-- a value at a place taken from there
at_self : (f : ℕ → ℕ) (a g : ℕ) → cond (eqb a g) (f a) (f g) ≡ f g
at_self f a g = go (eqb a g) refl
  where
    go : (u : Bool) → eqb a g ≡ u → cond u (f a) (f g) ≡ f g
    go true e = ap f (eqb-true a g e)
    go false e = refl

head_in : (z : ℕ) (zs : List ℕ) → 1 ≤ occurs z (z ∷ zs)
unfolding occurs sum_by
head_in z zs = omega (arith, delta_self z)

-- v has the ends of the rows of t
pub record RowEnds (t : Forests) (v : Values) : Type 0 where
  pub first : (g : ℕ) → v FirstTree g ≡ head_or none (row_of t g)
  pub last : (g : ℕ) → v LastTree g ≡ last_or none (row_of t g)

abbrev pub row_followed : Values → ℕ → List ℕ → Values
row_followed v a l = concatenated (Row a) (head_or none l) (last_or none l) v

-- the words other than links stay
pub plain_after : (v : Values) (a : ℕ) (l : List ℕ) (f : Field) (j : ℕ) → Apart (link_kinds (Row a)) f
    → row_followed v a l f j ≡ v f j
plain_after v a l = concat_other (head_or none l) (last_or none l) v (Row a)

module _ (t : Forests) (D : Disjoint t) (v : Values) (E : RowEnds t v) (a : ℕ) where
  -- nothing follows the row, or a list with the first item z
  unchanged : (f : Field) (j : ℕ) → row_followed v a [] f j ≡ v f j
  unfolding head_or
  unchanged f j = concat_none none (last_or none []) v (Row a) refl f j

  next-joined : (z : ℕ) (zs : List ℕ) → occurs none (z ∷ zs) ≡ 0 → (j : ℕ)
      → row_followed v a (z ∷ zs) Next j ≡ cond (eqb (last_or none (row_of t a)) j) z (v Next j)
  unfolding head_or last_of
  next-joined z zs n j = concat_next z (last_or none (z ∷ zs)) v (none_head z zs n) (Row a) j ∙ rw (E.last a)

  prev_joined : (z : ℕ) (zs : List ℕ) → occurs none (z ∷ zs) ≡ 0 → (j : ℕ)
      → row_followed v a (z ∷ zs) Prev j ≡ cond (eqb z j) (last_or none (row_of t a)) (v Prev j)
  unfolding head_or last_of
  prev_joined z zs n j = concat_prev z (last_or none (z ∷ zs)) v (none_head z zs n) (Row a) j ∙ rw (E.last a)

  -- the ends of any row
  pub first_after : (l : List ℕ) → occurs none l ≡ 0 → (g : ℕ)
      → row_followed v a l FirstTree g ≡ cond (eqb a g) (head_or none (row_of t a ++ l)) (head_or none (row_of t g))
  unfolding head_or first_of last_of
  first_after [] n g =
      unchanged FirstTree g
      ∙ E.first g
      ∙ rw (append-nil (row_of t a)) (sym (at_self (λ x. head_or none (row_of t x)) a g))
  first_after (z ∷ zs) n g =
      concat_first z (last_or none (z ∷ zs)) v (none_head z zs n) (Row a) (Row g)
      ∙ rw (E.first a, E.first g, E.last a, head_concat (row_of t a) (z ∷ zs) (none_row t D a))

  pub last_after : (l : List ℕ) → occurs none l ≡ 0 → (g : ℕ)
      → row_followed v a l LastTree g ≡ cond (eqb a g) (last_or none (row_of t a ++ l)) (last_or none (row_of t g))
  unfolding head_or last_or last_of
  last_after [] n g =
      unchanged LastTree g
      ∙ E.last g
      ∙ rw (append-nil (row_of t a)) (sym (at_self (λ x. last_or none (row_of t x)) a g))
  last_after (z ∷ zs) n g =
      concat_last z (last_or none (z ∷ zs)) v (none_head z zs n) (Row a) (Row g)
      ∙ rw (E.last g, last_concat none (row_of t a) (z ∷ zs))

  -- the next word of an item outside row a, and of one in it
  pub next_kept : (l : List ℕ) → occurs none l ≡ 0 → (j : ℕ) → j ≢ none → occurs j (row_of t a) ≡ 0
      → row_followed v a l Next j ≡ v Next j
  next_kept [] n j m k = unchanged Next j
  next_kept (z ∷ zs) n j m k =
      next-joined z zs n j
      ∙ rw (ne_eqb (last_or none (row_of t a)) j
      (at_end (last_or none (row_of t a)) j (row_of t a) (last_in none (row_of t a)) m k))

  pub next_one : (l : List ℕ) → occurs none l ≡ 0 → (j : ℕ) → j ≢ none → occurs j l ≡ 0
      → v Next j ≡ next_in j (row_of t a) → row_followed v a l Next j ≡ next_in j (row_of t a ++ l)
  unfolding head_or
  next_one [] n j m k e = unchanged Next j ∙ rw (append-nil (row_of t a)) e
  next_one (z ∷ zs) n j m k e =
      next-joined z zs n j
      ∙ ap (λ x. cond (eqb (last_or none (row_of t a)) j) z x) e
      ∙ sym (next_before none j (row_of t a) (z ∷ zs) (once_row t D a) (λ q. m (sym q)) k)

  -- the previous word of an item outside the list, and of one in it
  pub prev_kept : (l : List ℕ) → occurs none l ≡ 0 → (j : ℕ) → occurs j l ≡ 0 → row_followed v a l Prev j ≡ v Prev j
  prev_kept [] n j k = unchanged Prev j
  prev_kept (z ∷ zs) n j k =
      prev_joined z zs n j ∙ rw (ne_eqb z j (member_apart z j (z ∷ zs) (head_in z zs) k))

  pub prev_two : (l : List ℕ) → occurs none l ≡ 0 → (j : ℕ) → j ≢ none → occurs j (row_of t a) ≡ 0
      → v Prev j ≡ prev_in none j l → row_followed v a l Prev j ≡ prev_in none j (row_of t a ++ l)
  unfolding prev_in head_or
  prev_two [] n j m k e = unchanged Prev j ∙ e ∙ sym (prev_behind none j (row_of t a) [] k)
  prev_two (z ∷ zs) n j m k e =
      prev_joined z zs n j
      ∙ ap (λ x. cond (eqb z j) (last_or none (row_of t a)) x) e
      ∙ sym (prev_first (last_or none (row_of t a)) j (z ∷ zs) m)
      ∙ sym (prev_behind none j (row_of t a) (z ∷ zs) k)
