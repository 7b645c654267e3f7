-- The words after the siblings from x to y were joined to the list of an owner.
use Prim.Native.Nat.{ℕ}
use mathlib.Core.Path.{◌≡◌, refl}
use mathlib.Core.Logic.{◌≢◌}
use mathlib.Core.List.{List, [], ◌∷◌}
use mathlib.Core.Bool.{Bool, true, false, cond}
use lib.Dec.{eqb}
use borrow.Author.Tests.{ne_eqb}
use Rattle.rules.specs.declared.Field.{Field}
use Rattle.rules.specs.declared.Field.TheVariants.{FirstTree, LastTree, FirstChild, LastChild, Next, Prev}
use Rattle.rules.specs.Forests.{none}
use Rattle.rules.specs.Kinds.{Apart}
use Rattle.rules.proofs.ByKind.{apart_from}
use Rattle.store.specs.declared.Owner.{Owner}
use Rattle.store.specs.declared.Owner.TheVariants.{Row, Children}
use Rattle.store.specs.Says.{Values}
use Rattle.store.specs.Siblings.{first_of, last_of, set_first, set_last, set_next, joined, concatenated}

-- two owners are one
abbrev pub same_owner : Owner → Owner → Bool
same_owner (Row h) (Row g) = eqb h g
same_owner (Row h) (Children p) = false
same_owner (Children p) (Row h) = false
same_owner (Children p) (Children q) = eqb p q

-- the kinds of the words that name the ends of a list
abbrev pub first_kind : Owner → Field
first_kind (Row h) = FirstTree
first_kind (Children p) = FirstChild

abbrev pub last_kind : Owner → Field
last_kind (Row h) = LastTree
last_kind (Children p) = LastChild

-- the kinds of the links of a list of this owner
abbrev pub link_kinds : Owner → List Field
link_kinds o = first_kind o ∷ last_kind o ∷ Next ∷ Prev ∷ []

module _ (x y : ℕ) (v : Values) where
  -- where x is none nothing changes
  pub concat_none : (o : Owner) → x ≡ none → (f : Field) (i : ℕ) → concatenated o x y v f i ≡ v f i
  unfolding concatenated
  concat_none o e f i = rw e

  -- and words of other kinds never do
  pub concat_other : (o : Owner) (f : Field) (i : ℕ) → Apart (link_kinds o) f → concatenated o x y v f i ≡ v f i
  unfolding concatenated joined set_next set_first set_last first_of last_of
  concat_other o f i a = go (eqb x none)
    where
      kept : (o : Owner) → Apart (link_kinds o) f → joined o (last_of o v) x y v f i ≡ v f i
      kept (Row h) a =
          let e = apart_from (link_kinds (Row h)) f a in
          simp (e FirstTree refl, e LastTree refl, e Next refl, e Prev refl)
      kept (Children p) a =
          let e = apart_from (link_kinds (Children p)) f a in
          simp (e FirstChild refl, e LastChild refl, e Next refl, e Prev refl)

      go : (t : Bool) → cond t v (joined o (last_of o v) x y v) f i ≡ v f i
      go true = refl
      go false = kept o a

  module _ (some : x ≢ none) where
    -- the links of the members
    pub concat_next : (o : Owner) (j : ℕ) → concatenated o x y v Next j ≡ cond (eqb (last_of o v) j) x (v Next j)
    unfolding concatenated joined set_next set_first set_last first_of last_of
    concat_next (Row h) j = rw (ne_eqb x none some)
    concat_next (Children p) j = rw (ne_eqb x none some)

    pub concat_prev : (o : Owner) (j : ℕ) → concatenated o x y v Prev j ≡ cond (eqb x j) (last_of o v) (v Prev j)
    unfolding concatenated joined set_next set_first set_last first_of last_of
    concat_prev (Row h) j = rw (ne_eqb x none some)
    concat_prev (Children p) j = rw (ne_eqb x none some)

    -- the ends of any list
    pub concat_first : (o q : Owner) → first_of q (concatenated o x y v)
        ≡ cond (same_owner o q) (cond (eqb (last_of o v) none) x (first_of o v)) (first_of q v)
    unfolding concatenated joined set_next set_first set_last first_of last_of
    concat_first (Row h) (Row g) = rw (ne_eqb x none some)
    concat_first (Row h) (Children q) = rw (ne_eqb x none some)
    concat_first (Children p) (Row g) = rw (ne_eqb x none some)
    concat_first (Children p) (Children q) = rw (ne_eqb x none some)

    pub concat_last : (o q : Owner) → last_of q (concatenated o x y v) ≡ cond (same_owner o q) y (last_of q v)
    unfolding concatenated joined set_next set_first set_last first_of last_of
    concat_last (Row h) (Row g) = rw (ne_eqb x none some)
    concat_last (Row h) (Children q) = rw (ne_eqb x none some)
    concat_last (Children p) (Row g) = rw (ne_eqb x none some)
    concat_last (Children p) (Children q) = rw (ne_eqb x none some)
