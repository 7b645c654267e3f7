-- What each move on a list of siblings does to the single words.
use Prim.Native.Nat.{ℕ, ◌+◌, ◌*◌, ◌≤◌}
use mathlib.Core.Path.{◌≡◌, refl, ap, ◌∙◌}
use mathlib.Core.List.{List, [], ◌∷◌}
use mathlib.Core.Bool.{Bool, true, false, cond}
use native.Mathlib.Omega.{arith}
use lib.Dec.{eqb}
use borrow.Author.Tests.{eqb-true, eqb-false, ne_eqb}
use Rattle.rules.specs.declared.Field.{Field}
use Rattle.rules.specs.declared.Field.TheVariants.{
  FirstTree,
  LastTree,
  Parent,
  FirstChild,
  LastChild,
  Next,
  Prev,
  Rank,
  State,
}
use Rattle.rules.specs.Forests.{none}
use Rattle.rules.specs.Lists.{delta, occurs, sum_by}
use Rattle.rules.specs.Kinds.{Apart}
use Rattle.rules.proofs.ByKind.{apart_from}
use Rattle.rules.proofs.Occurs.{delta_self, delta_other, eqb_self}
use Rattle.store.specs.declared.Owner.TheVariants.{Row, Children}
use Rattle.store.specs.Says.{Values}
use Rattle.store.specs.Siblings.{
  parent_in,
  first_of,
  last_of,
  set_first,
  set_last,
  set_next,
  set_prev,
  add_rank,
  drop_rank,
  joined,
  appended,
  removed,
}
use Rattle.store.proofs.ConcatWords.{link_kinds}
use Rattle.store.proofs.SetAt.{cond_same}
use Rattle.consolidate.specs.Released.{released, released_one}

-- ---- an item at the end of the children of a

module _ (a x : ℕ) (v : Values) where
  pub child_next : (y : ℕ) → appended (Children a) x v Next y
      ≡ cond (eqb (v LastChild a) y) x (cond (eqb x y) none (v Next y))
  unfolding appended joined set_next set_first set_last first_of last_of add_rank parent_in
  child_next y = refl

  pub child_prev : (y : ℕ) → appended (Children a) x v Prev y ≡ cond (eqb x y) (v LastChild a) (v Prev y)
  unfolding appended joined set_next set_first set_last first_of last_of add_rank parent_in
  child_prev y = refl

  pub child_first : (p : ℕ) → appended (Children a) x v FirstChild p
      ≡ cond (eqb a p) (cond (eqb (v LastChild a) none) x (v FirstChild a)) (v FirstChild p)
  unfolding appended joined set_next set_first set_last first_of last_of add_rank parent_in
  child_first p = refl

  pub child_last : (p : ℕ) → appended (Children a) x v LastChild p ≡ cond (eqb a p) x (v LastChild p)
  unfolding appended joined set_next set_first set_last first_of last_of add_rank parent_in
  child_last p = refl

  pub child_parent : (i : ℕ) → appended (Children a) x v Parent i ≡ cond (eqb x i) a (v Parent i)
  unfolding appended joined set_next set_first set_last first_of last_of add_rank parent_in
  child_parent i = refl

  pub child_rank : (i : ℕ) → appended (Children a) x v Rank i ≡ cond (eqb a i) (v Rank a + 1) (v Rank i)
  unfolding appended joined set_next set_first set_last first_of last_of add_rank parent_in
  child_rank i = refl

  -- all kinds but those six
  pub child_other : (f : Field) (i : ℕ) → Apart (Parent ∷ Rank ∷ link_kinds (Children a)) f
      → appended (Children a) x v f i ≡ v f i
  unfolding appended joined set_next set_first set_last first_of last_of add_rank parent_in
  child_other f i o =
      let e = apart_from (Parent ∷ Rank ∷ link_kinds (Children a)) f o in
      simp (e FirstChild refl, e LastChild refl, e Next refl, e Prev refl, e Parent refl, e Rank refl)

-- ---- an item at the end of the row of heap h

module _ (h x : ℕ) (v : Values) where
  pub row_next : (y : ℕ) → appended (Row h) x v Next y
      ≡ cond (eqb (v LastTree h) y) x (cond (eqb x y) none (v Next y))
  unfolding appended joined set_next set_first set_last first_of last_of add_rank parent_in
  row_next y = refl

  pub row_prev : (y : ℕ) → appended (Row h) x v Prev y ≡ cond (eqb x y) (v LastTree h) (v Prev y)
  unfolding appended joined set_next set_first set_last first_of last_of add_rank parent_in
  row_prev y = refl

  pub row_first : (g : ℕ) → appended (Row h) x v FirstTree g
      ≡ cond (eqb h g) (cond (eqb (v LastTree h) none) x (v FirstTree h)) (v FirstTree g)
  unfolding appended joined set_next set_first set_last first_of last_of add_rank parent_in
  row_first g = refl

  pub row_last : (g : ℕ) → appended (Row h) x v LastTree g ≡ cond (eqb h g) x (v LastTree g)
  unfolding appended joined set_next set_first set_last first_of last_of add_rank parent_in
  row_last g = refl

  pub row_parent : (i : ℕ) → appended (Row h) x v Parent i ≡ cond (eqb x i) none (v Parent i)
  unfolding appended joined set_next set_first set_last first_of last_of add_rank parent_in
  row_parent i = refl

  pub row_other : (f : Field) (i : ℕ) → Apart (Parent ∷ link_kinds (Row h)) f → appended (Row h) x v f i ≡ v f i
  unfolding appended joined set_next set_first set_last first_of last_of add_rank parent_in
  row_other f i o =
      let e = apart_from (Parent ∷ link_kinds (Row h)) f o in
      simp (e FirstTree refl, e LastTree refl, e Next refl, e Prev refl, e Parent refl)

-- ---- an item taken out of the row of heap h

module _ (h x : ℕ) (v : Values) where
  pub out_next : (y : ℕ) → removed (Row h) x v Next y ≡ cond (eqb (v Prev x) y) (v Next x) (v Next y)
  unfolding removed set_next set_prev set_first set_last first_of last_of drop_rank
  out_next y = refl

  pub out_prev : (y : ℕ) → removed (Row h) x v Prev y ≡ cond (eqb (v Next x) y) (v Prev x) (v Prev y)
  unfolding removed set_next set_prev set_first set_last first_of last_of drop_rank
  out_prev y = refl

  pub out_first : (g : ℕ) → removed (Row h) x v FirstTree g
      ≡ cond (eqb h g) (cond (eqb (v Prev x) none) (v Next x) (v FirstTree h)) (v FirstTree g)
  unfolding removed set_next set_prev set_first set_last first_of last_of drop_rank
  out_first g = refl

  pub out_last : (g : ℕ) → removed (Row h) x v LastTree g
      ≡ cond (eqb h g) (cond (eqb (v Next x) none) (v Prev x) (v LastTree h)) (v LastTree g)
  unfolding removed set_next set_prev set_first set_last first_of last_of drop_rank
  out_last g = refl

  pub out_other : (f : Field) (i : ℕ) → Apart (link_kinds (Row h)) f → removed (Row h) x v f i ≡ v f i
  unfolding removed set_next set_prev set_first set_last first_of last_of drop_rank
  out_other f i o =
      let e = apart_from (link_kinds (Row h)) f o in
      simp (e FirstTree refl, e LastTree refl, e Next refl, e Prev refl)

-- ---- released children

pub released_other : (h : ℕ) (cs : List ℕ) (v : Values) (f : Field) (i : ℕ) → Apart (Parent ∷ State ∷ []) f
    → released h cs v f i ≡ v f i
unfolding released
released_other h [] v f i o = refl
released_other h (c ∷ cs) v f i o =
    let e = apart_from (Parent ∷ State ∷ []) f o in
    released_other h cs (released_one h c v) f i o
    ∙ rw (e State refl, e Parent refl)

pub released_out : (h : ℕ) (cs : List ℕ) (v : Values) (f : Field) (i : ℕ) → occurs i cs ≡ 0
    → released h cs v f i ≡ v f i
unfolding released occurs sum_by
released_out h [] v f i n = refl
released_out h (c ∷ cs) v f i n =
    released_out h cs (released_one h c v) f i (omega arith)
    ∙ rw (ne_eqb c i (λ e. omega (arith, delta_self i, ap (delta i) e)))
    (simp cond_same)

-- what was stored stays
released_stays : (h : ℕ) (cs : List ℕ) (v : Values) (i : ℕ) → (v Parent i ≡ none) × (v State i ≡ 1 + 2 * h)
    → (released h cs v Parent i ≡ none) × (released h cs v State i ≡ 1 + 2 * h)
unfolding released
released_stays h [] v i e = e
released_stays h (c ∷ cs) v i e =
    released_stays h cs (released_one h c v) i (go (eqb c i))
  where
    go : (t : Bool) → (cond t none (v Parent i) ≡ none) × (cond t (1 + 2 * h) (v State i) ≡ 1 + 2 * h)
    go true = (refl, refl)
    go false = e

pub released_in : (h : ℕ) (cs : List ℕ) (v : Values) (i : ℕ) → 1 ≤ occurs i cs
    → (released h cs v Parent i ≡ none) × (released h cs v State i ≡ 1 + 2 * h)
unfolding released occurs sum_by
released_in h [] v i n = absurd (omega arith)
released_in h (c ∷ cs) v i n =
    go (eqb c i) refl (released_in h cs (released_one h c v) i)
  where
    next : Values
    next = released_one h c v

    go : (t : Bool) → eqb c i ≡ t
        → (1 ≤ occurs i cs → (released h cs next Parent i ≡ none) × (released h cs next State i ≡ 1 + 2 * h))
        → (released h cs next Parent i ≡ none) × (released h cs next State i ≡ 1 + 2 * h)
    go true e ih = released_stays h cs next i (rw (eqb-true c i e, eqb_self i) (refl, refl))
    go false e ih = ih (omega (arith, delta_other i c (eqb-false c i e)))
