-- The links of an item are those in the list of its owner; a list changed changes only the links of its members.
use Prim.Native.Nat.{ℕ, ◌<◌}
use mathlib.Core.Path.{◌≡◌, refl, sym, ap, ◌∙◌}
use mathlib.Core.Logic.{◌≢◌}
use mathlib.Core.List.{List, []}
use mathlib.Core.Bool.{Bool, true, false, cond}
use native.Mathlib.Omega.{arith}
use lib.ListN.{length}
use lib.Seq.{get_or-set_same, get_or-set_other}
use lib.Dec.{eqb}
use borrow.Author.Tests.{eqb-true, eqb-false, ne_eqb}
use Rattle.rules.specs.Forests.{Forests, none, row_of, children_of, parent_of, heap_of, heap_number, set_row, set_children}
use Rattle.rules.specs.Words.{siblings, unless_free}
use Rattle.store.specs.declared.Owner.{Owner}
use Rattle.store.specs.declared.Owner.TheVariants.{Row, Children}
use Rattle.store.specs.Families.{list_of, owner_of}

-- two owners are one, or not
pub data SameOwner (o q : Owner) : Type 0 where
  same : q ≡ o → SameOwner o q
  other : q ≢ o → SameOwner o q

same_owner : (o q : Owner) → SameOwner o q
same_owner (Row h) (Row g) = go (eqb g h) refl
  where
    go : (t : Bool) → eqb g h ≡ t → SameOwner (Row h) (Row g)
    go true e = same (ap Row (eqb-true g h e))
    go false e = other (λ d. eqb-false g h e (cc))
same_owner (Row h) (Children p) = other (λ d. let z : ◌≡◌ {A = ℕ} 0 1 = cc in omega arith)
same_owner (Children p) (Row h) = other (λ d. let z : ◌≡◌ {A = ℕ} 0 1 = cc in omega arith)
same_owner (Children p) (Children q) = go (eqb q p) refl
  where
    go : (t : Bool) → eqb q p ≡ t → SameOwner (Children p) (Children q)
    go true e = same (ap Children (eqb-true q p e))
    go false e = other (λ d. eqb-false q p e (cc))

-- the siblings of an item are the list of its owner
siblings_owner : (t : Forests) (i : ℕ) → siblings t i ≡ list_of t (owner_of t i)
unfolding siblings list_of owner_of
siblings_owner t i = go (eqb (parent_of t i) none)
  where
    go : (b : Bool) → cond b (row_of t (heap_number t i)) (children_of t (parent_of t i))
        ≡ list_of t (cond b (Row (heap_number t i)) (Children (parent_of t i)))
    go true = refl
    go false = refl

-- ---- one list changed

-- t' is t with the list of o changed to l, and perhaps another owner of x
pub record Relisted (t t' : Forests) (o : Owner) (x : ℕ) (l : List ℕ) : Type 0 where
  pub heap : (j : ℕ) → heap_of t' j ≡ heap_of t j
  pub list : list_of t' o ≡ l
  pub lists : (q : Owner) → q ≢ o → list_of t' q ≡ list_of t q
  pub owners : (j : ℕ) → j ≢ x → owner_of t' j ≡ owner_of t j

-- an item stands in the list of o, or not
pub data Stand (t : Forests) (o : Owner) (j : ℕ) : Type 0 where
  inside : heap_of t j ≢ 0 → owner_of t j ≡ o → Stand t o j
  outside : (heap_of t j ≢ 0 → owner_of t j ≡ o → ⊥) → Stand t o j

pub stand : (t : Forests) (o : Owner) (j : ℕ) → Stand t o j
stand t o j = go (eqb (heap_of t j) 0) refl (same_owner o (owner_of t j))
  where
    go : (b : Bool) → eqb (heap_of t j) 0 ≡ b → SameOwner o (owner_of t j) → Stand t o j
    go true e s = outside (λ m _. m (eqb-true (heap_of t j) 0 e))
    go false e (same d) = inside (eqb-false (heap_of t j) 0 e) d
    go false e (other d) = outside (λ _. d)

-- the word of a link of an item in the list of o, by the list
pub inside_word : (t : Forests) (o : Owner) (j : ℕ) (F : List ℕ → ℕ) → heap_of t j ≢ 0 → owner_of t j ≡ o
    → unless_free t j (F (siblings t j)) ≡ F (list_of t o)
unfolding unless_free
inside_word t o j F m e = rw (ne_eqb (heap_of t j) 0 m, siblings_owner t j, e)

module _ {t t' : Forests} {o : Owner} {x : ℕ} {l : List ℕ} (R : Relisted t t' o x l) where
  -- a link of an item in the list, after the change, and of one in another list
  pub inside_relisted : (j : ℕ) (F : List ℕ → ℕ) → j ≢ x → heap_of t j ≢ 0 → owner_of t j ≡ o
      → unless_free t' j (F (siblings t' j)) ≡ F l
  inside_relisted j F n m e =
      inside_word t' o j F (λ z. m (sym (R.heap j) ∙ z)) (R.owners j n ∙ e) ∙ ap F R.list

  pub outside_relisted : (j : ℕ) (F : List ℕ → ℕ) → j ≢ x → (heap_of t j ≢ 0 → owner_of t j ≡ o → ⊥)
      → unless_free t' j (F (siblings t' j)) ≡ unless_free t j (F (siblings t j))
  unfolding unless_free
  outside_relisted j F n m = rw (R.heap j) (go (eqb (heap_of t j) 0) refl)
    where
      go : (b : Bool) → eqb (heap_of t j) 0 ≡ b → cond b 0 (F (siblings t' j)) ≡ cond b 0 (F (siblings t j))
      go true e = refl
      go false e =
          ap F (siblings_owner t' j ∙ ap (list_of t') (R.owners j n)
          ∙ R.lists (owner_of t j) (m (eqb-false (heap_of t j) 0 e)) ∙ sym (siblings_owner t j))

-- ---- the list of one owner set

-- a row set, or the children of an item
pub row_relisted : (t : Forests) (x h : ℕ) (l : List ℕ) → h < length t.rows
    → Relisted t (set_row h l t) (Row h) x l
unfolding list_of owner_of
row_relisted t x h l k =
    record {
      heap = λ j. refl;
      list = get_or-set_same t.rows h l [] k;
      lists = λ q m. other q m;
      owners = λ j m. refl;
    }
  where
    other : (q : Owner) → q ≢ Row h → list_of (set_row h l t) q ≡ list_of t q
    other (Row g) m = get_or-set_other t.rows h g l [] (λ e. m (ap Row e))
    other (Children q) m = refl

pub children_relisted : (t : Forests) (x p : ℕ) (l : List ℕ) → p < length t.children
    → Relisted t (set_children p l t) (Children p) x l
unfolding list_of owner_of
children_relisted t x p l k =
    record {
      heap = λ j. refl;
      list = get_or-set_same t.children p l [] k;
      lists = λ q m. other q m;
      owners = λ j m. refl;
    }
  where
    other : (q : Owner) → q ≢ Children p → list_of (set_children p l t) q ≡ list_of t q
    other (Row g) m = refl
    other (Children q) m = get_or-set_other t.children p q l [] (λ e. m (ap Children e))
