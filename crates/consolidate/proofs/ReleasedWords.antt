-- Trees released: what that leaves as it is, and which stores may as well come before it.
use Prim.Native.Nat.{ℕ, suc, ◌+◌, ◌*◌, ◌≤◌}
use mathlib.Core.Path.{◌≡◌, refl, sym, ap, fun_ext, ◌∙◌}
use mathlib.Core.Logic.{◌≢◌}
use mathlib.Core.List.{List, [], ◌∷◌}
use mathlib.Core.Bool.{Bool, true, false, cond}
use native.Mathlib.Omega.{arith}
use lib.Dec.{eqb, leb}
use borrow.Author.Tests.{eqb-true, leb-false, leb-true, ne_eqb}
use Rattle.rules.specs.declared.Field.{Field}
use Rattle.rules.specs.declared.Field.TheVariants.{Count, Parent, State}
use Rattle.rules.specs.Forests.{Forests, none, heap_of, mark_of, parent_of}
use Rattle.rules.specs.Lists.{occurs, sum_by}
use Rattle.rules.specs.SetWord.{set_word}
use Rattle.rules.specs.Words.{state_of, word}
use Rattle.rules.proofs.ByKind.{also, apart_from, apart_some, by_kinds, by_others}
use Rattle.rules.proofs.Occurs.{by_item, delta_self, eqb_self}
use Rattle.store.specs.declared.Owner.TheVariants.{Children, Row}
use Rattle.store.specs.Empty.{free_item}
use Rattle.store.specs.Says.{Agree, Values}
use Rattle.store.specs.Siblings.{
  add_rank,
  appended,
  concatenated,
  first_of,
  joined,
  last_of,
  parent_in,
  set_first,
  set_last,
  set_next,
}
use Rattle.consolidate.specs.Released.{released, released_one}
use Rattle.consolidate.specs.Stored.{Beside, linked}
use Rattle.consolidate.proofs.Beside.{beside_parent, beside_state}
use Rattle.consolidate.proofs.MoveWords.{released_in, released_other, released_out}

-- the kinds of words that a release stores
abbrev own : List Field
own = Parent ∷ State ∷ []

-- ---- stores that may come before

-- stores for two items, in either order
swap : (x c i a b d : ℕ) → c ≢ x → cond (eqb c i) a (cond (eqb x i) b d) ≡ cond (eqb x i) b (cond (eqb c i) a d)
swap x c i a b d m = go (eqb c i) refl
  where
    go : (t : Bool) → eqb c i ≡ t → cond t a (cond (eqb x i) b d) ≡ cond (eqb x i) b (cond t a d)
    go true e = rw (ne_eqb x i (λ z. m (eqb-true c i e ∙ sym z)))
    go false e = refl

-- a change of values may as well come before the release of c, as to the words of kind f
abbrev Before : ℕ → ℕ → (Values → Values) → Values → Field → Type 0
Before h c g v f = (i : ℕ) → released_one h c (g v) f i ≡ g (released_one h c v) f i

-- what may come before the release of each may come before that of all
all_released : (h : ℕ) (g : Values → Values) (cs : List ℕ)
    → ((c : ℕ) → 1 ≤ occurs c cs → (v : Values) → released_one h c (g v) ≡ g (released_one h c v))
    → (v : Values) → released h cs (g v) ≡ g (released h cs v)
unfolding released occurs sum_by
all_released h g [] k v = refl
all_released h g (c ∷ cs) k v =
    ap (released h cs) (k c (omega (arith, delta_self c)) v)
    ∙ all_released h g cs (λ d i. k d (omega arith)) (released_one h c v)

-- a link of another tree
pub released-appended : (h a l : ℕ) (cs : List ℕ) → ((c : ℕ) → 1 ≤ occurs c cs → c ≢ l) → (v : Values)
    → released h cs (appended (Children a) l v) ≡ appended (Children a) l (released h cs v)
unfolding appended joined set_next set_first set_last first_of last_of add_rank parent_in
released-appended h a l cs m =
    all_released h (appended (Children a) l) cs (λ c i v. fun_ext (λ f. fun_ext (λ j. one c (m c i) v f j)))
  where
    one : (c : ℕ) → c ≢ l → (v : Values) (f : Field) → Before h c (appended (Children a) l) v f
    one c k v =
        by_kinds own (Before h c (appended (Children a) l) v) (λ i. swap l c i none a (v Parent i) k) (λ i. refl)
        (λ f o i. let e = apart_from own f o in rw (e State refl, e Parent refl))

-- siblings joined to the row
pub released-joined : (h g a b : ℕ) (cs : List ℕ) (v : Values)
    → released h cs (concatenated (Row g) a b v) ≡ concatenated (Row g) a b (released h cs v)
unfolding concatenated joined set_next set_first set_last first_of last_of
released-joined h g a b cs =
    all_released h (concatenated (Row g) a b) cs (λ c i v. fun_ext (λ f. fun_ext (λ j. one c v (eqb a none) f j)))
  where
    -- t: there are none
    one : (c : ℕ) (v : Values) (t : Bool) (f : Field)
        → Before h c (λ u. cond t u (joined (Row g) (last_of (Row g) u) a b u)) v f
    one c v true = λ f i. refl
    one c v false =
        by_kinds own (Before h c (λ u. joined (Row g) (last_of (Row g) u) a b u) v) (λ i. refl) (λ i. refl)
        (λ f o i. let e = apart_from own f o in rw (e State refl, e Parent refl))

-- another item freed, and a count
pub released_freed : (h x g k : ℕ) (cs : List ℕ) → ((c : ℕ) → 1 ≤ occurs c cs → c ≢ x) → (v : Values)
    → released h cs (set_word Count g k (free_item x v)) ≡ set_word Count g k (free_item x (released h cs v))
unfolding free_item
released_freed h x g k cs m =
    all_released h (λ v. set_word Count g k (free_item x v)) cs
    (λ c i v. fun_ext (λ f. fun_ext (λ j. one c (m c i) v f j)))
  where
    one : (c : ℕ) → c ≢ x → (v : Values) (f : Field) → Before h c (λ u. set_word Count g k (free_item x u)) v f
    one c m v =
        by_kinds own (Before h c (λ u. set_word Count g k (free_item x u)) v)
        (λ i. swap x c i none 0 (v Parent i) m) (λ i. swap x c i (1 + 2 * h) 0 (v State i) m)
        (λ f o i. let e = apart_from own f o in rw (e State refl, e Parent refl))

-- ---- roots

-- x is a root of heap h, unmarked
abbrev pub Root : ℕ → Forests → ℕ → Type 0
Root h t x = (heap_of t x ≡ suc h) × (parent_of t x ≡ none) × (mark_of t x ≡ 0)

abbrev all : List Field
all = also own linked

module _ {n h : ℕ} {amounts : ℕ → ℕ} {t : Forests} where
  -- it has the words of a root already
  root_released : {v : Values} → Beside n h v amounts t → (y : ℕ) → Root h t y
      → Beside n h (released_one h y v) amounts t
  unfolding word state_of
  root_released {v} B y (k, p, m) =
      record {
        size = B.size;
        words = by_others linked own (Agree n (released_one h y v) amounts t) new_parent new_state
            (λ f o i l.
            let e = apart_from all f o in
            rw (e State refl, e Parent refl) (B.words f (apart_some all linked f refl o) i l));
        frees = B.frees;
        families = B.families;
        other_rows = B.other_rows;
        minima = B.minima;
      }
    where
      new_parent : Agree n (released_one h y v) amounts t Parent
      new_parent =
          by_item y (λ l. rw (eqb_self y) (sym p)) (λ i d l. rw (ne_eqb y i (λ e. d (sym e))) (beside_parent B i l))

      new_state : Agree n (released_one h y v) amounts t State
      new_state =
          by_item y (λ l. rw (eqb_self y, k, m) (omega arith))
          (λ i d l. rw (ne_eqb y i (λ e. d (sym e))) (beside_state B i l))

  roots_released : (ρ : List ℕ) → ((y : ℕ) → 1 ≤ occurs y ρ → Root h t y)
      → {v : Values} → Beside n h v amounts t → Beside n h (released h ρ v) amounts t
  unfolding released occurs sum_by
  roots_released [] r B = B
  roots_released (y ∷ ρ) r B =
      roots_released ρ (λ z i. r z (omega arith)) (root_released B y (r y (omega (arith, delta_self y))))

-- where those of ρ are released, it does not matter whether some of them were before
released_twice : (h : ℕ) (cs ρ : List ℕ) → ((y : ℕ) → 1 ≤ occurs y cs → 1 ≤ occurs y ρ) → (v : Values)
    → released h ρ (released h cs v) ≡ released h ρ v
released_twice h cs ρ m v = fun_ext (λ f. fun_ext (λ i. go f i))
  where
    -- one in neither list
    outside : (f : Field) (i : ℕ) → occurs i ρ ≡ 0 → released h ρ (released h cs v) f i ≡ released h ρ v f i
    outside f i z =
        released_out h ρ (released h cs v) f i z
        ∙ released_out h cs v f i (not_in (leb 1 (occurs i cs)) refl)
        ∙ sym (released_out h ρ v f i z)
      where
        not_in : (b : Bool) → leb 1 (occurs i cs) ≡ b → occurs i cs ≡ 0
        not_in true d = absurd (omega (arith, m i (leb-true 1 (occurs i cs) d)))
        not_in false d = omega (arith, leb-false 1 (occurs i cs) d)

    -- and one of ρ
    either : (f : Field) (i : ℕ) → (1 ≤ occurs i ρ → released h ρ (released h cs v) f i ≡ released h ρ v f i)
        → released h ρ (released h cs v) f i ≡ released h ρ v f i
    either f i k = pick (leb 1 (occurs i ρ)) refl
      where
        pick : (b : Bool) → leb 1 (occurs i ρ) ≡ b → released h ρ (released h cs v) f i ≡ released h ρ v f i
        pick true e = k (leb-true 1 (occurs i ρ) e)
        pick false e = outside f i (omega (arith, leb-false 1 (occurs i ρ) e))

    go : (f : Field) (i : ℕ) → released h ρ (released h cs v) f i ≡ released h ρ v f i
    go =
        by_kinds own (λ f. (i : ℕ) → released h ρ (released h cs v) f i ≡ released h ρ v f i)
        (λ i. either Parent i (λ k. (released_in h ρ (released h cs v) i k).0 ∙ sym (released_in h ρ v i k).0))
        (λ i. either State i (λ k. (released_in h ρ (released h cs v) i k).1 ∙ sym (released_in h ρ v i k).1))
        (λ f o i.
        released_other h ρ (released h cs v) f i o
        ∙ released_other h cs v f i o
        ∙ sym (released_other h ρ v f i o))

-- so the trees of a row may be released that are not yet, or all
pub row-released : {n h : ℕ} {amounts : ℕ → ℕ} {t : Forests} (v : Values) (cs ρ : List ℕ)
    → Beside n h (released h cs v) amounts t → ((y : ℕ) → 1 ≤ occurs y cs → 1 ≤ occurs y ρ)
    → ((y : ℕ) → 1 ≤ occurs y ρ → Root h t y) → Beside n h (released h ρ v) amounts t
row-released {h = h} v cs ρ B m r = rw (released_twice h cs ρ m v) at (roots_released ρ r B)
