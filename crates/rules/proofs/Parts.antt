-- Which lists of the forests the words of a kind are read from: forests that have these alike have the same words.
use Prim.Native.Nat.{ℕ, zero, suc, ◌<◌}
use mathlib.Core.Path.{◌≡◌, refl, sym, ap, subst, ◌∙◌}
use mathlib.Core.List.{List, [], ◌∷◌}
use mathlib.Core.Bool.{Bool, true, false, ◌&&◌, ◌||◌, true≢false}
use native.Mathlib.Omega.{arith}
use lib.ListN.{length, get_or}
use lib.Dec.{eqb}
use borrow.Author.Tests.{eqb-true}
use Rattle.rules.specs.declared.Field.{Field}
use Rattle.rules.specs.declared.Field.TheVariants.{
  FirstTree,
  LastTree,
  Minimum,
  Count,
  Amount,
  Key,
  Parent,
  FirstChild,
  LastChild,
  Next,
  Prev,
  Rank,
  State,
}
use Rattle.rules.specs.Forests.{Forests, count}
use Rattle.rules.specs.Order.{minimum}
use Rattle.rules.specs.SetWord.{field_number}
use Rattle.rules.specs.Kinds.{is_one_of, Apart}
use Rattle.rules.specs.Words.{fields, siblings, unless_free, word}
use Rattle.rules.proofs.ByKind.{Each, From, from_each}
use Rattle.rules.proofs.Occurs.{and_split}
use Rattle.rules.proofs.Places.{field_number_lem, number_bound}

-- the lists that forests consist of
pub data Part : Type 0 where
  rows : Part
  children : Part
  parents : Part
  keys : Part
  marks : Part
  heaps : Part

abbrev pub part_number : Part → ℕ
part_number rows = 0
part_number children = 1
part_number parents = 2
part_number keys = 3
part_number marks = 4
part_number heaps = 5

abbrev pub Alike : Forests → Forests → Part → Type 0
Alike s t rows = s.rows ≡ t.rows
Alike s t children = s.children ≡ t.children
Alike s t parents = s.parent ≡ t.parent
Alike s t keys = s.key ≡ t.key
Alike s t marks = s.mark ≡ t.mark
Alike s t heaps = s.heap ≡ t.heap

-- what the words of a kind are read from
abbrev pub reads : Field → List Part
reads FirstTree = rows ∷ []
reads LastTree = rows ∷ []
reads Minimum = rows ∷ keys ∷ []
reads Count = heaps ∷ []
reads Amount = []
reads Key = heaps ∷ keys ∷ []
reads Parent = parents ∷ []
reads FirstChild = heaps ∷ children ∷ []
reads LastChild = heaps ∷ children ∷ []
reads Next = heaps ∷ parents ∷ rows ∷ children ∷ []
reads Prev = heaps ∷ parents ∷ rows ∷ children ∷ []
reads Rank = children ∷ []
reads State = heaps ∷ marks ∷ []

word_reads : (a : ℕ → ℕ) (s t : Forests) (f : Field) → Each (Alike s t) (reads f) → (i : ℕ)
    → word a s f i ≡ word a t f i
unfolding word minimum count siblings unless_free
word_reads a s t FirstTree e i = rw e.0
word_reads a s t LastTree e i = rw e.0
word_reads a s t Minimum e i = rw (e.0, e.1.0)
word_reads a s t Count e i = rw e.0
word_reads a s t Amount e i = refl
word_reads a s t Key e i = rw (e.0, e.1.0)
word_reads a s t Parent e i = rw e.0
word_reads a s t FirstChild e i = rw (e.0, e.1.0)
word_reads a s t LastChild e i = rw (e.0, e.1.0)
word_reads a s t Next e i = rw (e.0, e.1.0, e.1.1.0, e.1.1.1.0)
word_reads a s t Prev e i = rw (e.0, e.1.0, e.1.1.0, e.1.1.1.0)
word_reads a s t Rank e i = rw e.0
word_reads a s t State e i = rw (e.0, e.1.0)

-- ---- by computation: every kind apart from gs is read from the parts ps alone

abbrev pub is_part : List Part → Part → Bool
is_part [] q = false
is_part (p ∷ ps) q = eqb (part_number p) (part_number q) || is_part ps q

abbrev pub within : List Part → List Part → Bool
within ps [] = true
within ps (q ∷ qs) = is_part ps q && within ps qs

abbrev pub only_from : List Part → List Field → List Field → Bool
only_from ps gs [] = true
only_from ps gs (f ∷ fs) = (is_one_of gs f || within ps (reads f)) && only_from ps gs fs

number_part : (p : Part) → get_or (rows ∷ children ∷ parents ∷ keys ∷ marks ∷ heaps ∷ []) (part_number p) rows ≡ p
number_part rows = refl
number_part children = refl
number_part parents = refl
number_part keys = refl
number_part marks = refl
number_part heaps = refl

same_part : (p q : Part) → part_number p ≡ part_number q → p ≡ q
same_part p q e =
    sym (number_part p)
    ∙ ap (λ k. get_or (rows ∷ children ∷ parents ∷ keys ∷ marks ∷ heaps ∷ []) k rows) e
    ∙ number_part q

-- what holds of each of ps holds of one of them, and of several
one_of : (P : Part → Type 0) (ps : List Part) (q : Part) → Each P ps → is_part ps q ≡ true → P q
one_of P [] q e i = absurd (true≢false (sym i))
one_of P (p ∷ ps) q e i = go (eqb (part_number p) (part_number q)) refl i (λ j. one_of P ps q e.1 j)
  where
    go : (t : Bool) → eqb (part_number p) (part_number q) ≡ t → (t || is_part ps q) ≡ true
        → (is_part ps q ≡ true → P q) → P q
    go true d i r = subst P (same_part p q (eqb-true (part_number p) (part_number q) d)) e.0
    go false d i r = r i

some_of : (P : Part → Type 0) (ps qs : List Part) → Each P ps → within ps qs ≡ true → Each P qs
some_of P ps [] e i = tt
some_of P ps (q ∷ qs) e i =
    let b = and_split (is_part ps q) (within ps qs) i in
    (one_of P ps q e b.0, some_of P ps qs e b.1)

-- what was computed of all kinds holds of one
only_one : (ps : List Part) (gs fs : List Field) (k : ℕ) → k < length fs → only_from ps gs fs ≡ true
    → (is_one_of gs (get_or fs k State) || within ps (reads (get_or fs k State))) ≡ true
only_one ps gs [] k h e = absurd (omega arith)
only_one ps gs (f ∷ fs) zero h e = (and_split _ (only_from ps gs fs) e).0
only_one ps gs (f ∷ fs) (suc k) h e =
    only_one ps gs fs k (omega arith) (and_split (is_one_of gs f || within ps (reads f)) _ e).1

-- Forests that have the parts ps alike have the same words of every kind apart from gs.
pub kept_each : (ps : List Part) (gs : List Field) (amounts : ℕ → ℕ) (s t : Forests) → only_from ps gs fields ≡ true
    → Each (Alike s t) ps → (f : Field) → Apart gs f → (i : ℕ) → word amounts s f i ≡ word amounts t f i
kept_each ps gs amounts s t o e f a =
    word_reads amounts s t f (some_of (Alike s t) ps (reads f) e
    (rw a at (rw (field_number_lem f) at (only_one ps gs fields (field_number f) (number_bound f) o))))

-- the same, from a proof for each part
pub kept_words : (ps : List Part) (gs : List Field) (amounts : ℕ → ℕ) (s t : Forests) → only_from ps gs fields ≡ true
    → From (Alike s t) ps ((f : Field) → Apart gs f → (i : ℕ) → word amounts s f i ≡ word amounts t f i)
kept_words ps gs amounts s t o = from_each (Alike s t) ps (kept_each ps gs amounts s t o)
