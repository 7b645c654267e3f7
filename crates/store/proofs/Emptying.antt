-- The words of eight empty heaps over free items: first all words are 0, then the heaps are emptied one by one.
use Prim.Native.Nat.{ℕ, zero, suc, ◌+◌, ◌<◌}
use mathlib.Core.Path.{◌≡◌, refl, sym, ap, subst, ◌∙◌}
use mathlib.Core.Bool.{Bool, true, false, cond}
use mathlib.Core.List.{List, [], ◌∷◌}
use native.Mathlib.Omega.{arith}
use lib.ListN.{length-replicate}
use lib.Dec.{eqb, ltb, eqb-zero-suc}
use borrow.Author.Tests.{eqb-true, eqb-false, ltb-true, ltb-false, lt-ltb, le-ltb}
use Rattle.rules.specs.declared.Layout.TheVariants.{ByItem}
use Rattle.rules.specs.declared.Field.{Field}
use Rattle.rules.specs.declared.Field.TheVariants.{
  FirstTree,
  LastTree,
  Minimum,
  Count,
  Amount,
  Key,
  Parent,
  FirstChild,
  LastChild,
  Next,
  Prev,
  Rank,
  State,
}
use Rattle.rules.specs.Kinds.{is_one_of, Apart}
use Rattle.rules.specs.Lists.{sum_by}
use Rattle.rules.specs.Forests.{none, empty, count}
use Rattle.rules.specs.Order.{least_in, minimum}
use Rattle.rules.specs.Queues.{amount_of, empty_queues}
use Rattle.rules.specs.Words.{field_size, head_or, last_or, state_of, unless_free, word, words_of, encode, encode_in}
use Rattle.rules.proofs.ByKind.{apart_from, by_kinds}
use Rattle.rules.proofs.EmptyForests.{get_or_all}
use Rattle.rules.proofs.Words.{words_equal}
use Rattle.store.specs.Says.{Values, Says, Changes}
use Rattle.store.specs.Empty.{empty_heap}
use Rattle.store.proofs.Says.{says_as}
use Rattle.store.proofs.SetAt.{cond_same}

-- the kinds of which an empty heap has the word `none`
abbrev pub nones : List Field
nones = FirstTree ∷ LastTree ∷ Minimum ∷ []

-- the first k heaps are empty, all other words 0
abbrev pub emptied : ℕ → Values
emptied k f i = cond (is_one_of nones f) (cond (ltb i k) none 0) 0

-- emptying a heap leaves the words of every other kind
pub empty_else : (h : ℕ) (v : Values) (f : Field) → Apart (Amount ∷ Count ∷ nones) f → (i : ℕ)
    → empty_heap h v f i ≡ v f i
unfolding empty_heap
empty_else h v f o i =
    let e = apart_from (Amount ∷ Count ∷ nones) f o in
    rw (e Amount refl, e Count refl, e FirstTree refl, e LastTree refl, e Minimum refl)

-- one heap more
one_more : (k i : ℕ) → cond (eqb k i) none (cond (ltb i k) none 0) ≡ cond (ltb i (k + 1)) none 0
one_more k i = go (eqb k i) (ltb i k) refl refl
  where
    go : (p q : Bool) → eqb k i ≡ p → ltb i k ≡ q → cond p none (cond q none 0) ≡ cond (ltb i (k + 1)) none 0
    go true q d e = rw (lt-ltb i (k + 1) (omega (arith, eqb-true k i d)))
    go false true d e = rw (lt-ltb i (k + 1) (omega (arith, ltb-true i k e)))
    go false false d e =
        let m : k ≡ i → ⊥ = eqb-false k i d in
        rw (le-ltb i (k + 1) (omega (arith, ltb-false i k e)))

-- one heap more, word by word
emptied_more : (k : ℕ) (f : Field) (i : ℕ) → empty_heap k (emptied k) f i ≡ emptied (k + 1) f i
unfolding empty_heap
emptied_more k =
    by_kinds (Amount ∷ Count ∷ nones) (λ f. (i : ℕ) → empty_heap k (emptied k) f i ≡ emptied (k + 1) f i)
    (λ i. cond_same (eqb k i) 0) (λ i. cond_same (eqb k i) 0) (one_more k) (one_more k) (one_more k)
    (λ f o i.
    let e = apart_from (Amount ∷ Count ∷ nones) f o in
    rw (e Amount refl, e Count refl, e FirstTree refl, e LastTree refl, e Minimum refl))

count-empty : (n h : ℕ) → count (empty n) h ≡ 0
unfolding count sum_by
count-empty zero h = refl
count-empty (suc n) h = rw (eqb-zero-suc h) (omega (arith, count-empty n h))

-- eight empty heaps over free items: the words of the empty queues
emptied_all : (n : ℕ) (f : Field) (i : ℕ) → i < field_size n f → emptied 8 f i
    ≡ word (amount_of (empty_queues n)) (empty n) f i
unfolding word head_or last_or minimum least_in unless_free state_of
emptied_all n FirstTree i k = rw (lt-ltb i 8 k, get_or_all 8 i)
emptied_all n LastTree i k = rw (lt-ltb i 8 k, get_or_all 8 i)
emptied_all n Minimum i k = rw (lt-ltb i 8 k, get_or_all 8 i)
emptied_all n Count i k = sym (count-empty n i)
emptied_all n Amount i k = sym (get_or_all 8 i 0)
emptied_all n Key i k = rw (get_or_all {A = ℕ} n i 0)
emptied_all n Parent i k = sym (get_or_all n i 0)
emptied_all n FirstChild i k = rw (get_or_all {A = ℕ} n i 0)
emptied_all n LastChild i k = rw (get_or_all {A = ℕ} n i 0)
emptied_all n Next i k = rw (get_or_all {A = ℕ} n i 0)
emptied_all n Prev i k = rw (get_or_all {A = ℕ} n i 0)
emptied_all n Rank i k = rw (get_or_all {A = List ℕ} n i [])
emptied_all n State i k = rw (get_or_all {A = ℕ} n i 0)

-- ---- the steps

pub more_emptied : {n : ℕ} {w w' : List ℕ} (h : ℕ) → Says n w (emptied h) → Changes n w (empty_heap h) w'
    → Says n w' (emptied (h + 1))
more_emptied {n} {w} {w'} h s c =
    says_as n w' (empty_heap h (emptied h)) (emptied (h + 1)) (c.says (emptied h) s) (λ f i _. emptied_more h f i)

eight_emptied : (n : ℕ) (w : List ℕ) → Says n w (emptied 8) → w ≡ encode (empty_queues n)
unfolding encode_in
eight_emptied n w s =
    words_equal ByItem n (word (amount_of (empty_queues n)) (empty n)) w s.sized.size
    (λ f i k. s.says f i k ∙ emptied_all n f i k)
    ∙ ap (λ k. words_of k (word (amount_of (empty_queues n)) (empty n))) (sym (length-replicate n 0))

pub all_emptied : (n : ℕ) (w : List ℕ) (h : ℕ) → h ≡ 8 → Says n w (emptied h) → w ≡ encode (empty_queues n)
all_emptied n w h e s = eight_emptied n w (subst (λ k. Says n w (emptied k)) e s)
