-- The changes that the moves on lists of siblings make, from those of their steps.
use Prim.Native.Nat.{ℕ, ◌+◌, ◌-◌, ◌<◌}
use mathlib.Core.Path.{◌≡◌, subst, ◌∙◌}
use mathlib.Core.Logic.{◌≢◌}
use mathlib.Core.List.{List}
use borrow.Author.Tests.{ne_eqb}
use Rattle.rules.specs.declared.Field.TheVariants.{Parent, Next, Prev, Rank}
use Rattle.rules.specs.Forests.{none}
use Rattle.rules.specs.SetWord.{set_word}
use Rattle.rules.specs.Words.{look}
use Rattle.store.specs.declared.Owner.{Owner}
use Rattle.store.specs.declared.Owner.TheVariants.{Row, Children}
use Rattle.store.specs.Says.{Sized, Values, Says, Changes}
use Rattle.store.specs.Siblings.{
  Inside,
  parent_in,
  last_of,
  set_last,
  set_next,
  set_prev,
  add_rank,
  drop_rank,
  joined,
  concatenated,
  appended,
  removed,
}

-- the last of a list, by any values that the words say
pub last_says : {n : ℕ} {w : List ℕ} {v : Values} (o : Owner) → Inside n o → Says n w v
    → last_of o (look n w) ≡ last_of o v
unfolding last_of
last_says (Row h) k s = s.says _ h k
last_says (Children p) k s = s.says _ p k

-- ---- the rank

-- a row has no rank, and stays as it is
pub row_rank : {n : ℕ} {w : List ℕ} {o : Owner} {h : ℕ} → o ≡ Row h → Sized n w
    → Changes n w (add_rank o) w × Changes n w (drop_rank o) w
unfolding add_rank drop_rank
row_rank {n} {w} e s =
    (rw e (record { sized = s; says = λ v t. t }), rw e (record { sized = s; says = λ v t. t }))

pub add_changes : {n : ℕ} {w w' : List ℕ} {o : Owner} {p r : ℕ} → o ≡ Children p → Inside n o → r ≡ look n w Rank p
    → Changes n w (set_word Rank p (r + 1)) w' → Changes n w (add_rank o) w'
unfolding add_rank
add_changes {n} {w} {w'} {o} {p} e k q c =
    rw e (record {
      sized = c.sized;
      says = λ v s.
          rw (← (q ∙ s.says Rank p (subst (Inside n) e k))) (c.says v s);
    })

pub drop_changes : {n : ℕ} {w w' : List ℕ} {o : Owner} {p r : ℕ} → o ≡ Children p → Inside n o → r ≡ look n w Rank p
    → Changes n w (set_word Rank p (r - 1)) w' → Changes n w (drop_rank o) w'
unfolding drop_rank
drop_changes {n} {w} {w'} {o} {p} e k q c =
    rw e (record {
      sized = c.sized;
      says = λ v s.
          rw (← (q ∙ s.says Rank p (subst (Inside n) e k))) (c.says v s);
    })

-- ---- the moves

pub join_changes : {n : ℕ} {w w₁ w₂ w₃ : List ℕ} (o : Owner) (l x y : ℕ) → Changes n w (set_next o l x) w₁
    → Changes n w₁ (set_word Prev x l) w₂ → Changes n w₂ (set_last o y) w₃ → Changes n w (joined o l x y) w₃
unfolding joined
join_changes o l x y a b c = record { sized = c.sized; says = λ v s. c.says _ (b.says _ (a.says v s)) }

pub concat_changes : {n : ℕ} {w w₁ : List ℕ} (o : Owner) (l x y : ℕ) → x ≢ none → Inside n o → l ≡ last_of o (look n w)
    → Changes n w (joined o l x y) w₁ → Changes n w (concatenated o x y) w₁
unfolding concatenated
concat_changes {n} {w} {w₁} o l x y m k e c =
    record {
      sized = c.sized;
      says = λ v s.
          rw (ne_eqb x none m)
          (subst (λ z. Says n w₁ (joined o z x y v)) (e ∙ last_says o k s) (c.says v s));
    }

pub concat_empty : {n : ℕ} {w : List ℕ} (o : Owner) (x y : ℕ) → x ≡ none → Sized n w
    → Changes n w (concatenated o x y) w
unfolding concatenated
concat_empty o x y e s = record { sized = s; says = λ v t. rw e t }

pub append_changes : {n : ℕ} {w w₁ w₂ w₃ w₄ : List ℕ} (o : Owner) (i l p : ℕ) → Inside n o → l ≡ last_of o (look n w)
    → p ≡ parent_in o → Changes n w (add_rank o) w₁ → Changes n w₁ (set_word Next i none) w₂
    → Changes n w₂ (set_word Parent i p) w₃ → Changes n w₃ (joined o l i i) w₄ → Changes n w (appended o i) w₄
unfolding appended
append_changes {n} {w} {w₁} {w₂} {w₃} {w₄} o i l p k e q a b c d =
    record {
      sized = d.sized;
      says = λ v s.
          subst (λ z. Says n w₄ (joined o z i i (set_word Parent i (parent_in o) (set_word Next i none (add_rank o v)))))
          (e ∙ last_says o k s)
          (subst (λ z. Says n w₄ (joined o l i i (set_word Parent i z (set_word Next i none (add_rank o v))))) q
          (d.says _ (c.says _ (b.says _ (a.says v s)))));
    }

pub remove_changes : {n : ℕ} {w w₁ w₂ w₃ : List ℕ} (o : Owner) (i a b : ℕ) → i < n → a ≡ look n w Prev i
    → b ≡ look n w Next i → Changes n w (drop_rank o) w₁ → Changes n w₁ (set_next o a b) w₂
    → Changes n w₂ (set_prev o b a) w₃ → Changes n w (removed o i) w₃
unfolding removed
remove_changes {n} {w} {w₁} {w₂} {w₃} o i a b k p q c d e =
    record {
      sized = e.sized;
      says = λ v s.
          subst (λ z. Says n w₃ (set_prev o (v Next i) z (set_next o z (v Next i) (drop_rank o v)))) (p ∙ s.says Prev i k)
          (subst (λ z. Says n w₃ (set_prev o z a (set_next o a z (drop_rank o v)))) (q ∙ s.says Next i k)
          (e.says _ (d.says _ (c.says v s))));
    }
