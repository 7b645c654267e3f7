-- The trees of a row that are still to come to the places: roots of heap h, each once, linked by the next words.
use Prim.Native.Nat.{ℕ, suc, ◌≤◌, ◌<◌}
use mathlib.Core.Path.{◌≡◌, refl, ◌∙◌}
use mathlib.Core.List.{List, ◌++◌}
use mathlib.Core.Bool.{Bool, true, false}
use native.Mathlib.Omega.{arith}
use lib.Dec.{leb}
use lib.ListN.{length}
use borrow.Author.Tests.{leb-true, leb-false}
use Rattle.rules.specs.declared.Field.TheVariants.{Next}
use Rattle.rules.specs.Consolidate.{occupied}
use Rattle.rules.specs.Forests.{Forests, none, heap_of, parent_of, set_row}
use Rattle.rules.specs.Lists.{occurs}
use Rattle.rules.specs.Words.{follow, head_or, look}
use Rattle.rules.proofs.Follow.{follow_list, once_short}
use Rattle.rules.proofs.LinkKeeps.{in_row_lem, once}
use Rattle.rules.proofs.Occurs.{occurs-append}
use Rattle.rules.proofs.SiblingLists.{list_inside}
use Rattle.rules.proofs.Siblings.{Once}
use Rattle.store.proofs.ListMembers.{root_in}
use Rattle.consolidate.specs.Consolidating.{Consolidating}
use Rattle.consolidate.proofs.Climbing.{held}

module _ {n h : ℕ} {w ps rest ahead : List ℕ} {amounts : ℕ → ℕ} {t : Forests}
    (C : Consolidating n h w ps rest ahead amounts t) where
  abbrev ρ : List ℕ
  ρ = occupied ps ++ rest

  -- each is a root of h
  comes_root : (y : ℕ) → 1 ≤ occurs y rest → (heap_of t y ≡ suc h) × (parent_of t y ≡ none)
  comes_root y i = in_row_lem t h ρ (held C).formed C.heap y (omega (arith, occurs-append y (occupied ps) rest))

  pub comes_inside : (y : ℕ) → 1 ≤ occurs y rest → y < n
  comes_inside y i =
      let k = root_in t (comes_root y i).0 in
      omega (arith, C.beside.size)

  pub comes_once : Once rest
  comes_once y = go (leb (occurs y rest) 1) refl
    where
      go : (b : Bool) → leb (occurs y rest) 1 ≡ b → occurs y rest ≤ 1
      go true e = leb-true (occurs y rest) 1 e
      go false e =
          let k : 1 < occurs y rest = leb-false (occurs y rest) 1 e in
          let a = occurs-append y (occupied ps) rest in
          omega (arith, a, once t h ρ (held C).formed C.heap y (omega (arith, a)))

  -- none is outside the table
  outside : (y : ℕ) → n ≤ y → occurs y rest ≡ 0
  outside y k =
      list_inside (set_row h ρ t) C.formed.disjoint rest (λ z i e. omega (arith, e, (comes_root z i).0)) y
      (omega (arith, C.beside.size))

  pub none_comes : occurs none rest ≡ 0
  none_comes = outside none (omega (arith, C.says.sized.small))

  pub rest_short : length rest ≤ n
  rest_short = once_short n rest comes_once outside

-- the trees to come, by the next words
pub follows : {n h : ℕ} {w ps rest : List ℕ} {amounts : ℕ → ℕ} {t : Forests}
    → Consolidating n h w ps rest rest amounts t
    → follow n (look n w Next) (head_or none rest) ≡ rest
follows {n} {h} {w} {ps} {rest} C =
    follow_list n (look n w Next) rest (rest_short C) (comes_once C) (none_comes C)
    (λ y i. C.says.says Next y (comes_inside C y i) ∙ C.ahead y i)
