-- The walk along a list of siblings, one step at a time, as the code takes it.
use Prim.Native.Nat.{ℕ, zero, suc, ◌+◌, ◌-◌, ◌≤◌, ◌<◌}
use mathlib.Core.Path.{◌≡◌, refl, sym, ◌∙◌}
use mathlib.Core.Logic.{◌≢◌, ◌⊎◌, inl, inr}
use mathlib.Core.List.{List, [], ◌∷◌}
use mathlib.Core.Bool.{Bool, true, false, ◌&&◌, ◌||◌, and_comm, or-true, true≢false}
use native.Mathlib.Nat.{zero-add}
use native.Mathlib.Numerals.{add-one}
use native.Mathlib.Omega.{arith}
use lib.ListN.{length}
use lib.Dec.{eqb, leb}
use borrow.Author.Tests.{eqb-true, leb-true, leb-false, le-leb, lt-leb, eq-eqb, ne_eqb}
use Rattle.std.specs.Prelude.{Option, Some, None}
use Rattle.rules.specs.declared.Field.TheVariants.{Next}
use Rattle.rules.specs.Forests.{none}
use Rattle.rules.specs.Words.{head_or, last_or, follow, list_from}
use Rattle.rules.proofs.Occurs.{and_split, and_true, and_false, eqb_self}
use Rattle.store.specs.Says.{Values}
use Rattle.soundness.specs.declared.Siblings.{Siblings}
use Rattle.soundness.specs.Check.{names_owner, links_ok, list_ok, child_rank_ok, child_ranks_ok}
use Rattle.soundness.proofs.Lists.{is_owned}
use Rattle.audit.specs.Promises.{link_ok, siblings_ok, if_ok, length_if_ok}

-- as the code compares a child's rank
pub rank_test : (i rank mark : ℕ) → leb i (rank + mark + 1) ≡ leb (i - (1 + mark)) rank
rank_test i rank mark = go (leb i (rank + mark + 1)) refl
  where
    go : (t : Bool) → leb i (rank + mark + 1) ≡ t → t ≡ leb (i - (1 + mark)) rank
    go true e = sym (le-leb (i - (1 + mark)) rank (omega (arith, leb-true i (rank + mark + 1) e)))
    go false e = sym (lt-leb (i - (1 + mark)) rank (omega (arith, leb-false i (rank + mark + 1) e)))

-- the tests of a list that starts with an item: where those of the item fail, and where they hold
tests_fail : (a b c d e f p r q : Bool) → (a && b && (p || r)) ≡ false
    → (a && b && c && d && e && f && (p || (r && q))) ≡ false
tests_fail true true c d e f true r q z = absurd (true≢false z)
tests_fail true true c d e f false true q z = absurd (true≢false z)
tests_fail true true c d e f false false q z = and_false (c && d && e && f)
tests_fail true false c d e f p r q z = refl
tests_fail false b c d e f p r q z = refl

tests_hold : (a b c d f p r q : Bool) → (a && b && (p || r)) ≡ true
    → (a && b && c && d && true && f && (p || (r && q))) ≡ (d && c && f && (p || q))
tests_hold true true c d f true r q z = rw (and_true (c && d), and_comm c d)
tests_hold true true c d f false true q z = rw (and_true (c && d), and_comm c d)
tests_hold true true c d f false false q z = absurd (true≢false (sym z))
tests_hold true false c d f p r q z = absurd (true≢false (sym z))
tests_hold false b c d f p r q z = absurd (true≢false (sym z))

module _ (n : ℕ) (v : Values) where
  abbrev pub next : ℕ → ℕ
  next = v Next

  -- what is left of a list after j items: nothing where it has ended or is too long, else one item and the rest
  pub nothing_left : (j x : ℕ) → ((n ≤ j) ⊎ (x ≡ none)) → follow (n - j) next x ≡ []
  unfolding follow
  nothing_left j x (inl h) = let e : n - j ≡ 0 = omega arith in rw e
  nothing_left j x (inr e) = ended (n - j)
    where
      ended : (d : ℕ) → follow d next x ≡ []
      ended zero = refl
      ended (suc d) = rw (eq-eqb x none e)

  pub one_more : (j x : ℕ) → j < n → x ≢ none → follow (n - j) next x ≡ x ∷ follow (n - (j + 1)) next (next x)
  unfolding follow
  one_more j x h m = let e : n - j ≡ suc (n - (j + 1)) = omega arith in rw (e, ne_eqb x none m)

module _ (n : ℕ) (v : Values) (l : Siblings) where
  -- the tests of the rest of a list, which starts with item x, the i-th, and has prev before it
  unfoldable pub rest_ok : ℕ → ℕ → ℕ → List ℕ → Bool
  rest_ok prev i x xs =
      links_ok n v l prev xs && eqb x (head_or none xs) && eqb l.last (last_or prev xs)
      && (eqb l.parent none || child_ranks_ok n v i xs)

  -- the answer, if j items are passed
  unfoldable pub length_from : ℕ → ℕ → ℕ → Option ℕ
  length_from j prev x =
      if_ok (rest_ok prev (suc j) x (follow (n - j) (next n v) x)) (j + length (follow (n - j) (next n v) x))

  pub link_inside : (prev i x : ℕ) → link_ok n v l prev i x ≡ true → x < n
  unfolding link_ok
  link_inside prev i x e = (is_owned n v l x (and_split _ _ (and_split _ _ e).0).0).inside

  pub walk_start : length_from 0 none l.first ≡ length_if_ok n v l
  unfolding length_from rest_ok siblings_ok list_ok list_from
  walk_start = let e : n - 0 ≡ n = omega arith in rw (e, zero-add)

  rest_fails : (prev i x : ℕ) (xs : List ℕ) → link_ok n v l prev i x ≡ false → rest_ok prev i x (x ∷ xs) ≡ false
  unfolding rest_ok link_ok links_ok child_ranks_ok
  rest_fails prev i x xs e =
      tests_fail (names_owner n v l x) _ _ _ _ _ (eqb l.parent none) (child_rank_ok n v i x)
      (child_ranks_ok n v (suc i) xs) e

  rest_goes_on : (prev i x : ℕ) (xs : List ℕ) → link_ok n v l prev i x ≡ true
      → rest_ok prev i x (x ∷ xs) ≡ rest_ok x (suc i) (next n v x) xs
  unfolding rest_ok link_ok links_ok head_or last_or child_ranks_ok
  rest_goes_on prev i x xs e =
      rw (eqb_self x)
      (tests_hold (names_owner n v l x) _ _ _ _ (eqb l.parent none) (child_rank_ok n v i x)
      (child_ranks_ok n v (suc i) xs) e)

  -- nothing is left of a list that has ended, or is too long
  rest_ended : (prev i x : ℕ) → rest_ok prev i x [] ≡ (eqb x none && eqb l.last prev)
  unfolding rest_ok links_ok head_or last_or child_ranks_ok
  rest_ended prev i x = rw (or-true, and_true)

  -- the ways out of the walk, whose answer is a
  pub walk_refused : (j prev x : ℕ) (a : Option ℕ) → j < n → x ≢ none → link_ok n v l prev (j + 1) x ≡ false
      → length_from j prev x ≡ a → None ≡ a
  unfolding length_from
  walk_refused j prev x a h m e i =
      sym (rw (one_more n v j x h m, rest_fails prev (suc j) x _ (rw add-one at e))) ∙ i

  pub walk_ended : (j prev x : ℕ) (a : Option ℕ) → ((n ≤ j) ⊎ (x ≡ none)) → length_from j prev x ≡ a
      → if_ok (eqb x none && eqb l.last prev) j ≡ a
  unfolding length_from
  walk_ended j prev x a o i =
      let z : j + 0 ≡ j = omega arith in
      sym (rw (nothing_left n v j x o, rest_ended prev (suc j) x, z)) ∙ i

  -- an empty list
  pub walk_empty : (eqb l.first none && eqb l.last none) ≡ true → Some 0 ≡ length_if_ok n v l
  walk_empty e =
      rw e at (walk_ended 0 none l.first _ (inr (eqb-true l.first none (and_split _ _ e).0)) walk_start)

  -- one step
  pub walk_more : (j prev x : ℕ) → j < n → x ≢ none → link_ok n v l prev (j + 1) x ≡ true
      → length_from (j + 1) x (next n v x) ≡ length_from j prev x
  unfolding length_from
  walk_more j prev x h m e =
      let xs = follow (n - (j + 1)) (next n v) (next n v x) in
      let k : j + suc (length xs) ≡ j + 1 + length xs = omega arith in
      rw (one_more n v j x h m, rest_goes_on prev (suc j) x xs (rw add-one at e), k, add-one j)
