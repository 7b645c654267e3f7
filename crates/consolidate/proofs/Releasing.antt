-- Children released one by one: what holds between two of them, on the words.
use Prim.Native.Nat.{ℕ, ◌-◌, ◌≤◌, ◌<◌}
use mathlib.Core.Path.{◌≡◌, refl, ap, subst, ◌∙◌}
use mathlib.Core.List.{List, [], ◌∷◌}
use native.Mathlib.Omega.{arith}
use borrow.Author.Tests.{ne_eqb}
use Rattle.rules.specs.declared.Field.TheVariants.{Next}
use Rattle.rules.specs.Lists.{occurs, sum_by}
use Rattle.rules.specs.Words.{head_or, look, next_in}
use Rattle.rules.proofs.Occurs.{delta_self, eqb_self}
use Rattle.rules.proofs.Siblings.{head_out, once_tail}
use Rattle.store.specs.Says.{Changes, Says, Values}
use Rattle.store.proofs.Says.{changes_none, changes_then, says_look}
use Rattle.consolidate.specs.Released.{ListFrom, released, released_one}

-- The items of rest are still to be released, from c on: `done` is what was stored so far.
pub record Releasing (n h : ℕ) (start cs w : List ℕ) (c k : ℕ) : Type 0 where
  pub rest : List ℕ
  pub done : Values → Values
  pub changes : Changes n start done w
  pub listed : ListFrom n w c k rest
  pub whole : (v : Values) → released h rest (done v) ≡ released h cs v

pub release_starts : {n : ℕ} (h : ℕ) {w cs : List ℕ} {c k : ℕ} → ListFrom n w c k cs → Releasing n h w cs w c k
release_starts {n} h {w} {cs} L =
    record { rest = cs; done = λ v. v; changes = changes_none n w L.sized; listed = L; whole = λ v. refl }

module _ {n h : ℕ} {start cs w : List ℕ} {c k : ℕ} (G : Releasing n h start cs w c k) where
  some : (l : List ℕ) → 0 < k → ListFrom n w c k l → 1 ≤ occurs c l
  unfolding occurs sum_by head_or
  some [] m L = absurd (omega (arith, L.long))
  some (y ∷ l) m L = rw L.first (omega (arith, delta_self y))

  pub child_inside : 0 < k → c < n
  child_inside m = G.listed.inside c (some G.rest m G.listed)

  -- none is left
  pub release_ends : k ≡ 0 → Changes n start (released h cs) w
  unfolding released
  release_ends e = go G.rest G.listed G.whole
    where
      go : (l : List ℕ) → ListFrom n w c k l → ((v : Values) → released h l (G.done v) ≡ released h cs v)
          → Changes n start (released h cs) w
      go [] L q =
          record { sized = L.sized; says = λ v s. subst (Says n w) (q v) (G.changes.says v s) }
      go (y ∷ l) L q = absurd (omega (arith, L.long))

  module _ {w₁ : List ℕ} {c' k' : ℕ} (m : 0 < k) (a : Changes n w (released_one h c) w₁) (f : c' ≡ look n w₁ Next c)
      (g : k' ≡ k - 1) where
    -- the next words are left as they are
    same_next : (y : ℕ) → y < n → look n w₁ Next y ≡ look n w Next y
    same_next y i = (a.says _ (says_look n w G.listed.sized)).says Next y i

    -- one fewer is listed
    next_list : (y : ℕ) (l : List ℕ) → ListFrom n w c k (y ∷ l) → c ≡ y → ListFrom n w₁ c' k' l
    unfolding occurs sum_by next_in
    next_list y l L z =
        let i : y < n = L.inside y (omega (arith, delta_self y)) in
        record {
          sized = a.sized;
          first = f ∙ same_next c (rw z i) ∙ rw z (L.nexts y (omega (arith, delta_self y)) ∙ rw (eqb_self y));
          long = omega (arith, L.long);
          inside = λ u j. L.inside u (omega arith);
          once = once_tail y l L.once;
          nexts = λ u j.
              same_next u (L.inside u (omega arith))
              ∙ L.nexts u (omega arith)
              ∙ rw (ne_eqb y u (λ q. omega (arith, head_out y l L.once, ap (λ r. occurs r l) q)));
        }

    pub release-step : Releasing n h start cs w₁ c' k'
    unfolding released head_or
    release-step = go G.rest G.listed G.whole
      where
        go : (l : List ℕ) → ListFrom n w c k l → ((v : Values) → released h l (G.done v) ≡ released h cs v)
            → Releasing n h start cs w₁ c' k'
        go [] L q = absurd (omega (arith, L.long))
        go (y ∷ l) L q =
            record {
              rest = l;
              done = λ v. released_one h c (G.done v);
              changes = changes_then G.changes a;
              listed = next_list y l L L.first;
              whole = λ v. rw L.first (q v);
            }
