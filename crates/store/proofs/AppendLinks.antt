-- The links of all items once x has joined the end of a list.
use Prim.Native.Nat.{ℕ, ◌<◌}
use mathlib.Core.Path.{◌≡◌, refl, sym, ap, ◌∙◌}
use mathlib.Core.Logic.{◌≢◌}
use mathlib.Core.List.{[], ◌∷◌, ◌++◌}
use mathlib.Core.Bool.{Bool, true, false, cond}
use native.Mathlib.Omega.{arith}
use lib.ListN.{length}
use lib.Seq.{get_or-set_same, get_or-set_other}
use lib.Dec.{eqb}
use borrow.Author.Tests.{eqb-true, eqb-false, ne_eqb}
use Rattle.rules.specs.declared.Field.TheVariants.{Next, Prev}
use Rattle.rules.specs.Lists.{occurs}
use Rattle.rules.specs.Forests.{Forests, none, row_of, children_of, heap_of, set_parent}
use Rattle.rules.specs.Words.{last_or, next_in, prev_in, siblings, unless_free, word}
use Rattle.rules.proofs.Siblings.{last_in}
use Rattle.rules.proofs.Relinks.{at_end, next-appended, prev_appended, next_new, prev_new}
use Rattle.store.specs.declared.Owner.{Owner}
use Rattle.store.specs.declared.Owner.TheVariants.{Row, Children}
use Rattle.store.specs.Families.{list_of, owner_of, append_to, Shape, Present, Family, MayJoin}
use Rattle.store.proofs.Families.{
  Relisted,
  Stand,
  inside,
  outside,
  stand,
  inside_word,
  inside_relisted,
  outside_relisted,
  row_relisted,
  children_relisted,
}
use Rattle.store.proofs.Listed.{absent, item_not_none}

module _ (n : ℕ) (t : Forests) (x : ℕ) (S : Shape n t) (k : x < n) where
  -- another parent of x changes no list
  same_lists : (p : ℕ) (q : Owner) → list_of (set_parent x p t) q ≡ list_of t q
  unfolding list_of
  same_lists p (Row g) = refl
  same_lists p (Children g) = refl

  -- only the list of o and the owner of x change
  relisted : (o : Owner) → Present n t o → Relisted t (append_to o x t) o x (list_of t o ++ (x ∷ []))
  unfolding append_to list_of owner_of
  relisted (Row h) p =
      let r = row_relisted (set_parent x none t) x h (row_of t h ++ (x ∷ [])) (omega (arith, S.rows8)) in
      record {
        heap = r.heap;
        list = r.list;
        lists = λ q m. r.lists q m ∙ same_lists none q;
        owners = λ j m. rw (get_or-set_other t.parent x j none 0 m);
      }
  relisted (Children p) i =
      let k : p < length t.children = omega (arith, i.0, S.children_n) in
      let r = children_relisted (set_parent x p t) x p (children_of t p ++ (x ∷ [])) k in
      record {
        heap = r.heap;
        list = r.list;
        lists = λ q m. r.lists q m ∙ same_lists p q;
        owners = λ j m. rw (get_or-set_other t.parent x j p 0 m);
      }

  new_owner : (o : Owner) → Present n t o → MayJoin t o x → owner_of (append_to o x t) x ≡ o
  unfolding append_to owner_of
  new_owner (Row h) p j =
      rw (get_or-set_same t.parent x none 0 (omega (arith, S.parent_n)), j) (ap Row (omega arith))
  new_owner (Children p) i j =
      rw (
        get_or-set_same t.parent x p 0 (omega (arith, S.parent_n)),
        ne_eqb p none (λ e. omega (arith, e, i.0, S.small)),
      )

  -- x is in a heap
  new_live : (o : Owner) → MayJoin t o x → heap_of (append_to o x t) x ≢ 0
  unfolding append_to
  new_live (Row h) j e = omega (arith, j, e)
  new_live (Children p) j e = j e

module _ (n : ℕ) (t : Forests) (o : Owner) (x : ℕ) (S : Shape n t) (F : Family n t o) (k : x < n)
    (out : occurs x (list_of t o) ≡ 0) (J : MayJoin t o x) where
  R : Relisted t (append_to o x t) o x (list_of t o ++ (x ∷ []))
  R = relisted n t x S k o F.present

  -- who is not in the list is not its last
  last_apart : (j : ℕ) → j < n → occurs j (list_of t o) ≡ 0 → last_or none (list_of t o) ≢ j
  last_apart j h a =
      at_end (last_or none (list_of t o)) j (list_of t o) (last_in none (list_of t o)) (item_not_none S j h) a

  -- the next word of any item j; l is the last of the list before, and the links of x were open
  pub next_law : (amounts : ℕ → ℕ) (l a j : ℕ) → l ≡ last_or none (list_of t o) → j < n
      → cond (eqb l j) x (cond (eqb x j) none (cond (eqb x j) a (word amounts t Next j)))
      ≡ word amounts (append_to o x t) Next j
  unfolding word
  next_law amounts l a j q h = rw q (go (eqb x j) refl (stand t o j))
    where
      go : (b : Bool) → eqb x j ≡ b → Stand t o j
          → cond (eqb (last_or none (list_of t o)) j) x
          (cond b none (cond b a (unless_free t j (next_in j (siblings t j)))))
          ≡ unless_free (append_to o x t) j (next_in j (siblings (append_to o x t) j))
      go true e s =
          rw (← (eqb-true x j e), ne_eqb (last_or none (list_of t o)) x (last_apart x k out))
          (sym (inside_word (append_to o x t) o x (next_in x) (new_live n t x S k o J)
          (new_owner n t x S k o F.present J)
          ∙ ap (next_in x) R.list ∙ next_new x (list_of t o) out))
      go false e (inside m d) =
          let ne : j ≢ x = λ z. eqb-false x j e (sym z) in
          rw (inside_word t o j (next_in j) m d, inside_relisted R j (next_in j) ne m d)
          (sym (next-appended x j (list_of t o) F.once ne (item_not_none S j h)))
      go false e (outside m) =
          rw (ne_eqb (last_or none (list_of t o)) j (last_apart j h (absent n t o F j m)))
          (sym (outside_relisted R j (next_in j) (λ z. eqb-false x j e (sym z)) m))

  -- and the previous word
  pub prev_law : (amounts : ℕ → ℕ) (l b j : ℕ) → l ≡ last_or none (list_of t o) → j < n
      → cond (eqb x j) l (cond (eqb x j) b (word amounts t Prev j)) ≡ word amounts (append_to o x t) Prev j
  unfolding word
  prev_law amounts l b j q h = rw q (go (eqb x j) refl (stand t o j))
    where
      go : (c : Bool) → eqb x j ≡ c → Stand t o j
          → cond c (last_or none (list_of t o)) (cond c b (unless_free t j (prev_in none j (siblings t j))))
          ≡ unless_free (append_to o x t) j (prev_in none j (siblings (append_to o x t) j))
      go true e s =
          rw (← (eqb-true x j e))
          (sym (inside_word (append_to o x t) o x (prev_in none x) (new_live n t x S k o J)
          (new_owner n t x S k o F.present J) ∙ ap (prev_in none x) R.list ∙ prev_new x (list_of t o) out))
      go false e (inside m d) =
          let ne : j ≢ x = λ z. eqb-false x j e (sym z) in
          rw (inside_word t o j (prev_in none j) m d, inside_relisted R j (prev_in none j) ne m d)
          (sym (prev_appended x j (list_of t o) ne))
      go false e (outside m) = sym (outside_relisted R j (prev_in none j) (λ z. eqb-false x j e (sym z)) m)
