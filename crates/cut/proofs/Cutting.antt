-- One cut on words that hold forests: the steps of `cut::cut`, and what each of them requires.
use Prim.Native.Nat.{ℕ, ◌+◌, ◌*◌, ◌<◌, ◌≤◌}
use mathlib.Core.Path.{◌≡◌, refl, sym, subst, ◌∙◌}
use mathlib.Core.Logic.{◌≢◌}
use mathlib.Core.List.{List}
use native.Mathlib.Omega.{arith}
use Rattle.rules.specs.declared.Field.TheVariants.{LastTree, Parent, State}
use Rattle.rules.specs.Lists.{occurs}
use Rattle.rules.specs.Forests.{Forests, none, parent_of, mark_of, heap_of, table_size, set_mark}
use Rattle.rules.specs.Cut.{cut}
use Rattle.rules.specs.WellFormed.{Disjoint}
use Rattle.rules.specs.SetWord.{set_word}
use Rattle.rules.specs.Words.{look, state_of, word}
use Rattle.rules.proofs.CutKeeps.{cut_disjoint}
use Rattle.rules.proofs.Members.{parent_child}
use Rattle.store.specs.declared.Owner.TheVariants.{Row, Children}
use Rattle.store.specs.Says.{Changes, Values}
use Rattle.store.specs.Siblings.{appended, last_of, removed, AppendReady, RankRises, RemoveReady}
use Rattle.store.specs.Families.{list_of, owner_of, append_to, remove_from, word_but, with_links, Family, MayJoin, Holds}
use Rattle.store.proofs.Ready.{append_ready, remove_ready}
use Rattle.store.proofs.Holds.{append-holds, remove_holds}
use Rattle.store.proofs.Encoded.{row_family, children_family}
use Rattle.store.proofs.Scalars.{mark_holds}
use Rattle.store.proofs.ListMembers.{not_row, root_in}
use Rattle.cut.specs.Ready.{Member, Child}

-- a heap's number, and an item, are in the table
pub member_heap : {t : Forests} {h x : ℕ} → Member t h x → h < 8
member_heap {t} {h} {x} M = omega (arith, M.disjoint.heaps x, M.heap)

pub member_item : {n : ℕ} {w : List ℕ} {amounts c m : ℕ → ℕ} {t : Forests} {h x y : ℕ} → Holds n w amounts c m t y
    → Member t h x
    → x < n
member_item {t = t} {x = x} H M =
    omega (arith, root_in t M.heap, H.shape.heap_n)

-- the parent word of an item
pub parent_word : {n : ℕ} {w : List ℕ} {amounts c m : ℕ → ℕ} {t : Forests} {x : ℕ} → Holds n w amounts c m t none
    → x < n
    → look n w Parent x ≡ parent_of t x
unfolding with_links word_but word
parent_word {x = x} H k = H.says.says Parent x k

-- and its state word
pub state_word : {n : ℕ} {w : List ℕ} {amounts c m : ℕ → ℕ} {t : Forests} {x : ℕ} → Holds n w amounts c m t none → x < n
    → look n w State x ≡ state_of (heap_of t x) (mark_of t x)
unfolding with_links word_but word
state_word {x = x} H k = H.says.says State x k

pub state_small : {t : Forests} {h x : ℕ} → Member t h x → state_of (heap_of t x) (mark_of t x) ≤ 16
unfolding state_of
state_small {t} {h} {x} M = rw M.heap (omega (arith, M.disjoint.bit x, member_heap M))

-- the parent of an item that is cut is in the same heap, still
pub after-cut : (t : Forests) (h p : ℕ) → Member t h p → parent_of t p ≢ none → Member (cut h p t) h (parent_of t p)
unfolding cut
after-cut t h p M ne =
    record {
      disjoint = cut_disjoint t M.disjoint h p M.heap ne;
      heap = (M.disjoint.up p (λ e. omega (arith, e, M.heap)) ne).1 ∙ M.heap;
    }

module _ {n : ℕ} {w : List ℕ} {amounts c m : ℕ → ℕ} {t : Forests} {h x p : ℕ} (H : Holds n w amounts c m t none)
    (C : Child t h x)
    (e : p ≡ parent_of t x) where
  D : Disjoint t
  D = C.member.disjoint

  live : heap_of t x ≢ 0
  live z = omega (arith, z, C.member.heap)

  -- x is one of the children of p
  family : Family n t (Children p)
  family =
      let u = D.up x live C.child in
      children_family n t D H.shape.heap_n p (λ z. live (sym u.1 ∙ subst (λ q. heap_of t q ≡ 0) e z))

  among : 1 ≤ occurs x (list_of t (Children p))
  unfolding list_of
  among =
      let u = D.up x live C.child in
      omega (arith, parent_child t D p x (subst (λ q. q < table_size t) (sym e) u.0) live (sym e))

  pub cut_remove_ready : RemoveReady n w (Children p) x
  cut_remove_ready =
      remove_ready H (Children p) family x among (λ z. omega (arith, z, member_item H C.member, H.shape.small))

  -- the row of h once x has left its parent
  row_left : Family n (remove_from (Children p) x t) (Row h)
  unfolding remove_from list_of owner_of
  row_left =
      let F = row_family n t D H.shape.heap_n h (member_heap C.member) in
      record { present = F.present; once = F.once; owned = F.owned }

  module _ {w₁ : List ℕ} (a : Changes n w (removed (Children p) x) w₁) where
    H₁ : Holds n w₁ amounts c m (remove_from (Children p) x t) x
    H₁ = remove_holds (Children p) x H family among a

    -- x may then join the row, after any change that leaves the row's last
    pub cut-append_ready : {w₂ : List ℕ} {g : Values → Values} → Changes n w₁ g w₂
        → ((v : Values) → g v LastTree h ≡ v LastTree h) → AppendReady n w₂ (Row h) x
    unfolding last_of RankRises
    cut-append_ready b same =
        let A = append_ready H₁ (Row h) row_left (member_item H C.member) in
        let k : h < 8 = member_heap C.member in
        let s = b.says (look n w₁) (record { sized = a.sized; says = λ f i k. refl }) in
        record {
          owner = record { sized = b.sized; inside = k };
          last = rw (s.says LastTree h k, same (look n w₁)) A.last;
          item = A.item;
          rank = tt;
        }

    module _ {w₂ : List ℕ} (b : Changes n w₁ (set_word State x (1 + 2 * h)) w₂) where
      -- the mark is taken away
      H₂ : Holds n w₂ amounts c m (set_mark x 0 (remove_from (Children p) x t)) x
      unfolding state_of remove_from
      H₂ = mark_holds H₁ x (1 + 2 * h) 0 (member_item H C.member) (rw C.member.heap (omega arith)) b

      row : Family n (set_mark x 0 (remove_from (Children p) x t)) (Row h)
      unfolding remove_from list_of owner_of
      row = record { present = row_left.present; once = row_left.once; owned = row_left.owned }

      -- x is not in the row yet
      absent : occurs x (list_of (set_mark x 0 (remove_from (Children p) x t)) (Row h)) ≡ 0
      unfolding remove_from list_of
      absent = not_row t D h x C.child

      -- the three steps are the cut of the rules
      same : append_to (Row h) x (set_mark x 0 (remove_from (Children p) x t)) ≡ cut h x t
      unfolding cut append_to remove_from
      same = rw e

      joins : MayJoin (set_mark x 0 (remove_from (Children p) x t)) (Row h) x
      unfolding remove_from
      joins = C.member.heap

      pub cut_holds : {w₃ : List ℕ} → Changes n w₂ (appended (Row h) x) w₃ → Holds n w₃ amounts c m (cut h x t) none
      cut_holds d = rw (← same) (append-holds (Row h) x H₂ row (member_item H C.member) absent joins d)
