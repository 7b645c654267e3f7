-- The row of heap h written anew from the places: its start, one place, and its end.
use Prim.Native.Nat.{ℕ, zero, suc, ◌+◌, ◌<◌}
use mathlib.Core.Path.{◌≡◌, refl, sym, ap, subst, ◌∙◌}
use mathlib.Core.Logic.{◌≢◌}
use mathlib.Core.List.{List, [], ◌∷◌, ◌++◌, append_assoc, append-nil}
use mathlib.Core.Bool.{Bool, true, false, cond, not}
use native.Mathlib.Numerals.{add-one}
use native.Mathlib.Omega.{arith}
use lib.Dec.{eqb}
use lib.ListN.{length, get_or, take, drop, length-set, take-append-drop}
use lib.Seq.{get_or-set_same, take-suc}
use borrow.Author.Tests.{eqb-false}
use Rattle.rules.specs.declared.Field.TheVariants.{FirstTree, LastTree, Minimum}
use Rattle.rules.specs.Consolidate.{occupied}
use Rattle.rules.specs.Forests.{Forests, none, row_of, set_row}
use Rattle.rules.specs.Lists.{occurs, sum_by}
use Rattle.rules.specs.Order.{least_in, minimum}
use Rattle.rules.specs.SetWord.{set_word}
use Rattle.rules.specs.WellFormed.{Disjoint, KeysFit, WellFormed}
use Rattle.rules.specs.Words.{words_with, head_or, last_or}
use Rattle.rules.proofs.Occurs.{eqb_self}
use Rattle.store.specs.Says.{Changes}
use Rattle.linking_places.specs.Taken.{taken_of}
use Rattle.linking_places.proofs.Taken.{a_tree}
use Rattle.consolidate.specs.Consolidating.{Consolidating}
use Rattle.consolidate.proofs.ClimbPlaces.{apart_by}
use Rattle.consolidate.specs.Released.{released}
use Rattle.consolidate.specs.Writing.{Coming, WritingRow}
use Rattle.consolidate.proofs.RowWords.{beside_ends, beside_minimum, beside_row}
use Rattle.consolidate.proofs.RowedWords.{rowed_words}

-- the trees at the places a and then at b
occupied-append : (a b : List ℕ) → occupied (a ++ b) ≡ occupied a ++ occupied b
unfolding occupied
occupied-append [] b = refl
occupied-append (x ∷ a) b = go (eqb x none) (occupied-append a b)
  where
    go : (t : Bool) → occupied (a ++ b) ≡ occupied a ++ occupied b
        → cond t (occupied (a ++ b)) (x ∷ occupied (a ++ b)) ≡ cond t (occupied a) (x ∷ occupied a) ++ occupied b
    go true e = e
    go false e = ap (λ l. x ∷ l) e

-- no bit, no tree
none_taken : (l : List ℕ) → taken_of l ≡ 0 → occupied l ≡ []
unfolding occupied taken_of
none_taken [] e = refl
none_taken (x ∷ l) e = go (eqb x none) refl (none_taken l (omega (arith, e)))
  where
    go : (b : Bool) → eqb x none ≡ b → occupied l ≡ [] → cond b (occupied l) (x ∷ occupied l) ≡ []
    go true q z = z
    go false q z = absurd (omega (arith, e, a_tree x (eqb-false x none q)))

-- some bit: the places go on
pub some_taken : (ps : List ℕ) (r : ℕ) → taken_of (drop r ps) ≢ 0 → r < length ps
unfolding taken_of
some_taken [] zero d = absurd (d refl)
some_taken [] (suc r) d = absurd (d refl)
some_taken (x ∷ ps) zero d = omega arith
some_taken (x ∷ ps) (suc r) d = let k = some_taken ps r d in omega (arith, k)

-- the forests with the row of the places
module _ {n h : ℕ} {w ps : List ℕ} {amounts : ℕ → ℕ} {t : Forests} (C : Consolidating n h w ps [] [] amounts t) where
  pub places_formed : WellFormed (set_row h (occupied ps) t)
  places_formed = subst (λ l. WellFormed (set_row h l t)) (append-nil (occupied ps)) C.formed

  -- a place from r on is taken, by the number
  pub goes_on : {taken r : ℕ} {b : Bool} → taken ≡ taken_of ps
      → ((qs : List ℕ) → taken ≡ taken_of qs → b ≡ not (eqb (taken_of (drop r qs)) 0)) → b ≡ true → r < 17
  goes_on {taken} {r} e f q =
      let k = some_taken ps r (apart_by (f ps e) q) in
      omega (arith, k, C.long)

  pub places_row : row_of (set_row h (occupied ps) t) h ≡ occupied ps
  places_row =
      get_or-set_same t.rows h (occupied ps) []
      (omega (arith, C.heap, length-set t.rows h (occupied ps), places_formed.disjoint.rows8))

  -- an empty row
  pub writing_starts : {w₁ w₂ : List ℕ} → Changes n w (set_word FirstTree h none) w₁
      → Changes n w₁ (set_word LastTree h none) w₂ → WritingRow n h w₂ [] none amounts (set_row h (occupied ps) t)
  unfolding head_or last_or least_in occurs released sum_by
  writing_starts a b =
      record {
        values = set_word LastTree h none (set_word FirstTree h none C.values);
        says = b.says _ (a.says _ C.says);
        beside = beside_ends (beside_row C.beside (occupied ps)) none none;
        row = record {
          front = rw (eqb_self h);
          back = rw (eqb_self h);
          nexts = λ y i. absurd (omega arith);
          prevs = λ y i. absurd (omega arith);
        };
        least = refl;
      }

-- those at the places below r are written
pub record WrittenTo (n h : ℕ) (w ps : List ℕ) (r m : ℕ) : Type 0 where
  pub amounts : ℕ → ℕ
  pub forests : Forests
  pub disjoint : Disjoint forests
  pub keys : KeysFit forests
  pub row : row_of forests h ≡ occupied ps
  pub state : WritingRow n h w (occupied (take r ps)) m amounts forests

-- ---- one place

module _ (h : ℕ) (ps : List ℕ) (r : ℕ) (t : Forests) (D : Disjoint t) (K : KeysFit t) (hh : h < 8)
    (e : row_of t h ≡ occupied ps)
    (long : length ps ≡ 17) where
  -- the trees up to place r, and the one there
  next_place : (x : ℕ) → r < 17 → x ≡ get_or ps r 0
      → occupied (take (r + 1) ps) ≡ occupied (take r ps) ++ occupied (x ∷ [])
  next_place x k q = rw (add-one r, take-suc ps r 0 (omega arith), ← q) (occupied-append (take r ps) (x ∷ []))

  pub coming : {x : ℕ} → r < 17 → x ≡ get_or ps r 0 → Coming h (occupied (take r ps)) x (occupied (drop (r + 1) ps)) t
  coming {x} k q =
      record {
        disjoint = D;
        keys = K;
        heap = hh;
        row = e
            ∙ ap occupied (sym (take-append-drop (r + 1) ps))
            ∙ occupied-append (take (r + 1) ps) (drop (r + 1) ps)
            ∙ rw (
              next_place x k q,
              append_assoc (occupied (take r ps)) (occupied (x ∷ []))
                  (occupied (drop (r + 1) ps)),
            );
      }

  pub place_written : {n m x : ℕ} {w : List ℕ} {amounts : ℕ → ℕ} → r < 17 → x ≡ get_or ps r 0
      → WritingRow n h w (occupied (take r ps) ++ occupied (x ∷ [])) m amounts t
      → WritingRow n h w (occupied (take (r + 1) ps)) m amounts t
  place_written {x = x} k q W = rw (next_place x k q) W

  -- ---- all places

  pub row_written : {n m : ℕ} {w w' : List ℕ} {amounts : ℕ → ℕ} → taken_of (drop r ps) ≡ 0
      → WritingRow n h w (occupied (take r ps)) m amounts t
      → Changes n w (set_word Minimum h m) w'
      → w' ≡ words_with amounts t
  unfolding minimum
  row_written {n} {m} {w} {w'} {amounts} k W c =
      let z : occupied (take r ps) ≡ row_of t h =
      sym (append-nil (occupied (take r ps)))
      ∙ ap (λ l. occupied (take r ps) ++ l) (sym (none_taken (drop r ps) k))
      ∙ sym (occupied-append (take r ps) (drop r ps))
      ∙ ap occupied (take-append-drop r ps)
      ∙ sym e in
      rowed_words amounts t D {n = n} {h = h} {w = w'}
      (record {
        values = set_word Minimum h m W.values;
        says = c.says W.values W.says;
        beside = beside_minimum W.beside m;
        row = rw z at W.row;
        least = rw (eqb_self h) (W.least ∙ ap (least_in t.key) z);
      })
