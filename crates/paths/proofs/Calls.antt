-- What insert, decrease-key and extract-min on heap 0 do to the heap and key lists of the forests, and that they are
-- done.
use Prim.Native.Nat.{ℕ, ◌≤◌, ◌<◌}
use mathlib.Core.Path.{◌≡◌, refl, sym, ap, ◌∙◌}
use mathlib.Core.Logic.{◌≢◌}
use mathlib.Core.List.{List, [], ◌∷◌}
use mathlib.Core.Bool.{true, false}
use native.Mathlib.Omega.{arith}
use lib.ListN.{length, get_or, set}
use borrow.Author.Tests.{ne_eqb, le-ltb, lt-leb}
use Rattle.rules.specs.declared.Call.{Call}
use Rattle.rules.specs.declared.Call.TheVariants.{Insert, FindMin, ExtractMin, DecreaseKey}
use Rattle.std.specs.Prelude.{Some}
use Rattle.rules.specs.Forests.{Forests, row_of, key_of, heap_of}
use Rattle.rules.specs.Order.{precedes, least_in, minimum}
use Rattle.rules.specs.Calls.{Outcome, insert, extract, decrease_key, perform}
use Rattle.rules.specs.Answers.{is_empty, refusal, unless_refused, answer}
use Rattle.rules.specs.WellFormed.{WellFormed}
use Rattle.rules.proofs.Lists.{extract_heap, extract_key, decrease_heap, decrease_key_lem}
use Rattle.rules.proofs.Members.{heap_in}
use Rattle.rules.proofs.Minimum.{minimum_unique}
use Rattle.rules.proofs.Order.{precedes_is}
use Rattle.paths.proofs.Waiting.{NotAfter}

-- The call is done, answers this item and key, and leaves these heap and key lists.
pub record Does (o : Outcome) (item key : ℕ) (heaps keys : List ℕ) : Type 0 where
  pub code : o.reply.code ≡ 0
  pub which : o.reply.item ≡ item
  pub told : o.reply.key ≡ key
  pub heap_is : o.next.heap ≡ heaps
  pub key_is : o.next.key ≡ keys

performs : (s : Forests) (c : Call) → refusal s c ≡ 0 → answer s (Some c) ≡ perform s c
unfolding answer unless_refused
performs s c e = ap (λ r. unless_refused r s c) e

-- The heap and key lists of the forests are hs and ks. Nothing else of the forests is said.
module _ (s : Forests) (hs ks : List ℕ) (eh : s.heap ≡ hs) (ek : s.key ≡ ks) where
  heap_at_lem : (x : ℕ) → heap_of s x ≡ get_or hs x 0
  heap_at_lem x = ap (λ l. get_or l x 0) eh

  key_at : (x : ℕ) → key_of s x ≡ get_or ks x 0
  key_at x = ap (λ l. get_or l x 0) ek

  pub insert_does : (i k : ℕ) → i < length hs → get_or hs i 0 ≡ 0
      → Does (answer s (Some (Insert 0 i k))) i k (set hs i 1) (set ks i k)
  unfolding refusal perform insert
  insert_does i k l z =
      rw (performs s (Insert 0 i k) ok)
      (record {
        code = refl;
        which = refl;
        told = refl;
        heap_is = ap (λ l. set l i 1) eh;
        key_is = ap (λ l. set l i k) ek;
      })
    where
      ok : refusal s (Insert 0 i k) ≡ 0
      ok = rw (lt-leb (length s.heap) i (rw eh l), heap_at_lem i, z)

  pub decrease_does : (i k : ℕ) → get_or hs i 0 ≢ 0 → k ≤ get_or ks i 0
      → Does (answer s (Some (DecreaseKey i k))) i k hs (set ks i k)
  unfolding refusal perform decrease_key
  decrease_does i k w l =
      rw (performs s (DecreaseKey i k) ok)
      (record {
        code = refl;
        which = refl;
        told = refl;
        heap_is = decrease_heap i k s ∙ eh;
        key_is = decrease_key_lem i k s ∙ ap (λ l. set l i k) ek;
      })
    where
      n : heap_of s i ≢ 0
      n z = w (sym (heap_at_lem i) ∙ z)

      ok : refusal s (DecreaseKey i k) ≡ 0
      ok =
          rw (
            lt-leb (length s.heap) i (heap_in s i n),
            ne_eqb (heap_of s i) 0 n,
            le-ltb (key_of s i) k (omega (arith, key_at i)),
          )

  -- u is in heap 0, and no item of heap 0 comes before it
  module _
      (W : WellFormed s) (u : ℕ) (hu : get_or hs u 0 ≡ 1) (first : (q : ℕ) → get_or hs q 0 ≡ 1 → NotAfter ks u q) where
    mine : heap_of s u ≡ 1
    mine = heap_at_lem u ∙ hu

    comes_first : (x : ℕ) → heap_of s x ≡ 1 → x ≢ u → precedes s.key u x ≡ true
    comes_first x e n =
        let f = first x (sym (heap_at_lem x) ∙ e) in
        rw ek (precedes_is ks u x f.0 (λ q. let g = f.1 q in omega arith))

    pub minimum_is : minimum s 0 ≡ u
    minimum_is = minimum_unique s W 0 u (record { inside = mine; first = comes_first })

    -- so the heap is not empty: its minimum may be shown, or taken
    pub find-allowed : refusal s (FindMin 0) ≡ 0
    unfolding refusal minimum least_in is_empty
    find-allowed = rw (some (row_of s 0) minimum_is)
      where
        inside : u < 4097
        inside = let k = heap_in s u (λ z. omega (arith, mine)) in omega (arith, W.disjoint.small)

        some : (l : List ℕ) → least_in s.key l ≡ u → is_empty l ≡ false
        some [] e = absurd (omega (arith, inside))
        some (x ∷ xs) e = refl

    pub extract_does : Does (answer s (Some (ExtractMin 0))) u (get_or ks u 0) (set hs u 0) (set ks u 0)
    unfolding refusal perform extract
    extract_does =
        rw (performs s (ExtractMin 0) find-allowed, minimum_is)
        (record {
          code = refl;
          which = refl;
          told = key_at u;
          heap_is = extract_heap 0 u s ∙ ap (λ l. set l u 0) eh;
          key_is = extract_key 0 u s ∙ ap (λ l. set l u 0) ek;
        })
