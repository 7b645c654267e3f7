-- The laws of the places, in either order: each place is in the store, no two are one, and there are no others. With
-- Sizes.antt, the only proofs that know the layout.
use mathlib.Core.Path.{◌≡◌, refl, sym, ap, ◌∙◌}
use Prim.Native.Nat.{ℕ, ◌+◌, ◌-◌, ◌*◌, ◌/◌, ◌%◌, ◌<◌, ◌≤◌}
use mathlib.Core.List.{map}
use mathlib.Core.Bool.{Bool, true, false}
use native.Mathlib.Omega.{arith}
use native.Mathlib.Nat.{mod-lt, div-add-mod', div-lt_iff_lt-mul}
use lib.Arith.{digits_lt, digits_div}
use lib.ListN.{length, get_or, get_or-map}
use lib.Dec.{ltb}
use borrow.Author.Tests.{ltb-true, ltb-false}
use Rattle.rules.specs.declared.Layout.{Layout}
use Rattle.rules.specs.declared.Layout.TheVariants.{ByItem, ByKind}
use Rattle.rules.specs.declared.Field.{Field}
use Rattle.rules.specs.declared.Field.TheVariants.{
  FirstTree,
  LastTree,
  Minimum,
  Count,
  Amount,
  Key,
  Parent,
  FirstChild,
  LastChild,
  Next,
  Prev,
  Rank,
  State,
}
use Rattle.rules.specs.Lists.{tabulate_from, tabulate}
use Rattle.rules.specs.SetWord.{field_number}
use Rattle.rules.specs.Words.{store_size, field_size, item_place, place_in, fields}
use Rattle.rules.proofs.Tabulate.{get_or_tabulate}

pub field_number_lem : (f : Field) → get_or fields (field_number f) State ≡ f
field_number_lem FirstTree = refl
field_number_lem LastTree = refl
field_number_lem Minimum = refl
field_number_lem Count = refl
field_number_lem Amount = refl
field_number_lem Key = refl
field_number_lem Parent = refl
field_number_lem FirstChild = refl
field_number_lem LastChild = refl
field_number_lem Next = refl
field_number_lem Prev = refl
field_number_lem Rank = refl
field_number_lem State = refl

pub number_injective : (f g : Field) → field_number f ≡ field_number g → f ≡ g
number_injective f g e = sym (field_number_lem f) ∙ ap (λ k. get_or fields k State) e ∙ field_number_lem g

number_onto : (k : ℕ) → k < length fields → field_number (get_or fields k State) ≡ k
unfolding tabulate_from
number_onto k h =
    let e : map field_number fields ≡ tabulate (length fields) (λ i. i) = refl in
    sym (get_or-map field_number fields k State)
    ∙ ap (λ l. get_or l k (field_number State)) e
    ∙ get_or_tabulate (length fields) (λ i. i) k (field_number State) h

-- ---- the words of the items

-- each place is one of the 8n, no two are one, and there are no others
item_bound : (o : Layout) (n c i : ℕ) → c < 8 → i < n → item_place o n c i < 8 * n
item_bound ByItem n c i hc hi = omega arith
item_bound ByKind n c i hc hi = digits_lt {q = c} {m = 8} {r = i} {c = n} hc hi

item_injective : (o : Layout) (n c d i j : ℕ) → c < 8 → d < 8 → i < n → j < n → item_place o n c i ≡ item_place o n d j
    → (c ≡ d) × (i ≡ j)
item_injective ByItem n c d i j hc hd hi hj e = (omega arith, omega arith)
item_injective ByKind n c d i j hc hd hi hj e =
    let v : c ≡ d = sym (digits_div c hi) ∙ ap (λ (x : ℕ). x / n) e ∙ digits_div d hj in
    let w : c * n ≡ d * n = ap (λ (x : ℕ). x * n) v in
    (v, omega arith)

record ItemPlace (o : Layout) (n p : ℕ) : Type 0 where
  pub number : ℕ
  pub item : ℕ
  pub low : number < 8
  pub inside : item < n
  pub there : item_place o n number item ≡ p

item_onto : (o : Layout) (n p : ℕ) → p < 8 * n → ItemPlace o n p
item_onto ByItem n p h =
    record { number = p % 8; item = p / 8; low = omega arith; inside = omega arith; there = omega arith }
item_onto ByKind n p h =
    record {
      number = p / n;
      item = p % n;
      low = (div-lt_iff_lt-mul {k = n} {x = p} {y = 8} (omega arith)).1 (omega arith);
      inside = mod-lt p {m = n} (omega arith);
      there = div-add-mod' p n;
    }

-- ---- all words

-- where a kind lies: among the words of the heaps, or as the words c of the items
data Lies (o : Layout) (n : ℕ) (f : Field) : Type 0 where
  of_heaps : field_number f < 5 → field_size n f ≡ 8 → ((i : ℕ) → place_in o n f i ≡ 5 * i + field_number f) → Lies o n f
  of_items : (c : ℕ) → field_number f ≡ 5 + c → c < 8 → field_size n f ≡ n
      → ((i : ℕ) → place_in o n f i ≡ 40 + item_place o n c i) → Lies o n f

lies : (o : Layout) (n : ℕ) (f : Field) → Lies o n f
lies o n FirstTree = of_heaps (omega arith) refl (λ i. omega arith)
lies o n LastTree = of_heaps (omega arith) refl (λ i. omega arith)
lies o n Minimum = of_heaps (omega arith) refl (λ i. omega arith)
lies o n Count = of_heaps (omega arith) refl (λ i. omega arith)
lies o n Amount = of_heaps (omega arith) refl (λ i. omega arith)
lies o n Key = of_items 0 refl (omega arith) refl (λ i. refl)
lies o n Parent = of_items 1 refl (omega arith) refl (λ i. refl)
lies o n FirstChild = of_items 2 refl (omega arith) refl (λ i. refl)
lies o n LastChild = of_items 3 refl (omega arith) refl (λ i. refl)
lies o n Next = of_items 4 refl (omega arith) refl (λ i. refl)
lies o n Prev = of_items 5 refl (omega arith) refl (λ i. refl)
lies o n Rank = of_items 6 refl (omega arith) refl (λ i. refl)
lies o n State = of_items 7 refl (omega arith) refl (λ i. refl)

-- the same by the numbers of the kinds, as the code computes places
pub heap_place : (o : Layout) (n : ℕ) (f : Field) (i : ℕ) → field_number f < 5
    → place_in o n f i ≡ 5 * i + field_number f
heap_place o n f i h = go (lies o n f)
  where
    go : Lies o n f → place_in o n f i ≡ 5 * i + field_number f
    go (of_heaps a r e) = e i
    go (of_items c a b r e) = absurd (omega arith)

pub item_place_lem : (o : Layout) (n : ℕ) (f : Field) (i : ℕ) → 5 ≤ field_number f
    → place_in o n f i ≡ 40 + item_place o n (field_number f - 5) i
item_place_lem o n f i h = go (lies o n f)
  where
    go : Lies o n f → place_in o n f i ≡ 40 + item_place o n (field_number f - 5) i
    go (of_heaps a r e) = absurd (omega arith)
    go (of_items c a b r e) =
        let d : c ≡ field_number f - 5 = omega arith in
        e i ∙ ap (λ k. 40 + item_place o n k i) d

pub number_bound : (f : Field) → field_number f < length fields
number_bound f = go (lies ByItem 0 f)
  where
    go : Lies ByItem 0 f → field_number f < length fields
    go (of_heaps a r e) = omega arith
    go (of_items c a b r e) = omega arith

pub field_size-small : (n : ℕ) (f : Field) → n ≤ 4096 → field_size n f ≤ 4096
field_size-small n f h = go (lies ByItem n f)
  where
    go : Lies ByItem n f → field_size n f ≤ 4096
    go (of_heaps a r e) = omega arith
    go (of_items c a b r e) = omega arith

pub place_bound : (o : Layout) (n : ℕ) (f : Field) (i : ℕ) → i < field_size n f → place_in o n f i < store_size n
unfolding store_size
place_bound o n f i h = go (lies o n f)
  where
    go : Lies o n f → place_in o n f i < store_size n
    go (of_heaps a r e) = omega (arith, e i)
    go (of_items c a b r e) = omega (arith, e i, item_bound o n c i b (omega arith))

-- two places are one only where kind and number are
one_place : (o : Layout) (n : ℕ) (f g : Field) (i j : ℕ) → Lies o n f → Lies o n g → i < field_size n f
    → j < field_size n g → place_in o n f i ≡ place_in o n g j → (field_number f ≡ field_number g) × (i ≡ j)
one_place o n f g i j (of_heaps a r e) (of_heaps a' r' e') hi hj h = omega (arith, e i, e' j)
one_place o n f g i j (of_heaps a r e) (of_items c p q r' e') hi hj h = absurd (omega (arith, e i, e' j))
one_place o n f g i j (of_items c p q r e) (of_heaps a r' e') hi hj h = absurd (omega (arith, e i, e' j))
one_place o n f g i j (of_items c p q r e) (of_items d p' q' r' e') hi hj h =
    let b = item_injective o n c d i j q q' (omega arith) (omega arith) (omega (arith, e i, e' j)) in
    (omega (arith, b.0), b.1)

pub place_injective : (o : Layout) (n : ℕ) (f g : Field) (i j : ℕ) → i < field_size n f → j < field_size n g
    → place_in o n f i ≡ place_in o n g j → (f ≡ g) × (i ≡ j)
place_injective o n f g i j hi hj h =
    let b = one_place o n f g i j (lies o n f) (lies o n g) hi hj h in
    (number_injective f g b.0, b.1)

-- what lies at place p
pub record Place (o : Layout) (n p : ℕ) : Type 0 where
  pub field : Field
  pub index : ℕ
  pub inside : index < field_size n field
  pub there : place_in o n field index ≡ p

of_heaps_lem : (o : Layout) (n p : ℕ) → p < 40 → Place o n p
of_heaps_lem o n p h = go (lies o n f)
  where
    f : Field
    f = get_or fields (p % 5) State

    i : ℕ
    i = p / 5

    go : Lies o n f → Place o n p
    go (of_heaps a r e) =
        record
        { field = f; index = i; inside = omega arith; there = omega (arith, e i, number_onto (p % 5) (omega arith)) }
    go (of_items c a b r e) = absurd (omega (arith, number_onto (p % 5) (omega arith)))

of_items_lem : (o : Layout) (n p : ℕ) → 40 ≤ p → p < store_size n → Place o n p
unfolding store_size
of_items_lem o n p l h = go (lies o n f)
  where
    there : ItemPlace o n (p - 40)
    there = item_onto o n (p - 40) (omega arith)

    c : ℕ
    c = there.number

    f : Field
    f = get_or fields (5 + c) State

    number : field_number f ≡ 5 + c
    number = number_onto (5 + c) (omega (arith, there.low))

    go : Lies o n f → Place o n p
    go (of_heaps a r e) = absurd (omega (arith, number))
    go (of_items d a b r e) =
        let same : d ≡ c = omega (arith, number) in
        record {
          field = f;
          index = there.item;
          inside = omega (arith, there.inside);
          there = e there.item ∙ rw same (omega (arith, there.there));
        }

pub place_onto : (o : Layout) (n p : ℕ) → p < store_size n → Place o n p
place_onto o n p h = go (ltb p 40) refl
  where
    go : (t : Bool) → ltb p 40 ≡ t → Place o n p
    go true e = of_heaps_lem o n p (ltb-true p 40 e)
    go false e = of_items_lem o n p (ltb-false p 40 e) h
