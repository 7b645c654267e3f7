-- The pass that moves the items of heap b to heap a: no item yet, one more, and all. There are two such passes: over
-- the state words alone, and over the key words too.
use Rattle.std.proofs.Common.{◌≡◌, ℕ, ◌+◌, ◌<◌, ◌≤◌, Bool, true, false, cond, eqb, ltb, List, [], ◌∷◌, sym, refl, ap, ◌∙◌, zero-le, le_refl, arith, ltb-false, ltb-true, le-ltb, lt-ltb, eqb-true}
use borrow.Author.Tests.{eqb-false}
use Rattle.rules.specs.declared.Field.{Field}
use Rattle.rules.specs.declared.Field.TheVariants.{Amount, Key, State}
use Rattle.rules.specs.Kinds.{Apart}
use Rattle.rules.specs.SetWord.{set_word}
use Rattle.rules.specs.Words.{look, field_size}
use Rattle.rules.proofs.ByKind.{apart_from, by_kinds}
use Rattle.store.specs.Says.{Changes, Says, Sized, Values}
use Rattle.store.proofs.Says.{says_as}
use Rattle.store.proofs.SetAt.{cond_same}
use Rattle.heap.specs.HeapsJoined.{MoveItemsReady, moved_key, moved_state, items_moved, made_to, states_moved}

-- ---- any change of state and key words

abbrev ItemWords : (Values → Values) → Type 0
ItemWords g = (v : Values) (f : Field) → Apart (State ∷ Key ∷ []) f → (j : ℕ) → g v f j ≡ v f j

made_none : (n : ℕ) (w : List ℕ) (g : Values → Values) → Sized n w → Changes n w (made_to 0 g) w
unfolding made_to
made_none n w g s =
    record { sized = s; says = λ v t. says_as n w v _ t (λ f i _. rw (le-ltb i 0 zero-le)) }

made_all : {n : ℕ} {w w' : List ℕ} (i : ℕ) (g : Values → Values) → ItemWords g → n ≤ i → Changes n w (made_to i g) w'
    → Changes n w g w'
unfolding made_to
made_all {n} {w} {w'} i g own k c =
    record { sized = c.sized; says = λ v s. says_as n w' _ _ (c.says v s) (all v) }
  where
    all : (v : Values) (f : Field) (j : ℕ) → j < field_size n f → made_to i g v f j ≡ g v f j
    all v =
        by_kinds (State ∷ Key ∷ []) (λ f. (j : ℕ) → j < field_size n f → made_to i g v f j ≡ g v f j)
        (λ j l. rw (lt-ltb j i (omega arith)))
        (λ j l. rw (lt-ltb j i (omega arith)))
        (λ f o j l. rw (own v f o j) (cond_same (ltb j i) (v f j)))

-- the values before i are new, and then that of i too
one_new : (i : ℕ) (new old : ℕ → ℕ) {y : ℕ} → y ≡ new i → (j : ℕ)
    → cond (eqb i j) y (cond (ltb j i) (new j) (old j)) ≡ cond (ltb j (i + 1)) (new j) (old j)
one_new i new old {y} e j = go (eqb i j) (ltb j i) refl refl
  where
    go : (t u : Bool) → eqb i j ≡ t → ltb j i ≡ u
        → cond t y (cond u (new j) (old j)) ≡ cond (ltb j (i + 1)) (new j) (old j)
    go true u p q =
        let z : i ≡ j = eqb-true i j p in
        rw (lt-ltb j (i + 1) (omega arith)) (e ∙ ap new z)
    go false true p q = rw (lt-ltb j (i + 1) (omega (arith, ltb-true j i q)))
    go false false p q =
        let z : i ≡ j → ⊥ = eqb-false i j p in
        rw (le-ltb j (i + 1) (omega (arith, ltb-false j i q)))

-- ---- the state words alone

states_own : (a b : ℕ) → ItemWords (states_moved a b)
unfolding states_moved
states_own a b v f o j = rw (apart_from (State ∷ Key ∷ []) f o State refl)

pub move_states_none : (n : ℕ) (w : List ℕ) (a b : ℕ) → Sized n w → Changes n w (made_to 0 (states_moved a b)) w
move_states_none n w a b = made_none n w (states_moved a b)

pub move_states_more : {n : ℕ} {w₀ w w₁ : List ℕ} (i a b : ℕ) {x y : ℕ} → i < n
    → Changes n w₀ (made_to i (states_moved a b)) w → x ≡ look n w State i → y ≡ moved_state a b x
    → Changes n w (set_word State i y) w₁ → Changes n w₀ (made_to (i + 1) (states_moved a b)) w₁
unfolding made_to states_moved
move_states_more {n} {w₀} {w} {w₁} i a b {x} {y} l c ex ey d =
    record {
      sized = d.sized;
      says = λ v s. says_as n w₁ _ _ (d.says _ (c.says v s)) (λ f j _. more v s f j);
    }
  where
    more : (v : Values) → Says n w₀ v → (f : Field) (j : ℕ)
        → set_word State i y (made_to i (states_moved a b) v) f j ≡ made_to (i + 1) (states_moved a b) v f j
    more v s =
        by_kinds (State ∷ [])
        (λ f. (j : ℕ) → set_word State i y (made_to i (states_moved a b) v) f j ≡ made_to (i + 1) (states_moved a b) v f j)
        (one_new i (λ j. moved_state a b (v State j)) (v State)
        (ey ∙ ap (moved_state a b) (ex ∙ (c.says v s).says State i l ∙ rw (le-ltb i i (le_refl i)))))
        (λ f o j.
        rw (apart_from (State ∷ []) f o State refl)
        (cond_same (ltb j i) (v f j) ∙ sym (cond_same (ltb j (i + 1)) (v f j))))

pub move_states_all : {n : ℕ} {w w' : List ℕ} (i a b : ℕ) → n ≤ i → Changes n w (made_to i (states_moved a b)) w'
    → Changes n w (states_moved a b) w'
move_states_all i a b = made_all i (states_moved a b) (states_own a b)

-- ---- the key words too

items_own : (a b : ℕ) → ItemWords (items_moved a b)
unfolding items_moved
items_own a b v f o j = let q = apart_from (State ∷ Key ∷ []) f o in rw (q State refl, q Key refl)

pub move_items-none : (n : ℕ) (w : List ℕ) (a b : ℕ) → Sized n w → Changes n w (made_to 0 (items_moved a b)) w
move_items-none n w a b = made_none n w (items_moved a b)

-- the words x and k of item i were read, and z and y are stored for them
pub move_items_more : {n : ℕ} {w₀ w w₁ w₂ : List ℕ} (i : ℕ) {a b from to x k y z : ℕ} → MoveItemsReady n w₀ a b → i < n
    → from ≡ look n w₀ Amount b → to ≡ look n w₀ Amount a → Changes n w₀ (made_to i (items_moved a b)) w
    → x ≡ look n w State i → k ≡ look n w Key i → z ≡ moved_key b from to x k → y ≡ moved_state a b x
    → Changes n w (set_word Key i z) w₁ → Changes n w₁ (set_word State i y) w₂
    → Changes n w₀ (made_to (i + 1) (items_moved a b)) w₂
unfolding made_to items_moved
move_items_more {n} {w₀} {w} {w₁} {w₂} i {a} {b} {from} {to} {x} {k} {y} {z} r l ef et c ex ek ez ey d₁ d₂ =
    record {
      sized = d₂.sized;
      says = λ v s. says_as n w₂ _ _ (d₂.says _ (d₁.says _ (c.says v s))) (λ f j _. more v s f j);
    }
  where
    state_is : (v : Values) → Says n w₀ v → x ≡ v State i
    state_is v s = ex ∙ (c.says v s).says State i l ∙ rw (le-ltb i i (le_refl i))

    key_is : (v : Values) → Says n w₀ v → z ≡ moved_key b (v Amount b) (v Amount a) (v State i) (v Key i)
    key_is v s =
        let p : k ≡ v Key i = ek ∙ (c.says v s).says Key i l ∙ rw (le-ltb i i (le_refl i)) in
        ez
        ∙ rw (state_is v s, p, ← (s.says Amount a r.into), ← (s.says Amount b r.from), ← ef, ← et)

    more : (v : Values) → Says n w₀ v → (f : Field) (j : ℕ)
        → set_word State i y (set_word Key i z (made_to i (items_moved a b) v)) f j ≡ made_to (i + 1) (items_moved a b) v f j
    more v s =
        by_kinds (State ∷ Key ∷ [])
        (λ f. (j : ℕ)
        → set_word State i y (set_word Key i z (made_to i (items_moved a b) v)) f j ≡ made_to (i + 1) (items_moved a b) v f j)
        (one_new i (λ j. moved_state a b (v State j)) (v State) (ey ∙ ap (moved_state a b) (state_is v s)))
        (one_new i (λ j. moved_key b (v Amount b) (v Amount a) (v State j) (v Key j)) (v Key) (key_is v s))
        (λ f o j. let q = apart_from (State ∷ Key ∷ []) f o in
        rw (q State refl, q Key refl)
        (cond_same (ltb j i) (v f j) ∙ sym (cond_same (ltb j (i + 1)) (v f j))))

pub move_items_all : {n : ℕ} {w w' : List ℕ} (i a b : ℕ) → n ≤ i → Changes n w (made_to i (items_moved a b)) w'
    → Changes n w (items_moved a b) w'
move_items_all i a b = made_all i (items_moved a b) (items_own a b)
