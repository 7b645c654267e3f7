-- The chains of a map at a minute are those of its spans whose windows are open then.
use Prim.Native.Nat.{ℕ, ◌≤◌, ◌<◌}
use mathlib.Core.Path.{◌≡◌, refl}
use mathlib.Core.Bool.{true}
use mathlib.Core.List.{List, [], ◌∷◌}
use native.Mathlib.Omega.{arith}
use lib.ListN.{get_or}
use borrow.Author.Tests.{leb-true, le-leb, ltb-true, lt-ltb}
use Rattle.rules.proofs.Occurs.{and_split}
use Rattle.paths.specs.Map.{SpanLists, Windows, usable_at, usable_by, map_of, map_at}
use Rattle.paths.specs.Chains.{Chain}
use Rattle.paths.specs.Theorems.{AllOpen, ChainsOpen}

-- usable is to be in the window
pub usable_in : (minute opens closes : ℕ) → usable_at minute opens closes ≡ true → (opens ≤ minute) × (minute < closes)
unfolding usable_at
usable_in minute opens closes u =
    let s = and_split _ _ u in
    (omega (arith, leb-true _ minute s.0), omega (arith, ltb-true minute _ s.1))

pub in_usable : (minute opens closes : ℕ) → opens ≤ minute → minute < closes → usable_at minute opens closes ≡ true
unfolding usable_at
in_usable minute opens closes h k = rw (le-leb opens minute h, lt-ltb minute closes k)

module _ (places start minute : ℕ) (lists : SpanLists) (w : Windows) where
  within : (c : List ℕ) (p : ℕ) → Chain (map_at places start minute lists w) c p
      → Chain (map_of places start lists) c p × AllOpen minute w c
  unfolding usable_by
  within [] p q = (q, tt)
  within (e ∷ c) p ((i, u), t, h) =
      let r = within c _ h in
      let o = usable_in minute (get_or w.opens e 0) (get_or w.closes e 0) u in
      (((i, refl), t, r.0), (o.0, o.1, r.1))

  only : (c : List ℕ) (p : ℕ) → Chain (map_of places start lists) c p → AllOpen minute w c
      → Chain (map_at places start minute lists w) c p
  unfolding usable_by
  only [] p q o = q
  only (e ∷ c) p ((i, u), t, h) (a, b, o) = (
    (i, in_usable minute (get_or w.opens e 0) (get_or w.closes e 0) a b),
    t,
    only c _ h o,
  )

pub chains_open : ChainsOpen
chains_open = record { within = within; only = only }
