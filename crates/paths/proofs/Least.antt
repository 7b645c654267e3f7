-- Least chains: two of one place are alike, what leads to the last span of one is least too, and what a table shows of
-- them.
use Prim.Native.Nat.{ℕ, ◌≤◌}
use mathlib.Core.Path.{◌≡◌, refl, sym, ◌∙◌}
use mathlib.Core.Logic.{◌≢◌}
use mathlib.Core.List.{List, [], ◌∷◌}
use native.Mathlib.Omega.{arith}
use Rattle.rules.specs.Lists.{sum_by}
use Rattle.rules.specs.Forests.{none}
use Rattle.paths.specs.Map.{Map, from_of}
use Rattle.paths.specs.Chains.{Chain, chain_loss, hops, AsGood, Least}
use Rattle.paths.specs.Table.{Limit, unlimited, up_to, WithinLimit, Entry, at_start, reached, unreached}

-- ---- limits

-- the start has the chain of no span, which is within any limit
pub start_within : (limit : Limit) (m : Map) → WithinLimit limit (chain_loss m [])
unfolding chain_loss sum_by
start_within unlimited m = tt
start_within (up_to b) m = omega arith

pub less_within : (limit : Limit) (k l : ℕ) → k ≤ l → WithinLimit limit l → WithinLimit limit k
less_within unlimited k l h i = tt
less_within (up_to b) k l h i = omega arith

-- ---- least chains

module _ (m : Map) (p : ℕ) (c d : List ℕ) (L : Least m p c) where
  -- two least chains to a place have the same loss and as many spans
  pub least_same : Least m p d → (chain_loss m c ≡ chain_loss m d) × (hops c ≡ hops d)
  unfolding AsGood
  least_same K =
      let a = L.least d K.leads in
      let b = K.least c L.leads in
      let e : chain_loss m c ≡ chain_loss m d = omega arith in
      (e, omega (arith, a.1 e, b.1 (sym e)))

  -- and a chain with the loss and the number of spans of a least one is least
  pub least_like : Chain m d p → chain_loss m d ≡ chain_loss m c → hops d ≡ hops c → Least m p d
  unfolding AsGood
  least_like leads x y =
      record {
        leads = leads;
        least = λ b h. let a = L.least b h in (omega arith, λ e. omega (arith, a.1 (sym x ∙ e)));
      }

pub least_start : (m : Map) → Least m m.start []
unfolding AsGood chain_loss sum_by
least_start m = record { leads = refl; least = λ d h. (omega arith, λ _. omega arith) }

-- what leads to the last span of a least chain is least
pub least_before : (m : Map) (p e : ℕ) (c : List ℕ) → Least m p (e ∷ c) → Least m (from_of m e) c
unfolding AsGood chain_loss sum_by
least_before m p e c L =
    let h = L.leads in
    record {
      leads = h.2;
      least =
          λ d k.
          let a = L.least (e ∷ d) (h.0, h.1, k) in
          (omega arith, λ x. omega (arith, a.1 (omega arith)));
    }

-- ---- entries

module _ (limit : Limit) (m : Map) (p l e h : ℕ) where
  -- an entry that shows a loss has a chain within the limit
  pub entry_chain : l ≢ none → Entry limit m p l e h → (c : List ℕ) × Chain m c p × WithinLimit limit (chain_loss m c)
  entry_chain n (at_start a x y z) = ([], a, start_within limit m)
  entry_chain n (reached o R i) = (e ∷ R.before, R.least.leads, rw R.loss i)
  entry_chain n (unreached f x y z) = absurd (n x)

  -- where a least chain is within the limit, its loss and its number of spans are shown
  pub entry_least : (c : List ℕ) → Least m p c → WithinLimit limit (chain_loss m c) → Entry limit m p l e h
      → (l ≡ chain_loss m c) × (h ≡ hops c)
  unfolding AsGood chain_loss sum_by
  entry_least c L i (at_start a x y z) =
      let b = L.least [] a in
      let n : chain_loss m c ≡ 0 = omega arith in
      (omega arith, omega (arith, b.1 n))
  entry_least c L i (reached o R j) =
      let s = least_same m p (e ∷ R.before) c R.least L in
      (omega (arith, R.loss), omega (arith, R.count))
  entry_least c L i (unreached f x y z) = absurd (f c L.leads i)
