-- `cut::cascading_cut` meets its contract. Invariant: what remains from here on gives the whole.
use Prim.Native.Nat.{ℕ, suc, ◌+◌, ◌-◌}
use Rattle.rules.specs.Forests.{Forests, none}
use Rattle.rules.specs.Cut.{node_kind, cascading_cut}
use Rattle.store.specs.Families.{Holds}
use Rattle.cut.specs.Ready.{CascadeReady, Member}
use Rattle.cut.proofs.Cascading.{Cascading}
use Rattle.cut.proofs.cascading_cut.Given as goal

abbrev pub invariant-loop-cuts : goal.invariant-loop-cuts
invariant-loop-cuts l = record {
  ready : CascadeReady l.n l.s l.h l.p;
  goes_on : (amounts c m : ℕ → ℕ) (t : Forests) → Holds l.n l.initial.s amounts c m t none → Member t l.h l.x
      → Cascading l.n l.s amounts c m (cascading_cut (suc l.n) (node_kind t l.x) l.h l.x t) l.h l.p l.cuts (l.n + 1 - l.cuts);
}
