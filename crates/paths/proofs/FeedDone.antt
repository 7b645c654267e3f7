-- What a feed call that is done leaves, by its code.
use Prim.Native.Nat.{ℕ, zero, suc}
use mathlib.Core.Path.{◌≡◌, refl}
use native.Mathlib.Omega.{arith}
use lib.ListN.{length}
use Rattle.paths.specs.Map.{Map, Accepted}
use Rattle.paths.specs.Table.{Limit, unlimited}
use Rattle.paths.specs.Search.{search, find, shown_best}
use Rattle.paths.specs.Feed.{ResultLists, code_for, feed_as, feed_result}
use Rattle.paths.specs.Theorems.{Right, FeedDone}
use Rattle.paths.proofs.Table.{finder_table}
use Rattle.paths.proofs.LossesAlone.{losses_alone}
use Rattle.paths.proofs.Tree.{table_tree}
use Rattle.paths.proofs.SpanCount.{count_most}
use Rattle.paths.proofs.Accepts.{code_zero}

-- a map that gets code 0 is accepted
pub done_accepted : (m : Map) (lent : ResultLists) (listed_n : ℕ) → code_for m lent listed_n ≡ 0 → Accepted m
done_accepted m lent listed_n e =
    (code_zero.only m (length lent.best) (length lent.last) (length lent.joints) listed_n (length lent.store)
    e).accepted

pub done_right : (limit : Limit) (m : Map) (lent : ResultLists) → Accepted m → Right limit m (feed_as 0 limit m lent)
unfolding feed_as search
done_right limit m lent A =
    record {
      table = finder_table limit m A;
      losses = losses_alone.least limit m _ _ _ (finder_table limit m A);
      tree = table_tree limit m A _ _ _ (finder_table limit m A);
      store = refl;
      examined = refl;
      at_most = count_most m (shown_best (find limit m));
    }

-- a result with code 0 is that of a call which is done
pub feed_code : (m : Map) (lent : ResultLists) → (feed_result m lent).code ≡ 0
    → Accepted m × (feed_result m lent ≡ feed_as 0 unlimited m lent)
unfolding feed_result feed_as
feed_code m lent = go (code_for m lent m.places) refl
  where
    go : (c : ℕ) → code_for m lent m.places ≡ c → (feed_as c unlimited m lent).code ≡ 0
        → Accepted m × (feed_as c unlimited m lent ≡ feed_as 0 unlimited m lent)
    go zero e _ = (done_accepted m lent m.places e, refl)
    go (suc c) e z = absurd (omega (arith, z))

pub feed_done : FeedDone
feed_done m lent z = let D = feed_code m lent z in rw D.1 (done_right unlimited m lent D.0)
