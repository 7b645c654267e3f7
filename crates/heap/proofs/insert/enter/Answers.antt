-- `heap::insert::enter` meets its contract.
use Rattle.heap.specs.Entered.{entered}
use Rattle.heap.proofs.insert.enter.Goals as goal

pub returns : goal.returns
unfolding entered
returns c =
    record {
      sized = c.put-3.ensures.sized;
      says = λ v s.
          c.put-3.ensures.says _
          (c.put-2.ensures.says _ (c.put.ensures.says _ (c.put_key.ensures.says v s)));
    }
