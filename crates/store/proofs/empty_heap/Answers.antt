-- `store::empty_heap` meets its contract.
use Rattle.store.specs.Empty.{empty_heap}
use Rattle.store.proofs.empty_heap.Goals as goal

pub returns : goal.returns
unfolding empty_heap
returns c =
    record {
      sized = c.put-5.ensures.sized;
      says = λ v s.
          c.put-5.ensures.says _
          (c.put-4.ensures.says _
          (c.put-3.ensures.says _ (c.put-2.ensures.says _ (c.put.ensures.says v s))));
    }
