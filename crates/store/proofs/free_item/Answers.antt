-- `store::free_item` meets its contract.
use Rattle.store.specs.Empty.{free_item}
use Rattle.store.proofs.free_item.Goals as goal

pub returns : goal.returns
unfolding free_item
returns c =
    record {
      sized = c.put-8.ensures.sized;
      says = λ v s.
          c.put-8.ensures.says _ (c.put-7.ensures.says _ (c.put-6.ensures.says _ (c.put-5.ensures.says _
          (c.put-4.ensures.says _ (c.put-3.ensures.says _ (c.put-2.ensures.says _
          (c.put.ensures.says v s)))))));
    }
