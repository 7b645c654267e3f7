-- `heap::delete::extract_min` meets its contract.
use Rattle.heap.proofs.Extracting.{extract_ready, extract-moves}
use Rattle.heap.proofs.delete.extract_min.Goals as goal

pub extract_min-requires : goal.extract_min-requires
extract_min-requires c = extract_ready c.requires

pub returns : goal.returns
returns c =
    extract-moves c.requires c.extract_min.ensures.performs c.extract_min.ensures.cuts_value
