-- `consolidate::extract_min` meets its contract.
use Rattle.consolidate.proofs.Extracting.{
  consolidate_ready,
  detach_ready,
  extract_performs,
  heap_inside,
  least_inside,
  linked_says,
  sound_rowed,
}
use Rattle.consolidate.proofs.extract_min.Goals as goal

pub get-x-requires : goal.get-x-requires
get-x-requires c =
    record { sized = (sound_rowed c.requires).says.sized; inside = heap_inside c.requires }

pub key_of-key-requires : goal.key_of-key-requires
key_of-key-requires c =
    record {
      within = record { sized = (sound_rowed c.requires).says.sized; inside = least_inside c.requires c.get-x.ensures };
      h_bound = heap_inside c.requires;
    }

pub detach_root-requires : goal.detach_root-requires
detach_root-requires c =
    detach_ready c.requires c.get-x.ensures

pub consolidate-t-requires : goal.consolidate-t-requires
consolidate-t-requires c =
    consolidate_ready c.requires c.get-x.ensures _ c.detach_root.ensures

pub settle_amount-requires : goal.settle_amount-requires
settle_amount-requires c =
    let s = linked_says c.requires c.get-x.ensures _ c.detach_root.ensures _ _ c.consolidate-t.ensures.consolidates in
    record {
      sized = s.sized;
      h_bound = heap_inside c.requires;
    }

pub returns : goal.returns
returns c =
    record {
      performs = extract_performs c.requires c.get-x.ensures _ c.detach_root.ensures _ _ c.consolidate-t.ensures.consolidates _
          c.key_of-key.ensures c.settle_amount.ensures;
      cuts_value = c.consolidate-t.ensures.cuts_value;
    }
