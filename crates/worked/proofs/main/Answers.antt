-- Each run keeps the length of the store, which is one for nine items.
use Rattle.std.proofs.Common.{rules}
use Rattle.rules.specs.Words.{store_size}
use Rattle.worked.proofs.main.Goals as goal

pub loop-name-init : goal.loop-name-init
loop-name-init c = search rules

pub show-requires : goal.show-requires
unfolding store_size
show-requires c = let same = c.run_fresh-ran.auto.store in let kept = c.loop-name.invariant in search rules

pub loop-name-preserved : goal.loop-name-preserved
loop-name-preserved c = let same = c.run_fresh-ran.auto.store in let kept = c.loop-name.invariant in search rules

pub loop-name-2-init : goal.loop-name-2-init
loop-name-2-init c = let kept = c.loop-name.invariant in search rules

pub show-requires-in-loop-name-2 : goal.show-requires-in-loop-name-2
unfolding store_size
show-requires-in-loop-name-2 c =
    let same = c.run_kept-ran.auto.store in
    let kept = c.loop-name-2.invariant in
    search rules

pub loop-name-2-preserved : goal.loop-name-2-preserved
loop-name-2-preserved c =
    let same = c.run_kept-ran.auto.store in
    let kept = c.loop-name-2.invariant in
    search rules
