-- `spans::refusal::is_faulty` meets its contract.
use lib.Dec.{eqb, ltb, leb}
use Rattle.paths.specs.Map.{day_end}
use Rattle.paths.specs.Codes.{fault, window_fault}
use Rattle.spans.proofs.Faultless.{any_fault}
use Rattle.spans.proofs.refusal.is_faulty.Goals as goal

pub returns : goal.returns
unfolding fault window_fault
returns c =
    any_fault (leb c.args.places c.args.from) (leb c.args.places c.args.to) (eqb c.args.loss 0) (ltb 1000000 c.args.loss)
    (ltb c.args.from c.args.before) (leb c.args.closes c.args.opens) (ltb day_end c.args.closes)
