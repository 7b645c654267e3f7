-- `heap::refusal::refusal` meets its contract: M is refused as T is.
use Rattle.rules.specs.Answers.{refusal}
use Rattle.heap.proofs.refusal.refusal.Goals as goal

pub returns-in-FindMin : goal.returns-in-FindMin
unfolding refusal
returns-in-FindMin c =
    rw c.in-FindMin.is c.refuse_minimum.ensures
