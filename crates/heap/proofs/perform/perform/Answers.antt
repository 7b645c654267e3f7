-- `heap::perform::perform` meets its contract.
use Rattle.std.proofs.Common.{◌≡◌, sym}
use Rattle.std.proofs.lemmas.Result.{err_from_is_err_and}
use Rattle.rules.specs.Answers.{refusal}
use Rattle.rules.specs.Words.{forests_of}
use Rattle.rules.specs.Refusals.{code_of}
use Rattle.heap.proofs.Answered.{may_move, performed, refused_performed}
use Rattle.heap.proofs.perform.perform.Goals as goal

pub returns-in_err-refusal : goal.returns-in_err-refusal
unfolding code_of
returns-in_err-refusal c =
    let p = err_from_is_err_and c.from_residual.result c.from_residual.ensures.1 in
    rw (p.1, p.2) (refused_performed c.requires c.in_err-refusal.ensures)

pub perform_allowed-requires : goal.perform_allowed-requires
unfolding code_of
perform_allowed-requires c =
    may_move c.requires (record { sound = c.requires.sound; items = c.items_of-n.ensures }) c.in_ok-refusal.ensures

pub returns : goal.returns
unfolding code_of
returns c =
    let done : 0 ≡ refusal (forests_of c.args.s.now) c.args.call = c.in_ok-refusal.ensures in
    performed (sym done) c.perform_allowed.ensures
