-- `spans::refusal::check_feed` meets its contract: the first test that refuses gives the code.
-- In front stand the two that a wrong order of the tests makes false.
use Rattle.std.proofs.Common.{rules, ◌≡◌, sym, ◌∙◌, Err}
use Rattle.spans.proofs.Refused.{stops, goes}
use Rattle.spans.proofs.FeedCodes.{in_order}
use Rattle.spans.proofs.refusal.check_feed.Goals as goal

pub returns-in_err-check_span_lists : goal.returns-in_err-check_span_lists
returns-in_err-check_span_lists c =
    let r : c.from_residual-in_err-check_span_lists.result ≡ Err c.in_err-check_span_lists.field-0.0 = search rules in
    rw r
    (goes _ c.in_ok-check_places.ensures
    (goes _ c.in_ok-check_minute.ensures (stops _ _ c.in_err-check_span_lists.ensures))
    ∙ sym (in_order c.args.map c.args.lent))

pub returns : goal.returns
returns c =
    goes _ c.in_ok-check_places.ensures
    (goes _ c.in_ok-check_minute.ensures
    (goes _ c.in_ok-check_span_lists.ensures
    (goes _ c.in_ok-check_result_lists.ensures (goes _ c.in_ok-check_place_list.ensures c.check_spans.ensures))))
    ∙ sym (in_order c.args.map c.args.lent)

pub returns-in_err-check_places : goal.returns-in_err-check_places
returns-in_err-check_places c =
    let r : c.from_residual.result ≡ Err c.in_err-check_places.field-0.0 = search rules in
    rw r (stops _ _ c.in_err-check_places.ensures ∙ sym (in_order c.args.map c.args.lent))

pub returns-in_err-check_minute : goal.returns-in_err-check_minute
returns-in_err-check_minute c =
    let r : c.from_residual-in_err-check_minute.result ≡ Err c.in_err-check_minute.field-0.0 = search rules in
    rw r
    (goes _ c.in_ok-check_places.ensures (stops _ _ c.in_err-check_minute.ensures)
    ∙ sym (in_order c.args.map c.args.lent))

pub returns-in_err-check_result_lists : goal.returns-in_err-check_result_lists
returns-in_err-check_result_lists c =
    let r : c.from_residual-in_err-check_result_lists.result ≡ Err c.in_err-check_result_lists.field-0.0 = search rules
    in
    rw r
    (goes _ c.in_ok-check_places.ensures
    (goes _ c.in_ok-check_minute.ensures
    (goes _ c.in_ok-check_span_lists.ensures (stops _ _ c.in_err-check_result_lists.ensures)))
    ∙ sym (in_order c.args.map c.args.lent))

pub returns-in_err-check_place_list : goal.returns-in_err-check_place_list
returns-in_err-check_place_list c =
    let r : c.from_residual-in_err-check_place_list.result ≡ Err c.in_err-check_place_list.field-0.0 = search rules in
    rw r
    (goes _ c.in_ok-check_places.ensures
    (goes _ c.in_ok-check_minute.ensures
    (goes _ c.in_ok-check_span_lists.ensures
    (goes _ c.in_ok-check_result_lists.ensures (stops _ _ c.in_err-check_place_list.ensures))))
    ∙ sym (in_order c.args.map c.args.lent))
