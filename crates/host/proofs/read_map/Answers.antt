-- `read_map` meets its contract.
use Rattle.std.proofs.Common.{rules}
use Rattle.host.proofs.Returned.{read_returns, read_refused}
use Rattle.host.proofs.read_map.Goals as goal

pub returns-in-Ok : goal.returns-in-Ok
returns-in-Ok c =
    let R = read_returns _ c.in-Ok.ensures.reads in
    record {
      same_code = R.same_code;
      same_figures = R.same_figures;
      same_lists = search (rules, R.same_lists);
      same_windows = search (rules, R.same_windows);
    }

pub returns-in-Err : goal.returns-in-Err
returns-in-Err c =
    let R = read_refused _ c.in-Err.ensures.reads in
    rw c.refuse.ensures.code_is
    (record {
      same_code = R.same_code;
      same_figures = rw (c.refuse.ensures.zeros, c.told-figures) R.same_figures;
      same_lists = search (rules, R.same_lists);
      same_windows = search (rules, R.same_windows);
    })
