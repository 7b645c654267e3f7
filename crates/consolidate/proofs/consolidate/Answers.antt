-- `consolidate::consolidate` meets its contract.
use mathlib.Core.Path.{ap, ◌∙◌}
use native.Mathlib.Omega.{arith}
use Rattle.rules.specs.Consolidate.{consolidate, consolidate_within, occupied}
use Rattle.rules.specs.Forests.{set_row}
use Rattle.rules.specs.Words.{words_with}
use Rattle.consolidate.specs.Consolidating.{Consolidates, LinksRow, WritesRow, link_row}
use Rattle.consolidate.proofs.consolidate.Goals as goal

pub link_row-linked-requires : goal.link_row-linked-requires
link_row-linked-requires c =
    record {
      heap = c.requires.heap;
      least = c.requires.least;
      amounts = c.requires.amounts;
      forests = c.requires.forests;
      children = c.requires.children;
      gathered = c.requires.gathered;
      formed = c.requires.formed;
      fits = omega arith;
    }

pub write_row-requires : goal.write_row-requires
unfolding LinksRow
write_row-requires c =
    let p = c.requires in
    let S = c.link_row-linked.ensures.links_row p.least p.amounts p.forests p.children p.gathered p.formed in
    record { amounts = p.amounts; forests = (link_row c.args.h p.forests).forests; state = S.state }

pub returns : goal.returns
unfolding LinksRow WritesRow Consolidates consolidate consolidate_within link_row
returns c =
    record {
      consolidates = λ m a t cs R W.
          let S = c.link_row-linked.ensures.links_row m a t cs R W in
          let l = link_row c.args.h t in
          record {
            words = c.write_row.ensures a l.forests S.state
                ∙ ap (λ q. words_with a (set_row c.args.h (occupied q) l.forests)) S.places;
            tallied = omega (arith, c.link.ensures.0, S.tallied);
          };
      cuts_value = c.link.ensures.1;
    }
