-- What is printed of a feed call: its code alone, or the table and the figures. F says what it answered and left.
use Prim.Native.Nat.{ℕ, ◌+◌, ◌^◌, ◌≤◌, ◌<◌}
use mathlib.Core.Path.{◌≡◌, sym, ap, ◌∙◌}
use mathlib.Core.List.{List, [], ◌∷◌}
use native.Mathlib.Omega.{arith}
use Rattle.std.proofs.Common.{Ok, Err}
use lib.ListN.{length}
use borrow.Author.Tests.{eq-eqb, ne_eqb}
use Rattle.text.specs.Decimal.{row}
use Rattle.text.proofs.Wrote.{wrote_then, wrote_length}
use Rattle.paths.specs.Map.{Map}
use Rattle.paths.specs.Table.{unlimited, Table}
use Rattle.paths.specs.Feed.{ResultLists, Feed, feed_result}
use Rattle.paths.proofs.FeedDone.{feed_done}
use Rattle.rules.specs.declared.Refusal.{Refusal}
use Rattle.rules.specs.Refusals.{code}
use Rattle.rules.proofs.Codes.{some_code}
use Rattle.finder.specs.declared.Fed.{Fed}
use Rattle.finder.specs.Answers.{feed_of}
use Rattle.feed.specs.Shown.{code_line, feed_text, Shows, figures_most, Roomy, WroteRow, TableReady, TableWrote}

module _ (m : Map) (lent left : ResultLists) where
  abbrev w : Feed
  w = feed_result m lent

  pub feed_refused : (e : Refusal) → feed_of (Err e) left ≡ w → feed_text m.places w ≡ code_line (code e)
  unfolding feed_of feed_text
  feed_refused e F = rw (sym F, ne_eqb (code e) 0 (some_code e))

  module _ (fed : Fed) (F : feed_of (Ok fed) left ≡ w) where
    done : w.code ≡ 0
    unfolding feed_of
    done = ap (λ (f : Feed). f.code) (sym F)

    same_left : left ≡ w.left
    unfolding feed_of
    same_left = ap (λ (f : Feed). f.left) F

    abbrev table : Table unlimited m w.left.best w.left.last w.left.joints
    table = (feed_done m lent done).table

    best_n_lem : length left.best ≡ m.places
    best_n_lem = ap (λ (l : ResultLists). length l.best) same_left ∙ table.best_n

    last_n_lem : length left.last ≡ m.places
    last_n_lem = ap (λ (l : ResultLists). length l.last) same_left ∙ table.last_n

    joints_n_lem : length left.joints ≡ m.places
    joints_n_lem = ap (λ (l : ResultLists). length l.joints) same_left ∙ table.joints_n

    module _ (few : m.places < 2 ^ 32) (out : List ℕ) (room : Roomy m.places out) where
      pub table_ready : TableReady left.best left.last left.joints out
      table_ready =
          record {
            last_n = omega (arith, best_n_lem, last_n_lem);
            joints_n = omega (arith, best_n_lem, joints_n_lem);
            few = omega (arith, best_n_lem, few);
            room = omega (arith, best_n_lem, room);
          }

      module _ (at : ℕ) (out₁ : List ℕ) (T : TableWrote left.best left.last left.joints out at out₁) where
        pub figures_room : at + figures_most ≤ length out₁
        figures_room = omega (arith, T.short, best_n_lem, room, wrote_length T.wrote)

        pub shows_done : (r : ℕ) (out' : List ℕ)
            → WroteRow figures_most out₁ at (row (fed.links ∷ fed.cuts ∷ fed.examined ∷ [])) out' r
            → Shows (feed_text m.places w) out r out'
        unfolding feed_of feed_text
        shows_done r out' v =
            record {
              wrote = rw (eq-eqb w.code 0 done, sym F, sym best_n_lem) (wrote_then T.wrote v.wrote);
              within = omega (arith, v.short, figures_room, wrote_length v.wrote);
            }
