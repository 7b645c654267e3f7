-- Where no heap is raised and no line is A, runs are those of the base.
use mathlib.Core.Path.{◌≡◌, sym, ap, ◌∙◌}
use mathlib.Core.List.{List}
use Prim.Native.Nat.{ℕ}
use Rattle.rules.specs.Lines.{Line}
use Rattle.rules.specs.Forests.{Forests, empty}
use Rattle.rules.specs.Answers.{after}
use Rattle.rules.specs.Queues.{unraised, after_lines}
use Rattle.rules.specs.Theorems.{AllInRange}
use Rattle.rules.specs.Turn.{turn}
use Rattle.rules.specs.Unraised.{WithoutRaise, with_zeros}
use Rattle.rules.specs.WellFormed.{WellFormed}
use Rattle.rules.specs.Words.{encode, items_in}
use Rattle.rules.proofs.BaseAnswers.{same_as_base}
use Rattle.rules.proofs.EmptyForests.{empty_well_formed}
use Rattle.rules.proofs.Turn.{turn_encoded}
use Rattle.rules.proofs.Unraised.{unraised_run}
use Rattle.rules.proofs.UnraisedWords.{unraised_formed, unraised_words}
use Rattle.lines.specs.Parse.{lines_of}
use Rattle.lines.proofs.InRange.{lines_range}
use Rattle.sheet.specs.Runs.{done_run, kept_run, limit_code}
use Rattle.sheet.specs.Unraised.{UnraisedSheets, base_run}
use Rattle.sheet.proofs.Limits.{within}
use Rattle.sheet.proofs.Runs.{fresh_done, kept_encoded}

done_base : (s : Forests) → WellFormed s → (ls : List Line) → AllInRange ls → WithoutRaise ls → (out : List ℕ)
    → done_run (unraised s) ls out ≡ base_run s ls out
unfolding done_run base_run
done_base s W ls f r out =
    let b = same_as_base s ls r in
    let t : encode (after_lines (unraised s) ls) ≡ turn (with_zeros (after s ls)) =
    sym (turn_encoded (after_lines (unraised s) ls)) ∙ ap turn (unraised_run s W ls f r) in
    rw (t, b.0, b.1)

pub unraised_sheets : UnraisedSheets
unraised_sheets = record {
  fresh = λ store sheet out e r.
      fresh_done store sheet out e
      ∙ done_base (empty (items_in store)) (empty_well_formed (items_in store) (within store sheet out e).sized.small)
      (lines_of sheet) (lines_range sheet) r out;
  kept = λ s W sheet out e r.
      let u : encode (unraised s) ≡ turn (with_zeros s) =
      sym (turn_encoded (unraised s)) ∙ ap turn (unraised_words.words s W) in
      ap (λ w. kept_run w sheet out) (sym u)
      ∙ kept_encoded (unraised s) (unraised_formed s W) sheet out (ap (λ w. limit_code w sheet out) u ∙ e)
      ∙ done_base s W (lines_of sheet) (lines_range sheet) r out;
}
