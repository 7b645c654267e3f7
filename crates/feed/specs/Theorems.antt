-- What is proved of what the program prints.
use Rattle.std.specs.Prelude.{ℕ, ◌+◌, ◌≤◌, ◌≡◌, List, [], ◌∷◌, ◌++◌}
use Rattle.text.specs.Decimal.{row}
use Rattle.paths.specs.Table.{leaving_reached}
use Rattle.paths.specs.Feed.{Feed}
use Rattle.paths.specs.Ceiling.{reached_places, WithinCeilings}
use Rattle.mapfile.specs.Read.{Reading, read_map}
use Rattle.feed.specs.Shown.{
  entry_rows,
  map_read,
  fed_by,
  most_places,
  own_spans,
  own_windows,
  own_results,
  program_text,
}

-- Where a table is printed, the number printed last is that of the spans which leave the places printed with a loss.
abbrev pub PrintedCount : Type 0
PrintedCount =
    (text : List ℕ) →
    let w : Reading = read_map text own_spans own_windows in
    let f : Feed = fed_by w own_results in
    w.answer.code ≡ 0 → w.answer.places ≤ most_places → f.code ≡ 0 →
    program_text text
    ≡ entry_rows f.left.best f.left.last f.left.joints w.answer.places
    ++ row (f.links ∷ f.cuts ∷ leaving_reached (map_read w) f.left.best ∷ [])

-- Where a table is printed, the two numbers before the last together are within the ceilings: of what the map text
-- says, the number of places on its first line and the number of lines after it, and of the places printed with a loss
-- and the last number.
abbrev pub PrintedCeiling : Type 0
PrintedCeiling =
    (text : List ℕ) →
    let w : Reading = read_map text own_spans own_windows in
    let f : Feed = fed_by w own_results in
    w.answer.code ≡ 0 → w.answer.places ≤ most_places → f.code ≡ 0 →
    (program_text text
    ≡ entry_rows f.left.best f.left.last f.left.joints w.answer.places
    ++ row (f.links ∷ f.cuts ∷ f.examined ∷ []))
    × WithinCeilings w.answer.places w.answer.spans (reached_places f.left.best) f.examined
    (f.links + f.cuts)
