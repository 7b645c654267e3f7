-- What is printed where a table is.
use Prim.Native.Nat.{◌≤◌}
use mathlib.Core.Path.{◌≡◌, refl}
use mathlib.Core.List.{[], ◌∷◌, ◌++◌}
use borrow.Author.Tests.{eq-eqb, le-ltb}
use Rattle.text.specs.Decimal.{row}
use Rattle.paths.specs.Feed.{ResultLists, Feed}
use Rattle.mapfile.specs.Read.{Reading}
use Rattle.feed.specs.Shown.{entry_rows, fed_by, most_places, feed_text, map_text}

-- the table, and the three figures
pub table_printed : (w : Reading) (own : ResultLists) → w.answer.code ≡ 0 → w.answer.places ≤ most_places →
    let f : Feed = fed_by w own in
    f.code ≡ 0 →
    map_text w own
    ≡ entry_rows f.left.best f.left.last f.left.joints w.answer.places
    ++ row (f.links ∷ f.cuts ∷ f.examined ∷ [])
unfolding map_text feed_text
table_printed w own z h y =
    rw (
      eq-eqb w.answer.code 0 z,
      le-ltb most_places w.answer.places h,
      eq-eqb (fed_by w own).code 0 y,
    )
    refl
