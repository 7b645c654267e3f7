-- The spans of a map text that is read fit the lists that were lent.
use Prim.Native.Nat.{ℕ, ◌≤◌}
use mathlib.Core.Path.{◌≡◌, refl}
use mathlib.Core.List.{List}
use mathlib.Core.Bool.{Bool, true, false, cond, not, ◌||◌}
use native.Mathlib.Omega.{arith}
use lib.ListN.{length}
use lib.Seq.{sets, length-sets}
use lib.Dec.{ltb}
use Rattle.text.specs.Lines.{lines}
use Rattle.paths.specs.Map.{SpanLists, Windows}
use Rattle.mapfile.specs.Lines.{row_of, column}
use Rattle.mapfile.specs.Read.{
  Reading,
  is_map,
  run_out,
  with_spans,
  with_windows,
  refused_answer,
  refused_reading,
  read_answer,
  read_map,
  first_line,
  span_lines,
}
use Rattle.mapfile.proofs.Room.{spans_fit}

pub record ReadFits (w : Reading) : Type 0 where
  pub in_from : w.answer.spans ≤ length w.left.from
  pub in_to : w.answer.spans ≤ length w.left.to
  pub in_loss : w.answer.spans ≤ length w.left.loss
  pub in_opens : w.answer.spans ≤ length w.left_windows.opens
  pub in_closes : w.answer.spans ≤ length w.left_windows.closes

-- a refusal names no span
refused_fits : (code : ℕ) (lent : SpanLists) (w : Windows) → ReadFits (refused_reading code lent w)
unfolding refused_reading refused_answer
refused_fits code lent w =
    record {
      in_from = omega arith;
      in_to = omega arith;
      in_loss = omega arith;
      in_opens = omega arith;
      in_closes = omega arith;
    }

-- storing leaves a list as long as it was
still : (l : List ℕ) (ls : List (List ℕ)) (i : ℕ) → length ls ≤ length l
    → length ls ≤ length (sets l 0 (column i ls))
still l ls i h = omega (arith, length-sets l 0 (column i ls))

stored_fits : (head : List ℕ) (ls : List (List ℕ)) (lent : SpanLists) (w : Windows) → run_out lent w (length ls) ≡ false
    → ReadFits
    (record { answer = read_answer head (length ls); left = with_spans ls lent; left_windows = with_windows ls w })
unfolding read_answer with_spans with_windows
stored_fits head ls lent w e =
    let fit = spans_fit ls lent w e in
    record {
      in_from = still lent.from ls 0 fit.in_from;
      in_to = still lent.to ls 1 fit.in_to;
      in_loss = still lent.loss ls 2 fit.in_loss;
      in_opens = still w.opens ls 3 fit.in_opens;
      in_closes = still w.closes ls 4 fit.in_closes;
    }

pub read_fits : (text : List ℕ) (lent : SpanLists) (w : Windows) → ReadFits (read_map text lent w)
unfolding read_map
read_fits text lent w =
    go (ltb 60000 (length text) || not (is_map (lines text))) (run_out lent w (length ls)) refl
  where
    ls : List (List ℕ)
    ls = span_lines (lines text)

    head : List ℕ
    head = row_of (first_line (lines text))

    go : (s t : Bool) → run_out lent w (length ls) ≡ t
        → ReadFits
        (cond s (refused_reading 21 lent w)
        (cond t (refused_reading 16 lent w)
        (record { answer = read_answer head (length ls); left = with_spans ls lent; left_windows = with_windows ls w })))
    go true t e = refused_fits 21 lent w
    go false true e = refused_fits 16 lent w
    go false false e = stored_fits head ls lent w e
