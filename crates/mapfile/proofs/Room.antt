-- Lists that do not run out have room for a span of each line.
use Prim.Native.Nat.{ℕ}
use mathlib.Core.Path.{◌≡◌}
use mathlib.Core.Bool.{false, not}
use mathlib.Core.List.{List}
use native.Mathlib.Omega.{arith}
use lib.ListN.{length}
use lib.Dec.{eqb, ltb}
use borrow.Author.Tests.{eqb-true, ltb-false, not-false}
use Rattle.paths.specs.Map.{SpanLists, Windows}
use Rattle.paths.proofs.Codes.{no_or}
use Rattle.mapfile.specs.Read.{run_out, SpansFit}

pub spans_fit : (ls : List (List ℕ)) (l : SpanLists) (w : Windows) → run_out l w (length ls) ≡ false → SpansFit ls l w
unfolding run_out
spans_fit ls l w e =
    let words = length l.from in
    let last = no_or _ (ltb words (length ls)) e in
    let closes = no_or _ (not (eqb (length w.closes) words)) last.0 in
    let opens = no_or _ (not (eqb (length w.opens) words)) closes.0 in
    let spans = no_or (not (eqb (length l.to) words)) (not (eqb (length l.loss) words)) opens.0 in
    let room = ltb-false words (length ls) last.1 in
    record {
      in_from = room;
      in_to = omega (arith, eqb-true (length l.to) words (not-false _ spans.0));
      in_loss = omega (arith, eqb-true (length l.loss) words (not-false _ spans.1));
      in_opens = omega (arith, eqb-true (length w.opens) words (not-false _ opens.1));
      in_closes = omega (arith, eqb-true (length w.closes) words (not-false _ closes.1));
    }
