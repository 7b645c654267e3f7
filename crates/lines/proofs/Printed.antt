-- The printed answers: each takes at most 32 bytes, and those of two lists follow each other.
use Prim.Native.Nat.{◌*◌, ◌<◌, ◌≤◌, zero-le}
use mathlib.Core.Path.{◌≡◌, refl}
use mathlib.Core.List.{List, [], ◌∷◌, ◌++◌, append_assoc}
use native.Mathlib.Omega.{arith}
use lib.ListN.{length, length-append}
use Rattle.rules.specs.Lines.{Line}
use Rattle.rules.specs.declared.Answer.{Answer}
use Rattle.rules.specs.Answers.{after, answer, answers}
use Rattle.rules.specs.Forests.{Forests}
use Rattle.rules.specs.WellFormed.{WellFormed}
use Rattle.rules.proofs.Answers.{AllInRange, answers-append}
use Rattle.rules.proofs.KeepsWellFormed.{keeps_well_formed}
use Rattle.rules.proofs.ReplyBounds.{Small, answer-small}
use Rattle.text.proofs.Decimal.{decimal_short}
use Rattle.text.proofs.Row.{length-row}
use Rattle.lines.specs.Print.{answer_row, printed}

-- numbers of at most 2, 4, 10, 5 and 5 digits
pub record Short (a : Answer) : Type 0 where
  pub code : a.code < 100
  pub item : a.item < 10000
  pub key : a.key < 10000000000
  pub links : a.links < 100000
  pub cuts : a.cuts < 100000

pub small_short : {a : Answer} → Small a → Short a
small_short S =
    record {
      code = omega (arith, S.code);
      item = omega (arith, S.item);
      key = omega (arith, S.key);
      links = omega (arith, S.moves);
      cuts = omega (arith, S.moves);
    }

pub row_32 : (a : Answer) → Short a → length (answer_row a) ≤ 32
unfolding answer_row
row_32 a S =
    omega (
      arith,
      length-row (a.code ∷ a.item ∷ a.key ∷ a.links ∷ a.cuts ∷ []),
      decimal_short 1 a.code (omega (arith, S.code)),
      decimal_short 3 a.item (omega (arith, S.item)),
      decimal_short 9 a.key (omega (arith, S.key)),
      decimal_short 4 a.links (omega (arith, S.links)),
      decimal_short 4 a.cuts (omega (arith, S.cuts)),
    )

printed-append : (a b : List Answer) → printed (a ++ b) ≡ printed a ++ printed b
unfolding printed
printed-append [] b = refl
printed-append (x ∷ a) b = rw (printed-append a b, append_assoc)

-- the answers of a list fit into 32 bytes for each line
pub printed_32 : (s : Forests) → WellFormed s → (ls : List Line) → AllInRange ls
    → length (printed (answers s ls)) ≤ 32 * length ls
unfolding printed answers
printed_32 s W [] r = zero-le
printed_32 s W (l ∷ ls) r =
    omega (
      arith,
      length-append (answer_row (answer s l).reply) (printed (answers (answer s l).next ls)),
      row_32 (answer s l).reply (small_short (answer-small s W l r.0)),
      printed_32 (answer s l).next (keeps_well_formed s W l r.0) ls r.1,
    )

pub printed-after : (s : Forests) (a b : List Line)
    → printed (answers s (a ++ b)) ≡ printed (answers s a) ++ printed (answers (after s a) b)
printed-after s a b = rw (answers-append s a b) (printed-append (answers s a) (answers (after s a) b))
