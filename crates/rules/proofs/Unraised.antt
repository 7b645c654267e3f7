-- Lines without A keep all amounts 0, so the words after them are again the base's with zeros.
use Prim.Native.Nat.{ℕ}
use mathlib.Core.Path.{◌≡◌, refl, sym, ap, ◌∙◌}
use mathlib.Core.List.{List, [], ◌∷◌}
use mathlib.Core.Bool.{Bool, true, false, cond, true≢false}
use lib.ListN.{set, replicate}
use lib.Seq.{set-get_or}
use lib.Dec.{eqb}
use Rattle.rules.specs.declared.Call.{Call}
use Rattle.rules.specs.declared.Call.TheVariants.{DecreaseKey, Delete, ExtractMin, FindMin, Insert, Meld, Raise}
use Rattle.rules.specs.declared.Layout.TheVariants.{ByKind}
use Rattle.rules.specs.Lines.{Line}
use Rattle.std.specs.Prelude.{Some, None}
use Rattle.rules.specs.Answers.{after, answer, refusal}
use Rattle.rules.specs.Forests.{Forests, count, heap_number}
use Rattle.rules.specs.Queues.{amounts_after, amounts_after_call, amounts_after_line, amounts_left}
use Rattle.rules.specs.Unraised.{KeepsUnraised, UnraisedRun, WithoutRaise, is_raise}
use Rattle.rules.specs.Words.{encode_in}
use Rattle.rules.proofs.Answers.{after_well_formed}
use Rattle.rules.proofs.UnraisedWords.{unraised_words, zero_at}

abbrev zeros : List ℕ
zeros = replicate 8 0

set_zero : (h : ℕ) → set zeros h 0 ≡ zeros
set_zero h = ap (set zeros h) (sym (zero_at 8 h)) ∙ set-get_or zeros h 0

left_zero : (s : Forests) (h : ℕ) → amounts_left s h zeros ≡ zeros
unfolding amounts_left
left_zero s h = go (eqb (count s h) 1)
  where
    go : (b : Bool) → cond b (set zeros h 0) zeros ≡ zeros
    go true = set_zero h
    go false = refl

line_zero : (s : Forests) (l : Line) → is_raise l ≡ false → amounts_after_line s l zeros ≡ zeros
unfolding amounts_after_line amounts_after_call is_raise
line_zero s None e = refl
line_zero s (Some c) e = go (eqb (refusal s c) 0) (call c e)
  where
    call : (c : Call) → is_raise (Some c) ≡ false → amounts_after_call s c zeros ≡ zeros
    call (Insert h i k) e = refl
    call (FindMin h) e = refl
    call (ExtractMin h) e = left_zero s h
    call (DecreaseKey i k) e = refl
    call (Delete i) e = left_zero s (heap_number s i)
    call (Meld a b) e = set_zero b
    call (Raise h d) e = absurd (true≢false e)

    go : (b : Bool) → amounts_after_call s c zeros ≡ zeros → cond b (amounts_after_call s c zeros) zeros ≡ zeros
    go true q = q
    go false q = refl

lines_zero : (s : Forests) (ls : List Line) → WithoutRaise ls → amounts_after s ls zeros ≡ zeros
unfolding amounts_after
lines_zero s [] r = refl
lines_zero s (l ∷ ls) r =
    ap (amounts_after (answer s l).next ls) (line_zero s l r.0) ∙ lines_zero (answer s l).next ls r.1

pub keeps_unraised : KeepsUnraised
keeps_unraised s ls r = ap (λ l. record { forests = after s ls; amounts = l }) (lines_zero s ls r)

pub unraised_run : UnraisedRun
unraised_run s W ls f r =
    ap (encode_in ByKind) (keeps_unraised s ls r) ∙ unraised_words.words (after s ls) (after_well_formed s W ls f)
