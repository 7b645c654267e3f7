-- A history whose first run is a fresh one: that of the same kept runs on the empty store.
use Prim.Native.Nat.{ℕ, zero, suc}
use mathlib.Core.Path.{◌≡◌, refl, sym, ap, ◌∙◌}
use mathlib.Core.List.{List, ◌∷◌}
use native.Mathlib.Omega.{arith}
use lib.ListN.{replicate}
use Rattle.rules.specs.Forests.{empty, marks, potential, trees}
use Rattle.rules.specs.Lists.{sum_by}
use Rattle.rules.specs.Queues.{Queues, empty_queues}
use Rattle.rules.specs.Words.{encode, forests_of, items_in}
use Rattle.rules.proofs.SoundWords.{queues_encode}
use Rattle.lines.specs.Parse.{lines_of}
use Rattle.sheet.specs.Histories.{history_lines, lines_if, store_after, written_by}
use Rattle.sheet.specs.Runs.{Run, kept_run, limit_code}
use Rattle.sheet.specs.Theorems.{FreshHistoryAccounted}
use Rattle.sheet.proofs.FreshRuns.{fresh_code}
use Rattle.sheet.proofs.Limits.{within}
use Rattle.sheet.proofs.Queues.{empty_formed}
use Rattle.sheet.proofs.FreshIsKept.{fresh_is_kept}
use Rattle.sheet.proofs.Histories.{history_accounted}

empty-potential : (n : ℕ) → potential (empty n) ≡ 0
unfolding potential trees marks sum_by
empty-potential n = rw (zeros n)
  where
    zeros : (n : ℕ) → sum_by (λ m. m) (replicate n 0) ≡ 0
    zeros zero = refl
    zeros (suc n) = omega (arith, zeros n)

-- a run that is done has the lines of its sheet
done-lines : (code : ℕ) (sheet : List ℕ) → code ≡ 0 → lines_if code sheet ≡ lines_of sheet
unfolding lines_if
done-lines code sheet e = rw e

pub fresh_history_accounted : FreshHistoryAccounted
unfolding history_lines written_by store_after
fresh_history_accounted store first runs e =
    let n : ℕ = items_in store in
    let z : limit_code store first.sheet first.out ≡ 0 = sym (fresh_code store first.sheet first.out) ∙ e in
    let q : Queues = empty_queues n in
    let K = fresh_is_kept store first.sheet first.out z in
    let kept : Run = kept_run (encode q) first.sheet first.out in
    let l : lines_if kept.code first.sheet ≡ lines_of first.sheet =
    rw (← K.1) (done-lines _ first.sheet e) in
    let f : forests_of (encode q) ≡ empty n =
    ap (λ r. r.forests)
    (queues_encode q (empty_formed n (within store first.sheet first.out z).sized.small)) in
    let H = history_accounted (encode q) K.0 (first ∷ runs) in (
      empty-potential n,
      rw (← f, K.1, ← l) H.0,
      λ before rest q. rw (← f, K.1, ← l) (H.1 (first ∷ before) rest (ap (λ r. first ∷ r) q)),
    )
