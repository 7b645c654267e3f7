-- A fresh run is a kept run on the empty store.
use Prim.Native.Nat.{ℕ}
use mathlib.Core.Path.{◌≡◌, sym, ap, ◌∙◌}
use lib.ListN.{length, length-replicate}
use Rattle.rules.specs.Queues.{Queues, empty_queues}
use Rattle.rules.specs.Words.{encode, items_in, store_size}
use Rattle.rules.proofs.DecodeEncode.{encode-length}
use Rattle.rules.proofs.SoundWords.{sound_encode}
use Rattle.lines.specs.Parse.{lines_of}
use Rattle.sheet.specs.Runs.{done_run, kept_run}
use Rattle.sheet.specs.Theorems.{FreshIsKept}
use Rattle.sheet.proofs.Limits.{same_limits, within}
use Rattle.sheet.proofs.Queues.{empty_formed}
use Rattle.sheet.proofs.Runs.{fresh_done, kept_encoded}

pub fresh_is_kept : FreshIsKept
fresh_is_kept store sheet out e =
    let n : ℕ = items_in store in
    let k = (within store sheet out e).sized in
    let q : Queues = empty_queues n in
    let W = empty_formed n k.small in
    let l : length (encode q) ≡ length store =
    encode-length q ∙ ap store_size (length-replicate n 0) ∙ sym k.size in
    let r : kept_run (encode q) sheet out ≡ done_run q (lines_of sheet) out =
    kept_encoded q W sheet out (same_limits (encode q) store sheet out l ∙ e) in
    (sound_encode q W, fresh_done store sheet out e ∙ sym r)
