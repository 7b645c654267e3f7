-- The check says yes of the words of well-formed queues, and of no others.
use mathlib.Core.Path.{◌≡◌, refl, sym, ap, ◌∙◌}
use mathlib.Core.Bool.{Bool, true, false, true≢false}
use Rattle.rules.specs.declared.Layout.TheVariants.{ByItem, ByKind}
use Rattle.rules.specs.Forests.{table_size}
use Rattle.rules.specs.Turn.{turn}
use Rattle.rules.specs.Words.{items_in, is_store, look_in, SoundIn, encode_in, queues_in}
use Rattle.rules.proofs.DecodeEncode.{encode_length}
use Rattle.rules.proofs.Occurs.{and_split}
use Rattle.rules.proofs.Turn.{turn_sound}
use Rattle.store.specs.Says.{Sized}
use Rattle.store.proofs.Sizes.{store_sized, sized_store, sized_items}
use Rattle.soundness.specs.Check.{sound_words, sound_words_in}
use Rattle.soundness.specs.Theorems.{SoundExact, SoundDecoded, RefusedUnsound, EncodedAccepted, TurnChecked}
use Rattle.soundness.proofs.Passed.{passed, passes}
use Rattle.soundness.proofs.PassedQueues.{well_formed_queues}
use Rattle.soundness.proofs.PassedWords.{words}
use Rattle.soundness.proofs.EncodedAccepted.{accepted}

pub sound_decoded : SoundDecoded
unfolding SoundDecoded sound_words_in
sound_decoded o w e =
    let n = items_in w in
    let a = and_split (is_store w) _ e in
    let S : Sized n w = store_sized w a.0 refl in
    let A = passed n (look_in o n w) S.small a.1 in
    record { well_formed = well_formed_queues n (look_in o n w) A; words = words o n w A S.size }

pub encoded_accepted : EncodedAccepted
unfolding EncodedAccepted sound_words_in
encoded_accepted o q W =
    let n = table_size q.forests in
    let S : Sized n (encode_in o q) = record { size = encode_length o q; small = W.forests.disjoint.small } in
    rw (sized_store S, sized_items S) (passes n (look_in o n (encode_in o q)) (accepted o q W))

pub sound_exact : SoundExact
unfolding SoundExact SoundDecoded EncodedAccepted
sound_exact o w = (there, back)
  where
    there : sound_words_in o w ≡ true → SoundIn o w
    there e =
        let d = sound_decoded o w e in
        record { queues = queues_in o w; well_formed = d.well_formed; words = d.words }

    back : SoundIn o w → sound_words_in o w ≡ true
    back S = ap (sound_words_in o) S.words ∙ encoded_accepted o S.queues S.well_formed

pub refused_unsound : RefusedUnsound
unfolding RefusedUnsound EncodedAccepted
refused_unsound o w e q W p = true≢false (sym (ap (sound_words_in o) p ∙ encoded_accepted o q W) ∙ e)

-- two tests that each hold where the other does are one
same_test : (a b : Bool) → (a ≡ true → b ≡ true) → (b ≡ true → a ≡ true) → a ≡ b
same_test true b f g = sym (f refl)
same_test false true f g = g refl
same_test false false f g = refl

pub turn_checked : TurnChecked
unfolding TurnChecked SoundExact
turn_checked w k =
    same_test (sound_words_in ByKind w) (sound_words (turn w))
    (λ e. (sound_exact ByItem (turn w)).1 ((turn_sound.sound w k).0 ((sound_exact ByKind w).0 e)))
    (λ e. (sound_exact ByKind w).1 ((turn_sound.sound w k).1 ((sound_exact ByItem (turn w)).0 e)))
