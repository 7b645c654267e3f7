-- The check of a kept store says yes exactly of sound words.
use Prim.Native.Nat.{ℕ}
use mathlib.Core.Path.{◌≡◌}
use mathlib.Core.List.{List}
use mathlib.Core.Bool.{true}
use Rattle.rules.specs.Words.{Sound}
use Rattle.soundness.specs.Check.{sound_words}
use Rattle.rules.specs.declared.Layout.TheVariants.{ByItem}
use Rattle.soundness.specs.Theorems.{SoundExact}
use Rattle.soundness.proofs.SoundExact.{sound_exact}

pub accepted_sound : (w : List ℕ) → sound_words w ≡ true → Sound w
unfolding SoundExact
accepted_sound w = (sound_exact ByItem w).0

pub sound_accepted : (w : List ℕ) → Sound w → sound_words w ≡ true
unfolding SoundExact
sound_accepted w = (sound_exact ByItem w).1
