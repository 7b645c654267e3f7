-- Sound words and the queues they stand for determine each other.
use Prim.Native.Nat.{ℕ}
use mathlib.Core.Path.{◌≡◌, refl, sym, ap, ◌∙◌}
use mathlib.Core.List.{List}
use Rattle.rules.specs.declared.Layout.{Layout}
use Rattle.rules.specs.declared.Layout.TheVariants.{ByItem}
use Rattle.rules.specs.Forests.{table_size}
use Rattle.rules.specs.Queues.{Queues}
use Rattle.rules.specs.WellFormed.{WellFormed, WellFormedQueues}
use Rattle.rules.specs.Words.{Sound, SoundIn, decode, encode, encode_in, look_in, queues_in, queues_of, items_in}
use Rattle.rules.proofs.DecodeEncode.{decode_encode, encode_length}
use Rattle.rules.proofs.Sizes.{items_in_lem}

module _ (o : Layout) where
  pub items-encode_in : (q : Queues) → items_in (encode_in o q) ≡ table_size q.forests
  items-encode_in q = items_in_lem (encode_in o q) (table_size q.forests) (encode_length o q)

  -- the words of well-formed queues are theirs again
  pub queues_encode_in : (q : Queues) → WellFormedQueues q → queues_in o (encode_in o q) ≡ q
  queues_encode_in q W = ap (λ n. decode n (look_in o n (encode_in o q))) (items-encode_in q) ∙ decode_encode o q W

  pub sound_encode_in : (q : Queues) → WellFormedQueues q → SoundIn o (encode_in o q)
  sound_encode_in q W = record { queues = q; well_formed = W; words = refl }

module _ {o : Layout} (w : List ℕ) (S : SoundIn o w) where
  same_queues : queues_in o w ≡ S.queues
  same_queues = ap (queues_in o) S.words ∙ queues_encode_in o S.queues S.well_formed

  -- of sound words the queues are well-formed, and the words are theirs
  pub sound_queues : WellFormedQueues (queues_in o w)
  sound_queues = rw same_queues S.well_formed

  pub sound_forests : WellFormed (queues_in o w).forests
  sound_forests = sound_queues.forests

  pub sound_words : w ≡ encode_in o (queues_in o w)
  sound_words = S.words ∙ ap (encode_in o) (sym same_queues)

-- the same of the order in use
pub items-encode : (q : Queues) → items_in (encode q) ≡ table_size q.forests
items-encode = items-encode_in ByItem

pub queues_encode : (q : Queues) → WellFormedQueues q → queues_of (encode q) ≡ q
queues_encode = queues_encode_in ByItem

pub sound_encode : (q : Queues) → WellFormedQueues q → Sound (encode q)
sound_encode = sound_encode_in ByItem
