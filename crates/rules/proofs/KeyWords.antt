-- The laws of a key and its word.
use native.Mathlib.Omega.{arith}
use Rattle.rules.specs.Queues.{key_from, key_word}
use Rattle.rules.specs.Theorems.{KeyWords}

pub key_words : KeyWords
unfolding key_from key_word
key_words =
    record {
      key_back = λ a k h. omega arith;
      word_back = λ a w h. omega arith;
      key_fits = λ a w. omega arith;
      word_fits = λ a k. omega arith;
      zero_from = λ w h. omega arith;
      zero_word = λ k h. omega arith;
      wraps = λ a w h k l. omega arith;
      raised = λ a d k. omega arith;
    }
