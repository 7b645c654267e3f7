-- The turn: words in one order say what they said in the other, so calls on both go alike.
use Prim.Native.Nat.{ℕ, ◌<◌}
use mathlib.Core.Path.{◌≡◌, refl, sym, ap, subst, ◌∙◌}
use mathlib.Core.List.{List, [], ◌∷◌}
use mathlib.Core.Bool.{true}
use lib.ListN.{length}
use Rattle.rules.specs.declared.Field.{Field}
use Rattle.rules.specs.declared.Layout.{Layout}
use Rattle.rules.specs.declared.Layout.TheVariants.{ByItem, ByKind}
use Rattle.rules.specs.Lines.{Line}
use Rattle.rules.specs.Answers.{answer, answers, after}
use Rattle.rules.specs.Forests.{table_size}
use Rattle.rules.specs.Queues.{Queues, after_line, after_lines, amount_of, amounts_after}
use Rattle.rules.specs.Theorems.{InRange, AllInRange}
use Rattle.rules.specs.Turn.{
  relaid,
  turn,
  line_on,
  replies_on,
  words_on,
  SameQueues,
  TurnSound,
  TurnEncoded,
  LineTurns,
  LinesTurn,
  TurnsBack,
  LinesOnWords,
}
use Rattle.rules.specs.Words.{
  store_size,
  items_in,
  is_store,
  field_size,
  look_in,
  word,
  words_in,
  encode,
  encode_in,
  queues_in,
  queues_of,
  SoundIn,
}
use Rattle.rules.proofs.KeepsQueues.{keeps_queues}
use Rattle.rules.proofs.Sizes.{items_in_lem, store_size_lem}
use Rattle.rules.proofs.SoundWords.{queues_encode_in, sound_encode_in, sound_queues, sound_words}
use Rattle.rules.proofs.Words.{length-words_in, look-words_in, words_equal}

-- values that agree inside the store have the same words
pub same_words : (o : Layout) (n : ℕ) (u v : Field → ℕ → ℕ) → ((f : Field) (i : ℕ) → i < field_size n f → u f i ≡ v f i)
    → words_in o n u ≡ words_in o n v
same_words o n u v e =
    words_equal o n v (words_in o n u) (length-words_in o n u) (λ f i k. look-words_in o n u f i k ∙ e f i k)

module _ (from to : Layout) where
  pub relaid-length : (w : List ℕ) → length (relaid from to w) ≡ store_size (items_in w)
  unfolding relaid
  relaid-length w = length-words_in to (items_in w) (look_in from (items_in w) w)

  pub relaid-items : (w : List ℕ) → items_in (relaid from to w) ≡ items_in w
  relaid-items w = items_in_lem (relaid from to w) (items_in w) (relaid-length w)

  -- what is stored by an order, relaid to another, is what is stored by that
  relaid_words : (n : ℕ) (v : Field → ℕ → ℕ) → relaid from to (words_in from n v) ≡ words_in to n v
  unfolding relaid
  relaid_words n v =
      ap (λ k. words_in to k (look_in from k (words_in from n v)))
      (items_in_lem (words_in from n v) n (length-words_in from n v))
      ∙ same_words to n (look_in from n (words_in from n v)) v (look-words_in from n v)

  pub relaid_encoded : (q : Queues) → relaid from to (encode_in from q) ≡ encode_in to q
  unfolding encode_in
  relaid_encoded q = relaid_words (table_size q.forests) (word (amount_of q) q.forests)

  -- so sound words become the sound words of the same queues
  pub relaid_sound : (w : List ℕ) → SoundIn from w → relaid from to w ≡ encode_in to (queues_in from w)
  relaid_sound w S = ap (relaid from to) (sound_words w S) ∙ relaid_encoded (queues_in from w)

  pub sound_relaid : (w : List ℕ) → SoundIn from w → SoundIn to (relaid from to w)
  sound_relaid w S = rw (relaid_sound w S) (sound_encode_in to (queues_in from w) (sound_queues w S))

  pub relaid_queues : (w : List ℕ) → SoundIn from w → queues_in to (relaid from to w) ≡ queues_in from w
  relaid_queues w S =
      ap (queues_in to) (relaid_sound w S) ∙ queues_encode_in to (queues_in from w) (sound_queues w S)

-- a store is the words of what is read from it, so relaid twice it is as before
pub relaid_back : (from to : Layout) (w : List ℕ) → is_store w ≡ true → relaid to from (relaid from to w) ≡ w
relaid_back from to w e =
    let n = items_in w in
    let own : w ≡ words_in from n (look_in from n w) =
    words_equal from n (look_in from n w) w (store_size_lem w e).0 (λ f i k. refl) in
    again n own
  where
    again : (n : ℕ) → w ≡ words_in from n (look_in from n w) → relaid to from (relaid from to w) ≡ w
    again n own =
        ap (λ x. relaid to from (relaid from to x)) own
        ∙ ap (relaid to from) (relaid_words from to n (look_in from n w))
        ∙ relaid_words to from n (look_in from n w)
        ∙ sym own

pub same_queues : SameQueues
same_queues = relaid_queues ByKind ByItem

pub turn_encoded : TurnEncoded
turn_encoded = relaid_encoded ByKind ByItem

pub turns_back : TurnsBack
turns_back = record { back = relaid_back ByKind ByItem; forth = relaid_back ByItem ByKind }

pub turn_sound : TurnSound
turn_sound =
    record {
      words = relaid_sound ByKind ByItem;
      sound = λ w e. (
        sound_relaid ByKind ByItem w,
        λ S. subst (SoundIn ByKind) (relaid_back ByKind ByItem w e) (sound_relaid ByItem ByKind (turn w) S),
      );
    }

-- ---- lines

pub line_turns : LineTurns
line_turns w S l = λ i.
    record {
      reply = (answer (same i).forests l).reply;
      words = (ap (λ q. encode (after_line q l)) same ∙ sym (turn_encoded (after_line (queues_in ByKind w) l))) i;
    }
  where
    same : queues_of (turn w) ≡ queues_in ByKind w
    same = same_queues w S

-- a line leaves sound words, in either order
pub line_sound : (o : Layout) (w : List ℕ) → SoundIn o w → (l : Line) → InRange l → SoundIn o (line_on o w l).words
line_sound o w S l k =
    sound_encode_in o (after_line (queues_in o w) l) (keeps_queues (queues_in o w) (sound_queues w S) l k)

-- the queues that a line's words stand for
line_queues : (o : Layout) (w : List ℕ) → SoundIn o w → (l : Line) → InRange l
    → queues_in o (line_on o w l).words ≡ after_line (queues_in o w) l
line_queues o w S l k =
    queues_encode_in o (after_line (queues_in o w) l) (keeps_queues (queues_in o w) (sound_queues w S) l k)

replies_on_lem : (o : Layout) (w : List ℕ) → SoundIn o w → (ls : List Line) → AllInRange ls
    → replies_on o w ls ≡ answers (queues_in o w).forests ls
unfolding replies_on answers
replies_on_lem o w S [] k = refl
replies_on_lem o w S (l ∷ ls) k =
    let r = (line_on o w l).reply in
    ap (λ rs. r ∷ rs)
    (replies_on_lem o (line_on o w l).words (line_sound o w S l k.0) ls k.1
    ∙ ap (λ q. answers q.forests ls) (line_queues o w S l k.0))

words_on_lem : (o : Layout) (w : List ℕ) → SoundIn o w → (ls : List Line) → AllInRange ls
    → words_on o w ls ≡ encode_in o (after_lines (queues_in o w) ls)
unfolding words_on after amounts_after
words_on_lem o w S [] k = sound_words w S
words_on_lem o w S (l ∷ ls) k =
    words_on_lem o (line_on o w l).words (line_sound o w S l k.0) ls k.1
    ∙ ap (λ q. encode_in o (after_lines q ls)) (line_queues o w S l k.0)

pub lines_on_words : LinesOnWords
lines_on_words = record { replies = replies_on_lem; words = words_on_lem }

replies_turn : (w : List ℕ) → SoundIn ByKind w → (ls : List Line) → AllInRange ls
    → replies_on ByItem (turn w) ls ≡ replies_on ByKind w ls
unfolding replies_on
replies_turn w S [] k = refl
replies_turn w S (l ∷ ls) k =
    let e = line_turns w S l in
    let old = (line_on ByKind w l).words in
    ap (λ d. d.reply ∷ replies_on ByItem d.words ls) e
    ∙ ap (λ r. (line_on ByKind w l).reply ∷ r) (replies_turn old (line_sound ByKind w S l k.0) ls k.1)

words_turn : (w : List ℕ) → SoundIn ByKind w → (ls : List Line) → AllInRange ls
    → words_on ByItem (turn w) ls ≡ turn (words_on ByKind w ls)
unfolding words_on
words_turn w S [] k = refl
words_turn w S (l ∷ ls) k =
    let e = line_turns w S l in
    let old = (line_on ByKind w l).words in
    ap (λ d. words_on ByItem d.words ls) e ∙ words_turn old (line_sound ByKind w S l k.0) ls k.1

pub lines_turn : LinesTurn
lines_turn w S ls k = λ i. record { replies = replies_turn w S ls k i; words = words_turn w S ls k i }
