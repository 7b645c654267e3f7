-- The whole result of a feed call on any input: what it answers, and each word that it leaves.
use Rattle.std.specs.Prelude.{ℕ, zero, suc, List, ◌++◌, length, drop}
use Rattle.rules.specs.Lines.{Line}
use Rattle.rules.specs.Lists.{sum_by}
use Rattle.rules.specs.Forests.{empty}
use Rattle.rules.specs.Answers.{answers}
use Rattle.rules.specs.Queues.{empty_queues}
use Rattle.rules.specs.Words.{encode}
use Rattle.paths.specs.Map.{Map}
use Rattle.paths.specs.Table.{Limit, unlimited, up_to, leaving_reached}
use Rattle.paths.specs.Search.{find, shown_best, shown_last, shown_joints, places_taken}
use Rattle.paths.specs.Codes.{feed_code}

-- the links and cuts that a list of calls answers on empty queues for n items
unfoldable pub links_of : ℕ → List Line → ℕ
links_of n calls = sum_by (λ a. a.links) (answers (empty n) calls)

unfoldable pub cuts_of : ℕ → List Line → ℕ
cuts_of n calls = sum_by (λ a. a.cuts) (answers (empty n) calls)

-- what a feed call is lent and writes: the table's losses, its spans, its numbers of spans, and a store
pub record ResultLists : Type 0 where
  pub best : List ℕ
  pub last : List ℕ
  pub joints : List ℕ
  pub store : List ℕ

abbrev pub result_lists : List ℕ → List ℕ → List ℕ → List ℕ → ResultLists
result_lists best last joints store = record { best = best; last = last; joints = joints; store = store }

-- the four numbers of the answer, and the lists as they are left
pub record Feed : Type 0 where
  pub code : ℕ
  pub links : ℕ
  pub cuts : ℕ
  pub examined : ℕ
  pub left : ResultLists

-- A refusal gives its code and three zeros, and changes nothing. A call that is done leaves the store empty; the spans
-- examined are those that leave a place of its table.
unfoldable pub feed_as : ℕ → Limit → Map → ResultLists → Feed
feed_as zero limit m lent =
    let s = find limit m in
    record {
      code = 0;
      links = links_of m.places s.calls;
      cuts = cuts_of m.places s.calls;
      examined = leaving_reached m (shown_best s);
      left = result_lists (shown_best s) (shown_last s) (shown_joints s) (encode (empty_queues m.places));
    }
feed_as (suc code) limit m lent = record { code = suc code; links = 0; cuts = 0; examined = 0; left = lent }

abbrev pub code_for : Map → ResultLists → ℕ → ℕ
code_for m lent listed_n =
    feed_code m (length lent.best) (length lent.last) (length lent.joints) listed_n (length lent.store)

-- The full feed call is lent no place list, so 22 finds nothing: it is as if one were lent that is long enough.
unfoldable pub feed_result : Map → ResultLists → Feed
feed_result m lent = feed_as (code_for m lent m.places) unlimited m lent

-- ---- with a budget

-- a feed call's answer and lists, and beside them how many places are listed, and the place list as it is left
pub record BudgetFeed : Type 0 where
  pub feed : Feed
  pub number : ℕ
  pub listed : List ℕ

-- words written over the first of a list
abbrev pub overwrite : List ℕ → List ℕ → List ℕ
overwrite listed words = words ++ drop (length words) listed

unfoldable pub budget_as : ℕ → ℕ → Map → ResultLists → List ℕ → BudgetFeed
budget_as zero budget m lent listed =
    let places = places_taken (up_to budget) m in
    record { feed = feed_as zero (up_to budget) m lent; number = length places; listed = overwrite listed places }
budget_as (suc code) budget m lent listed =
    record { feed = feed_as (suc code) (up_to budget) m lent; number = 0; listed = listed }

unfoldable pub budget_result : ℕ → Map → ResultLists → List ℕ → BudgetFeed
budget_result budget m lent listed = budget_as (code_for m lent (length listed)) budget m lent listed
