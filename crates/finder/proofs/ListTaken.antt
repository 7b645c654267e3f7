-- The place list of a search by code: each place is written after those before it, as it is taken.
use Prim.Native.Nat.{ℕ, suc, ◌≤◌, ◌<◌}
use mathlib.Core.Path.{◌≡◌, sym, ap, ◌∙◌}
use mathlib.Core.List.{List, [], ◌∷◌, ◌++◌}
use native.Mathlib.Numerals.{add-one}
use native.Mathlib.Omega.{arith}
use lib.ListN.{length, get_or, set, drop, length-append}
use lib.Seq.{drop-cons, set_at, append_snoc}
use Rattle.paths.specs.Map.{Map}
use Rattle.paths.specs.Table.{up_to}
use Rattle.paths.specs.Queue.{Stop, halts, takes, next}
use Rattle.paths.specs.Search.{steps, beyond, takings}
use Rattle.paths.specs.Feed.{ResultLists, overwrite}
use Rattle.paths.proofs.Takings.{takings_more, takings_all}
use Rattle.relax.specs.declared.Progress.{Progress}
use Rattle.finder.specs.SearchState.{Stands, Visits, ListReady, FoundListed}
use Rattle.finder.proofs.Searching.{stands_found}

-- one word more is written over the first of a list
overwrite_more : (lent words : List ℕ) (n u : ℕ) → length words ≡ n → n < length lent
    → set (overwrite lent words) n u ≡ overwrite lent (words ++ (u ∷ []))
overwrite_more lent words n u e h =
    let last = drop (suc n) lent in
    rw (e, drop-cons lent n 0 h)
    (set_at words (get_or lent n 0) last u n e ∙ sym (append_snoc words u last)
    ∙ rw (length-append words (u ∷ []), e, add-one))

-- The places taken, as many as were visited, are written over the first words of the list that was lent.
pub record ListsTaken (stop : Stop) (m : Map) (lent : List ℕ) (l : ResultLists) (listed : List ℕ) (go : Progress)
    : Type 0 where
  pub stands : Stands stop m l go
  pub room : m.places ≤ length lent
  pub number_is : length (takings stop m go.visited) ≡ go.visited
  pub listed_is : listed ≡ overwrite lent (takings stop m go.visited)

pub lists_begins : (budget : ℕ) {m : Map} {l : ResultLists} {listed : List ℕ} {go : Progress}
    → ListReady budget m l listed go → ListsTaken (beyond (up_to budget)) m listed l listed go
unfolding takings
lists_begins budget R =
    record {
      stands = R.stands;
      room = R.room;
      number_is = rw R.none_visited;
      listed_is = rw R.none_visited;
    }

-- the place that comes next is listed and visited
pub lists_more : {stop : Stop} {m : Map} {lent : List ℕ} {l : ResultLists} {listed : List ℕ} {go : Progress}
    → ListsTaken stop m lent l listed go → {u : ℕ} → next stop (steps stop m go.visited).queue ≡ takes u
    → go.visited < m.places → {l' : ResultLists} {r : Progress} → Visits stop m go l' r
    → ListsTaken stop m lent l' (set listed go.visited u) r
lists_more {stop} {m} {lent} {l} {listed} {go} L {u} n h {l'} {r} X =
    let places = takings stop m go.visited in
    let more : takings stop m r.visited ≡ places ++ (u ∷ []) =
    ap (takings stop m) (X.one_more ∙ add-one go.visited) ∙ takings_more stop m go.visited u n in
    record {
      stands = X.stands;
      room = L.room;
      number_is = ap length more ∙ length-append places (u ∷ []) ∙ omega (arith, L.number_is, X.one_more);
      listed_is =
          rw (L.listed_is, more) (overwrite_more lent places go.visited u L.number_is (omega (arith, L.room)));
    }

-- nothing is left to take
pub lists_done : (budget : ℕ) {m : Map} {lent : List ℕ} {l : ResultLists} {listed : List ℕ} {go : Progress}
    → ListsTaken (beyond (up_to budget)) m lent l listed go
    → next (beyond (up_to budget)) (steps (beyond (up_to budget)) m go.visited).queue ≡ halts
    → FoundListed budget m lent l listed go
lists_done budget {m} {lent} {l} {listed} {go} L n =
    let all = takings_all (beyond (up_to budget)) m go.visited L.stands.few n in
    record {
      found = stands_found L.stands n;
      number_is = rw all (sym L.number_is);
      listed_is = rw all L.listed_is;
    }
