-- The search finds the feed table, and a map has one.
use Prim.Native.Nat.{ℕ, ◌<◌}
use mathlib.Core.Path.{◌≡◌, sym, ◌∙◌}
use mathlib.Core.List.{[], ◌∷◌}
use native.Mathlib.Omega.{arith}
use lib.ListN.{get_or}
use lib.Seq.{ext_get_or}
use Rattle.rules.specs.Forests.{none}
use Rattle.paths.specs.Map.{Map, Accepted}
use Rattle.paths.specs.Table.{
  Limit,
  unlimited,
  Reached,
  Entry,
  at_start,
  reached,
  unreached,
}
use Rattle.paths.specs.Search.{Search, never, beyond, find, shown_best, shown_last, shown_joints}
use Rattle.paths.specs.Theorems.{FinderTable, TableUnique, NoneUnreached}
use Rattle.paths.proofs.Waiting.{halts_empty}
use Rattle.paths.proofs.Hiding.{length_hide, hide_at}
use Rattle.paths.proofs.Least.{start_within, least_same}
use Rattle.paths.proofs.Chains.{entry_shown, leads_settled, met_small}
use Rattle.paths.proofs.Steps.{search_halts_lem, search_between}
use Rattle.paths.proofs.Halting.{search_halted}

-- in the end of a full search no place waits
pub none_waits : (m : Map) → Accepted m → (q : ℕ) → get_or (find unlimited m).queue.waits q 0 ≡ 0
none_waits m A = halts_empty (find unlimited m).queue (search_halts_lem never m A)

pub finder_table : FinderTable
finder_table limit m A =
    let B = search_between (beyond limit) m A in
    let I = B.invariant in
    let s : Search = find limit m in
    record {
      best_n = length_hide s.queue.waits s.best ∙ I.best_n;
      last_n = length_hide s.queue.waits s.last ∙ I.last_n;
      joints_n = length_hide s.queue.waits s.joints ∙ I.joints_n;
      entries =
          λ p _.
          entry_shown m A B.last_taken B.reach s.queue.waits s.queue.key s.best s.last s.joints I
          limit (search_halted limit m A) p;
    }

-- what is shown at a place is settled
module _ (m : Map) (p l e h l' e' h' : ℕ) where
  pub reached_one : Reached m p l e h → Reached m p l' e' h' → (l ≡ l') × (e ≡ e') × (h ≡ h')
  reached_one R S =
      let same = least_same m p (e ∷ R.before) (e' ∷ S.before) R.least S.least in (
        omega (arith, R.loss, S.loss, same.0),
        omega (arith, R.lowest e' S.before S.least, S.lowest e R.before R.least),
        omega (arith, R.count, S.count, same.1),
      )

  -- a chain that is shown is within the limit: so no entry is both reached and not
  entry_one : (limit : Limit) → Entry limit m p l e h → Entry limit m p l' e' h' → (l ≡ l') × (e ≡ e') × (h ≡ h')
  entry_one limit (at_start a b c d) (at_start a' b' c' d') = (b ∙ sym b', c ∙ sym c', d ∙ sym d')
  entry_one limit (at_start a b c d) (reached n R i) = absurd (n a)
  entry_one limit (at_start a b c d) (unreached f x y z) = absurd (f [] a (start_within limit m))
  entry_one limit (reached n R i) (at_start a b c d) = absurd (n a)
  entry_one limit (reached n R i) (reached n' S j) = reached_one R S
  entry_one limit (reached n R i) (unreached f x y z) =
      absurd (f (e ∷ R.before) R.least.leads (rw R.loss i))
  entry_one limit (unreached f x y z) (at_start a b c d) = absurd (f [] a (start_within limit m))
  entry_one limit (unreached f x y z) (reached n S i) =
      absurd (f (e' ∷ S.before) S.least.leads (rw S.loss i))
  entry_one limit (unreached f x y z) (unreached f' x' y' z') = (x ∙ sym x', y ∙ sym y', z ∙ sym z')

pub table_unique : TableUnique
table_unique limit m best last joints best' last' joints' T S =
    let one : (p : ℕ) → p < m.places
    → (get_or best p none ≡ get_or best' p none) × (get_or last p none ≡ get_or last' p none)
    × (get_or joints p none ≡ get_or joints' p none) =
    λ p k. entry_one m p _ _ _ _ _ _ limit (T.entries p k) (S.entries p k) in (
      ext_get_or none best best' (T.best_n ∙ sym S.best_n) (λ p k. (one p (omega (arith, k, T.best_n))).0),
      ext_get_or none last last' (T.last_n ∙ sym S.last_n) (λ p k. (one p (omega (arith, k, T.last_n))).1),
      ext_get_or none joints joints' (T.joints_n ∙ sym S.joints_n) (λ p k. (one p (omega (arith, k, T.joints_n))).2),
    )

pub none_unreached : NoneUnreached
none_unreached limit m A best last joints T p c h i =
    let B = search_between (beyond limit) m A in
    let s : Search = find limit m in
    let U =
    table_unique limit m best last joints (shown_best s) (shown_last s) (shown_joints s) T (finder_table limit m A) in
    let n =
    leads_settled m A B.last_taken B.reach s.queue.waits s.queue.key s.best s.last s.joints
    B.invariant limit (search_halted limit m A) p c h i in
    rw (U.0, hide_at s.queue.waits s.best p, n.0)
    (omega (
      arith,
      met_small m A B.last_taken B.reach s.queue.waits s.queue.key s.best s.last s.joints
          B.invariant p n.1,
    ))
