-- The cut and the cascading cut.
use Rattle.std.specs.Prelude.{ℕ, zero, suc, [], ◌∷◌, ◌++◌, Bool, true, false, cond, eqb}
use Rattle.rules.specs.Lists.{without}
use Rattle.rules.specs.Forests.{
  Forests,
  none,
  row_of,
  children_of,
  parent_of,
  mark_of,
  table_size,
  set_row,
  set_children,
  set_parent,
  set_mark,
}

-- One cut: the tree x leaves its parent, whose rank falls by 1, and goes unmarked to the end of row h.
unfoldable pub cut : ℕ → ℕ → Forests → Forests
cut h x s =
    let p = parent_of s x in
    set_row h (row_of s h ++ (x ∷ [])) (set_mark x 0 (set_parent x none (set_children p (without x (children_of s p)) s)))

-- What a parent that lost a child is.
pub data NodeKind : Type 0 where
  root : NodeKind
  unmarked : NodeKind
  marked : NodeKind

unfoldable pub node_kind : Forests → ℕ → NodeKind
node_kind s p = cond (eqb (parent_of s p) none) root (cond (eqb (mark_of s p) 0) unmarked marked)

-- the cuts made, and the forests they leave
pub record Cuts : Type 0 where
  pub cuts : ℕ
  pub forests : Forests

-- The item p lost a child: a root stays as it is, an unmarked child is marked, a marked one is cut likewise.
-- The first argument bounds the cuts; `CascadeBound` says that it changes nothing.
unfoldable pub cascading_cut : ℕ → NodeKind → ℕ → ℕ → Forests → Cuts
cascading_cut zero st h p s = record { cuts = 0; forests = s }
cascading_cut (suc d) root h p s = record { cuts = 0; forests = s }
cascading_cut (suc d) unmarked h p s = record { cuts = 0; forests = set_mark p 1 s }
cascading_cut (suc d) marked h p s =
    let cut_free = cut h p s in
    let above = parent_of s p in
    let further = cascading_cut d (node_kind cut_free above) h above cut_free in
    record { cuts = suc further.cuts; forests = further.forests }

-- x is cut, and its parent is then treated as one that lost a child.
unfoldable pub cut_within : ℕ → ℕ → ℕ → Forests → Cuts
cut_within d h x s =
    let cut_free = cut h x s in
    let above = parent_of s x in
    let further = cascading_cut d (node_kind cut_free above) h above cut_free in
    record { cuts = suc further.cuts; forests = further.forests }

unfoldable pub cut_out : ℕ → ℕ → Forests → Cuts
cut_out h x s = cut_within (suc (table_size s)) h x s

unfoldable pub cut_if : Bool → ℕ → ℕ → Forests → Cuts
cut_if true h x s = cut_out h x s
cut_if false h x s = record { cuts = 0; forests = s }
