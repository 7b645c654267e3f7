-- The result lists and the store as the code is lent them.
use Rattle.std.specs.Prelude.{◌≡◌, length}
use Rattle.paths.specs.Feed.{ResultLists, result_lists}
use Rattle.relax.specs.declared.Table.{Table}

abbrev pub lists_of : Table → ResultLists
lists_of t = result_lists t.best.now t.last.now t.joints.now t.store.now

-- The words of the lists may be others, the lists are the same.
pub record SameLists (t t' : Table) : Type 0 where
  pub best : t'.best.ghost_name ≡ t.best.ghost_name
  pub last : t'.last.ghost_name ≡ t.last.ghost_name
  pub joints : t'.joints.ghost_name ≡ t.joints.ghost_name
  pub store : t'.store.ghost_name ≡ t.store.ghost_name

-- Each list has as many words as before.
pub record SameLengths (t t' : Table) : Type 0 where
  pub best : length t'.best.now ≡ length t.best.now
  pub last : length t'.last.now ≡ length t.last.now
  pub joints : length t'.joints.now ≡ length t.joints.now
  pub store : length t'.store.now ≡ length t.store.now
