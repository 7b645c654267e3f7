-- `store::is_store` meets its contract.
use borrow.Author.Tests.{lt-leb}
use mathlib.Core.Path.{◌∙◌}
use Rattle.store.proofs.Sizes.{too_many, size_tested}
use Rattle.store.proofs.is_store.Goals as goal

pub returns-then-n-le-MOST_ITEMS : goal.returns-then-n-le-MOST_ITEMS
returns-then-n-le-MOST_ITEMS c =
    size_tested _ c.items_of-n.ensures c.if-n-le-MOST_ITEMS.true c.size_for.ensures

pub returns-else-n-le-MOST_ITEMS : goal.returns-else-n-le-MOST_ITEMS
returns-else-n-le-MOST_ITEMS c =
    lt-leb _ _ c.if-n-le-MOST_ITEMS.false ∙ too_many _ c.items_of-n.ensures c.if-n-le-MOST_ITEMS.false
