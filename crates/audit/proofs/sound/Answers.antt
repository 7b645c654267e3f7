-- `audit::sound` meets its contract.
use mathlib.Core.Path.{sym, ◌∙◌}
use Rattle.store.proofs.Sizes.{store_sized}
use Rattle.audit.proofs.Results.{word_most, sound_wrong, sound_all}
use Rattle.audit.proofs.sound.Goals as goal

pub returns-then-not-is_store : goal.returns-then-not-is_store
returns-then-not-is_store c = sound_wrong _ _ (sym c.is_store.ensures ∙ c.if-not-is_store.true)

pub invariant_of-all_ok : goal.invariant_of-all_ok
invariant_of-all_ok c =
    record {
      sized = store_sized _ (sym c.is_store.ensures ∙ c.if-not-is_store.false) c.items_of.ensures;
      fits = λ f i. word_most (c.type_inv.store _);
    }

pub returns : goal.returns
returns c =
    c.all_ok.ensures
    ∙ sound_all _ _ (sym c.is_store.ensures ∙ c.if-not-is_store.false) _ c.items_of.ensures
