-- `action_lists::actions::is_doubled` meets its contract.
use Rattle.std.proofs.Common.{refl, sym, ◌∙◌}
use Rattle.action_lists.proofs.Naming.{doubled-by}
use Rattle.action_lists.proofs.actions.is_doubled.Goals as goal

pub returns-then-is_name : goal.returns-then-is_name
returns-then-is_name c = doubled-by _ _ _ c.name_of-name.ensures (sym c.if-is_name.true ∙ c.is_name.ensures) c.action_named.ensures

pub returns-else-is_name : goal.returns-else-is_name
returns-else-is_name c = c.if-is_name.false ∙ doubled-by _ _ _ c.name_of-name.ensures (sym c.if-is_name.false ∙ c.is_name.ensures) refl
