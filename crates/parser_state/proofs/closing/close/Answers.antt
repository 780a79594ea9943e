-- `parser_state::closing::close` meets its contract.
use mathlib.Core.Path.{refl, sym, ap, ◌∙◌}
use native.Mathlib.Omega.{arith}
use Rattle.parser_state.specs.Progress.{nodes_in}
use Rattle.parser_state.proofs.Packing.{low-going, counted-on}
use Rattle.parser_state.proofs.ClosedNodes.{closes-going, closes-still}
use Rattle.parser_state.proofs.closing.close.Goals as goal

pub returns-in_default : goal.returns-in_default
returns-in_default c = closes-still _ _ _ (sym c.unpack.ensures ∙ c.in_default.is) refl refl

pub overflow_add-result : goal.overflow_add-result
overflow_add-result c =
    let u = c in
    omega (arith, low-going u.args.p (omega (arith, u.ranges.p)) (sym u.unpack.ensures ∙ c.in-Going.is))

pub returns : goal.returns
returns c =
    let u = c in
    let e = sym u.unpack.ensures ∙ c.in-Going.is in
    closes-going _ _ _ e (counted-on u.args.p e (omega (arith, u.requires.few-nodes, ap nodes_in e))) (rw c.from.ensures at c.add_node.ensures)
