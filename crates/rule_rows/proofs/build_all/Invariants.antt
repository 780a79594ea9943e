-- `rule_rows::build_all` meets its contract. The loop's invariant: the rules of the nodes so far are built.
use Rattle.rule_rows.specs.Lists.{BuiltTo, LastRows}
use Rattle.rule_rows.proofs.build_all.Given as goal

abbrev pub invariant-loop-node : goal.invariant-loop-node
invariant-loop-node l = BuiltTo l.rules l.actions l.limits l.node l.work × LastRows l.rules l.actions l.limits l.node l.last l.work
