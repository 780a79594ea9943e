-- The rules of a sheet: those of its nodes over the sets of its formulas.
-- Assumes nothing.
use Rattle.std.specs.Prelude.{List, Option}
use Rattle.syntax.specs.declared.Sheet.{Sheet}
use Rattle.syntax.specs.declared.NodeType.{NodeType}
use Rattle.rules.specs.declared.NodeRule.{NodeRule}
use Rattle.node_rules.specs.FormulaSets.{sets_of}
use Rattle.node_rules.specs.Lowering.{rules_of}

abbrev pub sheet_rules : Sheet → List NodeType → List (Option NodeRule)
sheet_rules sheet types = rules_of sheet.nodes types (sets_of sheet types) sheet.actions sheet.count
