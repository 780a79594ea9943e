-- The kinds of nodes and their numbers (docs/FORMATS.md, "The rule sheet"); and the five fields of a node.
-- Assumes nothing.
use Rattle.std.specs.Prelude.{ℕ}
use Rattle.sheet_writer.specs.declared.Kind.{Kind}
use Rattle.sheet_writer.specs.declared.Kind.TheVariants.{True, False, Proposition, Negation, Conjunction, Disjunction, Now, Holds, Count, Not, And, Or, Eventually, Always, BeforeMinus, BeforePlus, AfterMinus, AfterPlus, Fulfilling, Ignoring}
use Rattle.sheet_writer.specs.declared.Fields.{Fields}

abbrev pub kind_number : Kind → ℕ
kind_number True = 1
kind_number False = 2
kind_number Proposition = 3
kind_number Negation = 4
kind_number Conjunction = 5
kind_number Disjunction = 6
kind_number Now = 10
kind_number Holds = 11
kind_number Count = 12
kind_number Not = 13
kind_number And = 14
kind_number Or = 15
kind_number Eventually = 16
kind_number Always = 17
kind_number BeforeMinus = 18
kind_number BeforePlus = 19
kind_number AfterMinus = 20
kind_number AfterPlus = 21
kind_number Fulfilling = 22
kind_number Ignoring = 23

-- Kind, argument, parts a, b and c.
abbrev pub FiveFields : Type 0
FiveFields = ℕ × ℕ × ℕ × ℕ × ℕ

abbrev pub five_fields : Fields → FiveFields
five_fields fields = (fields.kind, fields.argument, fields.a, fields.b, fields.c)
