-- Progress in one number of 64 bits: the position, and the words and nodes before it, 16 bits each, lowest first. Above them stands 0, or the number of
-- what was to come where reading is stuck.
-- Assumes nothing.
use Rattle.std.specs.Prelude.{ℕ, zero, suc, ◌*◌}
use Rattle.base.specs.Fields.{field_size, field_in}
use Rattle.grammar.specs.declared.Category.{Category}
use Rattle.grammar.specs.declared.Category.TheVariants.{Text, Watched, Enforced, Formula, Number, End}
use Rattle.parser_state.specs.declared.Progress.{Progress}
use Rattle.parser_state.specs.declared.Progress.TheVariants.{Going, Stuck}

-- One node more, and one mark more.
abbrev pub one_node : ℕ
one_node = field_size * field_size

abbrev pub one_mark : ℕ
one_mark = field_size * one_node

-- The mark of what was to come.
abbrev pub mark_of : Category → ℕ
mark_of Text = 1
mark_of Watched = 2
mark_of Enforced = 3
mark_of Formula = 4
mark_of Number = 5
mark_of End = 6

-- the category of a mark, less one
abbrev pub category_at : ℕ → Category
category_at zero = Text
category_at (suc zero) = Watched
category_at (suc (suc zero)) = Enforced
category_at (suc (suc (suc zero))) = Formula
category_at (suc (suc (suc (suc zero)))) = Number
category_at (suc (suc (suc (suc (suc more))))) = End

abbrev pub by_mark : (mark at words nodes : ℕ) → Progress
by_mark zero at words nodes = Going at words nodes
by_mark (suc mark) at words nodes = Stuck words (category_at mark)

-- The progress that a number stands for.
unfoldable pub progress_of : ℕ → Progress
progress_of n = by_mark (field_in 3 n) (field_in 0 n) (field_in 1 n) (field_in 2 n)
