-- `joining::reading::lay_out` meets its contract. The loop's invariant: the tables before i have the actions of the first and stand in their
-- slots, and what is behind them begins at `at`.
use Rattle.joining.specs.Reading.{AllFit}
use Rattle.joining.proofs.Laying.{Laying}
use Rattle.joining.proofs.reading.lay_out.Given as goal

abbrev pub invariant-loop-i : goal.invariant-loop-i
invariant-loop-i l = AllFit l.i l.tables l.at × Laying l.tables l.actions l.i l.work
