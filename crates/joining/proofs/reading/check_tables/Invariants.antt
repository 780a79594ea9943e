-- `joining::reading::check_tables` meets its contract. The loop's invariant: the tables so far are fit, and what stands behind them begins at `at`.
use Rattle.joining.specs.Reading.{AllFit}
use Rattle.joining.proofs.reading.check_tables.Given as goal

abbrev pub invariant-loop : goal.invariant-loop
invariant-loop l = AllFit l.counter l.tables l.at
