-- `naive_texts::language::parts_of` meets its contract. At most one part is counted in each place.
use Rattle.std.proofs.Common.{◌≤◌}
use Rattle.naive_texts.proofs.language.parts_of.Given as goal

abbrev pub invariant-loop-i : goal.invariant-loop-i
invariant-loop-i l = l.parts ≤ l.i
