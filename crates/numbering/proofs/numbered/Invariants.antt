-- `numbering::numbered` meets its contract: the scan of proofs/Scan.antt.
use Rattle.numbering.proofs.Scan.{Scanned}
use Rattle.numbering.proofs.numbered.Given as goal

abbrev pub invariant-loop-k : goal.invariant-loop-k
invariant-loop-k l = Scanned l.rows l.actions l.met l.k l.entries
