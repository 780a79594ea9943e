-- `sheet_judge::checks::judge_laid` meets its contract: where every node is read, its parts stand before it.
use Rattle.sheet_judge.specs.Judge.{ReadWithin}
use Rattle.sheet_judge.proofs.Judging.{read-within}
use Rattle.sheet_judge.proofs.checks.judge_laid.Goals as goal

pub judge_used-requires-clause-parts_earlier : goal.judge_used-requires-clause-parts_earlier
judge_used-requires-clause-parts_earlier c =
    let read = c.read_nodes-judged in
    let within : ReadWithin c.args.layout.nodes read.result = rw read.ensures (read-within c.args.bytes.now c.requires) in
    within.parts c.in-Ok.is
