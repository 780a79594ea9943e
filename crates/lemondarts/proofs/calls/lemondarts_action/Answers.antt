-- `lemondarts::calls::lemondarts_action` meets its contract.
use native.Mathlib.Omega.{arith}
use Rattle.view.specs.Steps.{act}
use Rattle.view.specs.Calls.{Calls}
use Rattle.lemondarts.specs.Exports.{short-record}
use Rattle.lemondarts.proofs.Returning.{returned}
use Rattle.lemondarts.proofs.calls.lemondarts_action.Goals as goal

pub returns : goal.returns
returns c =
    let g = c.args in
    returned (λ board. Calls board g.area.now (act c.args.action)) c.if-bytes-lt-RECORD.false c.read_board-board.ensures c.action-acted.ensures c.act_answer.ensures c.write_back.ensures

pub returns-then-bytes-lt-RECORD : goal.returns-then-bytes-lt-RECORD
returns-then-bytes-lt-RECORD c = short-record (λ h. omega arith)
