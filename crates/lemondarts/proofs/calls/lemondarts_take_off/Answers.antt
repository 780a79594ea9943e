-- `lemondarts::calls::lemondarts_take_off` meets its contract.
use native.Mathlib.Omega.{arith}
use Rattle.view.specs.Steps.{take-off}
use Rattle.view.specs.Calls.{Calls}
use Rattle.lemondarts.specs.Exports.{short-record}
use Rattle.lemondarts.proofs.Returning.{returned}
use Rattle.lemondarts.proofs.calls.lemondarts_take_off.Goals as goal

pub returns : goal.returns
returns c =
    let g = c.args in
    returned (λ board. Calls board g.area.now (take-off g.place)) c.if-bytes-lt-RECORD.false c.read_board-board.ensures c.take_off-taken.ensures
    c.take_answer.ensures c.write_back.ensures

pub returns-then-bytes-lt-RECORD : goal.returns-then-bytes-lt-RECORD
returns-then-bytes-lt-RECORD c = short-record (λ h. omega arith)
