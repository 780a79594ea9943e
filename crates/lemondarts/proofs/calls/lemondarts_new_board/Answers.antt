-- `lemondarts::calls::lemondarts_new_board` meets its contract.
use mathlib.Core.Path.{refl}
use native.Mathlib.Omega.{arith}
use Rattle.view.specs.Calls.{Makes}
use Rattle.lemondarts.specs.Exports.{short-record}
use Rattle.lemondarts.proofs.Returning.{returned}
use Rattle.lemondarts.proofs.calls.lemondarts_new_board.Goals as goal

pub returns : goal.returns
returns c =
    returned (λ board. Makes c.args.area.now) c.if-bytes-lt-RECORD.false refl c.new_board-made.ensures
    c.made_answer.ensures c.write_back.ensures

pub returns-then-bytes-lt-RECORD : goal.returns-then-bytes-lt-RECORD
returns-then-bytes-lt-RECORD c = short-record (λ h. omega arith)
