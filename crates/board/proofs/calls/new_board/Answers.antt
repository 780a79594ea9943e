-- `board::calls::new_board` meets its contract.
use native.Mathlib.Omega.{arith}
use Prim.Native.Nat.{ℕ}
use borrow.Author.Rules.{rules}
use lib.Seq.{length-take-le}
use Rattle.std.proofs.Common.{◌≡◌, ◌∙◌, ap, take, length, replicate}
use Rattle.places.specs.Layout.{area_length}
use Rattle.view.specs.Calls.{made, make-14}
use Rattle.board.proofs.calls.new_board.Goals as goal

pub returns-then-area-lt-AREA_LENGTH : goal.returns-then-area-lt-AREA_LENGTH
returns-then-area-lt-AREA_LENGTH c = rw c.empty-board.ensures (make-14 (λ w. omega arith))

pub returns : goal.returns
returns c =
    let area = c.args.area.now in
    let filled : c.fill.new.self ≡ replicate (length (take area_length area)) 0 = search rules in
    let zeroed : c.fill.new.self ≡ replicate area_length 0 = filled ∙ ap (λ (n : ℕ). replicate n 0) (length-take-le area_length area (omega arith)) in
    rw (c.empty-board.ensures, zeroed) (made (omega arith))
