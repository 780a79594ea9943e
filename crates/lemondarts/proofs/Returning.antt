-- A step that the exported calls share: the record written back, and the call's return.
-- Assumes nothing.
use mathlib.Core.Path.{◌≡◌, sym, ◌∙◌, ap, subst}
use mathlib.Core.Bool.{Bool, cond}
use mathlib.Core.List.{List}
use Prim.Native.Nat.{ℕ, ◌≤◌}
use lib.ListN.{length}
use Rattle.places.specs.declared.Board.{Board}
use Rattle.view.specs.Steps.{Reply}
use Rattle.records.specs.Record.{record_length, board_of, written}
use Rattle.board_answers.specs.Numbers.{packed_reply, AnswerIs}
use Rattle.lemondarts.specs.Exports.{Returns, called}

-- a call made on the board that was read, its answer told, and its board written back
pub returned : (call : Board → Reply → Board → List ℕ → Type 0) {bytes area left : List ℕ} {read next : Board} {reply : Reply} {answer returns : ℕ} {changed : Bool} {new : List ℕ}
    → record_length ≤ length bytes → read ≡ board_of bytes → call read reply next left → AnswerIs reply answer changed
    → (returns ≡ answer) × (new ≡ cond changed (written next bytes) bytes) → Returns (call (board_of bytes)) bytes area returns new left
returned call {bytes} {area} {left} {read} {next} {reply} {new = new} long same made is w =
    subst (λ (n : ℕ). Returns (call (board_of bytes)) bytes area n new left) (sym (w.0 ∙ is.packs))
    (subst (λ (l : List ℕ). Returns (call (board_of bytes)) bytes area (packed_reply reply) l left)
    (sym (w.1 ∙ ap (λ (b : Bool). cond b (written next bytes) bytes) is.tells))
    (called long reply next left (subst (λ (b : Board). call b reply next left) same made)))
