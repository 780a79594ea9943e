-- Laws that the proofs of the steps share: what a byte says of a part, the pairs of two bytes, and the numbers of moves.
-- Assumes nothing.
use mathlib.Core.Path.{◌≡◌, refl, sym, ◌∙◌}
use mathlib.Core.Bool.{Bool, true, false}
use Prim.Native.Nat.{ℕ}
use lib.Dec.{eqb}
use borrow.Author.Tests.{eq-eqb, eqb-true}
use Rattle.trace.specs.Trace.{Move, trip, go}
use Rattle.policy.specs.Rule.{same-r, either_r, copied-r}
use Rattle.policy.specs.Value.{Part, either_move, move_all}
use Rattle.rules.specs.Codes.{move_byte, byte_move}
use Rattle.rules.specs.Steps.{encode_move, code_step_of}

byte-moved : (e : ℕ) → move_byte (byte_move e) ≡ e
byte-moved e = by (eqb e 255) refl
  where
    by : (b : Bool) → eqb e 255 ≡ b → move_byte (byte_move e) ≡ e
    by true p = rw p (sym (eqb-true e 255 p))
    by false p = rw p

-- The number of a move does not depend on the rule's parts: a part that always trips stands for any.
abbrev any : Part
any q a = trip

-- two bytes: both parts trip where they are the last pair, and either trips where one is the last byte
module _ (l r : ℕ) where
  pub either_left : l ≡ 255 → trip ≡ encode_move (either_r any any) (either_move (byte_move l) (byte_move r))
  either_left e = rw (eq-eqb l 255 e)

-- a row is its own number: the same equation for Not and Ignoring
pub plain : (m : Move ℕ) → m ≡ encode_move (same-r any) m
plain trip = refl
plain (go v) = refl

-- and a set is. Stated at the step: computing 64 rows is to be avoided.
pub copied-code : (f : Part) (set a : ℕ) (m : Move ℕ) → m ≡ move_all f set a → m ≡ code_step_of (copied-r f) set a
copied-code f set a m e = e ∙ set_code (move_all f set a)
  where
    set_code : (m : Move ℕ) → m ≡ encode_move (copied-r f) m
    set_code trip = refl
    set_code (go v) = refl
