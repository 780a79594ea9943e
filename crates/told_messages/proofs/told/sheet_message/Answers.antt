-- `told_messages::told::sheet_message` meets its contract.
use Rattle.std.proofs.Common.{arith}
use mathlib.Core.Logic.{inl, inr}
use native.Mathlib.Decide.{dec_lt}
use Rattle.told_messages.proofs.Telling.{no_sheet}
use Rattle.told_messages.proofs.told.sheet_message.Goals as goal

pub returns-in_default : goal.returns-in_default
returns-in_default c = elim (dec_lt 9 c.args.number) [ yes p ↦ no_sheet c.args.number (inr p) | no q ↦ no_sheet c.args.number (inl (omega arith)) ]
