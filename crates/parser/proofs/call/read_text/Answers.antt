-- `parser::read_text` meets its contract: 14, 2 or 31 where a first check says so, and else what reading a short text gives.
use native.Mathlib.Omega.{arith}
use Rattle.std.proofs.lemmas.Grind.{common_steps}
use Rattle.parser.specs.Calling.{short, no-actions, long, judged, of-area, of-actions, of_length}
use Rattle.parser.proofs.call.read_text.Goals as goal

pub returns-then-out-lt-LARGEST_SHEET : goal.returns-then-out-lt-LARGEST_SHEET
returns-then-out-lt-LARGEST_SHEET c = (short (omega arith), of-area)

pub returns-then-is_empty : goal.returns-then-is_empty
returns-then-is_empty c = (no-actions (omega arith) (λ a. grind (arith, common_steps, a.some, a.few)), of-actions)

pub returns-then-text-gt-LONGEST_TEXT : goal.returns-then-text-gt-LONGEST_TEXT
returns-then-text-gt-LONGEST_TEXT c = (long (omega arith) (record { some = grind (arith, common_steps); few = omega arith }) (omega arith), of_length)

pub returns : goal.returns
returns c =
    let e = c.read_short.ensures in
    (judged (omega arith) (record { some = grind (arith, common_steps); few = omega arith }) (omega arith) _ _ e.0, e.1)
