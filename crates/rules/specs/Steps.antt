-- The step on remembered values that are held as numbers.
-- Assumes nothing.
use Rattle.std.specs.Prelude.{List, ℕ}
use Rattle.trace.specs.Trace.{Move, trip, go, Step}
use Rattle.policy.specs.Rule.{Rule}
use Rattle.policy.specs.Value.{Part, Value, start, step_of}
use Rattle.rules.specs.Codes.{encode, decode}
use Rattle.rules.specs.Rules.{machine_rule}
use Rattle.rules.specs.declared.NodeRule.{NodeRule}

abbrev pub encode_move : (rule : Rule Part) → Move (Value rule) → Move ℕ
encode_move rule trip = trip
encode_move rule (go v) = go (encode rule v)

-- The step of a rule on numbers: decoded, moved, encoded.
abbrev pub code_step_of : (rule : Rule Part) → Step ℕ
code_step_of rule c a = encode_move rule (step_of rule (decode rule c) a)

abbrev pub code_step : (actions : ℕ) → List ℕ → NodeRule → Step ℕ
code_step actions work rule = code_step_of (machine_rule actions work rule)

abbrev pub code_start : (actions : ℕ) → List ℕ → NodeRule → ℕ
code_start actions work rule = encode (machine_rule actions work rule) (start (machine_rule actions work rule))
