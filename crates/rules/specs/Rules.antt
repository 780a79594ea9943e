-- A node's rule over the numbers of its parts, and the parts' rows in the work area: 1,024 bytes a node, its rows one after the other.
-- Assumes nothing.
use Rattle.std.specs.Prelude.{◌≡◌, List, ℕ, Option, Some, None, ◌*◌, ◌≤◌, ◌<◌, length, get_or, take, drop}
use Rattle.base.specs.Sets.{bit}
use Rattle.limits.specs.Lengths.{slot_length, work_length}
use Rattle.trace.specs.Trace.{Move, trip, go}
use Rattle.automaton.specs.Machine.{transition}
use Rattle.policy.specs.Value.{Part}
use Rattle.policy.specs.Parts.{AllParts}
use Rattle.policy.specs.Rule.{Rule, opening-r, count-r, same-r, both_r, either_r, copied-r, before-r, after-r, fulfilling-r, ignoring-r, on_parts}
use Rattle.rules.specs.declared.NodeRule.{NodeRule}
use Rattle.rules.specs.declared.NodeRule.TheVariants.{Opening, Count, Same, Both, Either, Copied, Before, After, Fulfilling, Ignoring}

-- The bytes of a node's rows.
abbrev pub slot_at : List ℕ → ℕ → List ℕ
slot_at work i = take slot_length (drop (i * slot_length) work)

-- A part's machine: the rows of node i.
abbrev pub part_at : (actions : ℕ) → List ℕ → ℕ → Part
part_at actions work i = transition 255 actions (slot_at work i)

-- The rule that the code's value stands for. Bit a of a set says whether action a satisfies the formula.
abbrev pub rule_over : NodeRule → Rule ℕ
rule_over (Opening set) = opening-r (λ a. bit set a)
rule_over (Count k) = count-r k
rule_over (Same a) = same-r a
rule_over (Both a b) = both_r a b
rule_over (Either a b) = either_r a b
rule_over (Copied a) = copied-r a
rule_over (Before a b) = before-r a b
rule_over (After a b) = after-r a b
rule_over (Fulfilling k a b c) = fulfilling-r k a b c
rule_over (Ignoring set b) = ignoring-r (λ a. bit set a) b

-- The same over the parts' machines.
abbrev pub machine_rule : (actions : ℕ) → List ℕ → NodeRule → Rule Part
machine_rule actions work rule = on_parts (part_at actions work) (rule_over rule)

-- The rule of node i of a list: none for an action formula, a node that is not used, and past the list's end.
abbrev pub rule_at : List (Option NodeRule) → ℕ → Option NodeRule
rule_at rules i = get_or rules i None

-- Where the code's answer leads: none is a trip.
abbrev pub move_of : Option ℕ → Move ℕ
move_of None = trip
move_of (Some v) = go v

-- A part that can be read: a node's number, and entries below 64 or 255.
pub record Readable (work : List ℕ) (i : ℕ) : Type 0 where
  pub node : i < 64
  pub entries : (k : ℕ) → (get_or (slot_at work i) k 255 ≡ 255 → ⊥) → get_or (slot_at work i) k 255 < 64

-- What a step is lent: the whole work area, and parts that can be read.
pub record Steppable (work : List ℕ) (rule : NodeRule) : Type 0 where
  pub room : work_length ≤ length work
  pub parts : AllParts (Readable work) (rule_over rule)

-- A part of node n in a list: an earlier node that is a rule.
pub record EarlierRule (rules : List (Option NodeRule)) (n i : ℕ) : Type 0 where
  pub before : i < n
  pub rule : NodeRule
  pub is : rule_at rules i ≡ Some rule
