-- A list of rules built into the slots of the work area: what is lent, and what is answered. Machines alone are spoken of.
-- Assumes nothing.
use Rattle.std.specs.Prelude.{◌≡◌, List, ℕ, Option, Some, Result, Ok, Err, suc, ◌≤◌, ◌<◌, length}
use Rattle.limits.specs.Lengths.{work_length, numbers_length}
use Rattle.limits.specs.Limits.{InRange}
use Rattle.limits.specs.declared.Limits.{Limits}
use Rattle.policy.specs.Parts.{AllParts}
use Rattle.rules.specs.Rules.{slot_at, rule_at, rule_over, EarlierRule}
use Rattle.rules.specs.Steps.{code_step, code_start}
use Rattle.rules.specs.declared.NodeRule.{NodeRule}
use Rattle.explore.specs.Explored.{OverReached}
use Rattle.machine_rows.specs.Machines.{OverStates}
use Rattle.machine_rows.specs.Builds.{SlotBuilt}
use Rattle.machine_rows.specs.declared.OverLimit.{OverLimit}
use Rattle.machine_rows.specs.declared.OverLimit.TheVariants.{Values, Rows}
use Rattle.rule_rows.specs.declared.NodeOverLimit.{NodeOverLimit}

-- What building a list is lent: at most 64 nodes, each rule over earlier rules, limits in their ranges, and room.
pub record AllBuildable (rules : List (Option NodeRule)) (count actions : ℕ) (limits : Limits) (work values : List ℕ) : Type 0 where
  pub few : count ≤ 64
  pub parts : (n : ℕ) → n < count → (rule : NodeRule) → rule_at rules n ≡ Some rule → AllParts (EarlierRule rules n) (rule_over rule)
  pub actions-low : 1 ≤ actions
  pub actions-high : actions ≤ 16
  pub range : InRange limits
  pub room : work_length ≤ length work
  pub space : numbers_length ≤ length values

-- The slot of a rule is built, over the slots of its parts in the same work area.
abbrev pub RuleBuilt : (actions : ℕ) (limits : Limits) → List ℕ → ℕ → NodeRule → Type 0
RuleBuilt actions limits work i rule =
    SlotBuilt actions (code_step actions work rule) (code_start actions work rule) limits (slot_at work i)

-- Each rule before n is built.
pub record BuiltTo (rules : List (Option NodeRule)) (actions : ℕ) (limits : Limits) (n : ℕ) (work : List ℕ) : Type 0 where
  pub each : (i : ℕ) → i < n → (rule : NodeRule) → rule_at rules i ≡ Some rule → RuleBuilt actions limits work i rule

-- Where the node before n is a rule, its slot is built with so many rows.
pub record LastRows (rules : List (Option NodeRule)) (actions : ℕ) (limits : Limits) (n rows : ℕ) (work : List ℕ) : Type 0 where
  pub newest : (m : ℕ) → n ≡ suc m → (rule : NodeRule) → rule_at rules m ≡ Some rule
      → (b : RuleBuilt actions limits work m rule) × (b.rows ≡ rows)

-- The rules before n are built, and n is a rule whose machine has too many values.
pub record ValuesOver (rules : List (Option NodeRule)) (count actions : ℕ) (limits : Limits) (n : ℕ) (work : List ℕ) : Type 0 where
  pub inside : n < count
  pub earlier : BuiltTo rules actions limits n work
  pub rule : NodeRule
  pub is : rule_at rules n ≡ Some rule
  pub over : OverReached actions (code_step actions work rule) (code_start actions work rule) limits.values

-- As above, with values inside the limit, and too many rows.
pub record RowsOver (rules : List (Option NodeRule)) (count actions : ℕ) (limits : Limits) (n : ℕ) (work : List ℕ) : Type 0 where
  pub inside : n < count
  pub earlier : BuiltTo rules actions limits n work
  pub rule : NodeRule
  pub is : rule_at rules n ≡ Some rule
  pub few-values : OverReached actions (code_step actions work rule) (code_start actions work rule) limits.values → ⊥
  pub over : OverStates actions (code_step actions work rule) (code_start actions work rule) limits.rows

-- Node n is over a limit.
abbrev pub NodeOver : List (Option NodeRule) → (count actions : ℕ) (limits : Limits) (n : ℕ) → OverLimit → List ℕ → Type 0
NodeOver rules count actions limits n Values work = ValuesOver rules count actions limits n work
NodeOver rules count actions limits n Rows work = RowsOver rules count actions limits n work

-- What building a list answers.
abbrev pub FinishesTo : List (Option NodeRule) → (count actions : ℕ) (limits : Limits) → Result ℕ NodeOverLimit → List ℕ → Type 0
FinishesTo rules count actions limits (Ok last) work =
    BuiltTo rules actions limits count work × LastRows rules actions limits count last work
FinishesTo rules count actions limits (Err over) work = NodeOver rules count actions limits over.node over.limit work
