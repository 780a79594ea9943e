-- One node of a list: what building it is lent, and what it answers.
-- Assumes nothing.
use Rattle.std.specs.Prelude.{◌≡◌, List, ℕ, Option, Some, None, Result, Ok}
use Rattle.limits.specs.declared.Limits.{Limits}
use Rattle.rules.specs.Rules.{Steppable}
use Rattle.rules.specs.Steps.{code_step, code_start}
use Rattle.rules.specs.declared.NodeRule.{NodeRule}
use Rattle.machine_rows.specs.Builds.{BuildsTo, Buildable}
use Rattle.machine_rows.specs.declared.OverLimit.{OverLimit}

abbrev pub NextBuildable : Option NodeRule → (work : List ℕ) (n actions : ℕ) (limits : Limits) → List ℕ → Type 0
NextBuildable None work n actions limits values = Unit {0}
NextBuildable (Some rule) work n actions limits values = Steppable work rule × Buildable (record { slot = n; actions = actions; limits = limits }) work values

-- A rule's machine is built into slot n; where there is none, the work area is as it was.
abbrev pub NextTo : Option NodeRule → (actions : ℕ) (limits : Limits) (n : ℕ) → Result ℕ OverLimit → List ℕ → List ℕ → Type 0
NextTo None actions limits n built before behind = (built ≡ Ok 0) × (behind ≡ before)
NextTo (Some rule) actions limits n built before behind =
    BuildsTo actions (code_step actions before rule) (code_start actions before rule) limits n built before behind
