-- Demand 2, of policies, for a board that is used, with its whole area, only through its calls.
-- Assumes nothing.
use mathlib.Core.Path.{◌≡◌}
use mathlib.Core.List.{List}
use mathlib.Core.Logic.{◌↔◌}
use Prim.Native.Nat.{ℕ}
use Rattle.table.specs.Table.{type_of}
use Rattle.view.specs.Steps.{act, Reply, permitted}
use Rattle.view.specs.Calls.{Calls}
use Rattle.runs.specs.Events.{Event, rule, on_place}
use Rattle.board_laws.specs.History.{History}
use Rattle.runs.specs.Verdicts.{ActionListed, IsPermitted}
use Rattle.base.specs.Sets.{Member}
use Rattle.places.specs.declared.Board.{Board}
use Rattle.board_policies.specs.Policies.{CompiledFrom, EnforcedSheets, NonePolicyViolated, FirstSatisfied}
use Rattle.board_policies.proofs.RunPolicies.{run-permit-by-policies, run-fulfilled-by-policies}
use Rattle.board_laws.proofs.HistoryRun.{history-run, call-held}

module _ {events : List Event} {board : Board} {area : List ℕ} (h : History events board area) where
  -- Where each enforced rule on is compiled from a sheet, an action of the list is permitted exactly when no enforced policy is violated by the
  -- actions permitted since its rule was put on, followed by this one.
  pub permit-by-policies : (sheets : EnforcedSheets events) {action : ℕ} → ActionListed events action → {reply : Reply} {next : Board} {rest : List ℕ}
      → Calls board area (act action) reply next rest → IsPermitted reply ↔ NonePolicyViolated events sheets action
  permit-by-policies sheets l p = run-permit-by-policies (history-run h) sheets l (call-held h p)

  -- A watched rule that is compiled from a sheet is reported at exactly the permitted action that first satisfies its policy: the actions permitted
  -- since it was put on, followed by this one, satisfy it, and no shorter front of that sequence does.
  pub fulfilled-by-policies : {action set : ℕ} {next : Board} {rest : List ℕ} → Calls board area (act action) (permitted set) next rest
      → (i : ℕ) (table since : List ℕ) → on_place events i ≡ rule table since → type_of table ≡ 2 → (from : CompiledFrom table)
      → Member set i ↔ FirstSatisfied from.sheet since action
  fulfilled-by-policies p = run-fulfilled-by-policies (history-run h) (call-held h p)
