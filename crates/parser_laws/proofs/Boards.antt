-- From texts to a board: an action is permitted exactly when no enforced text's policy is violated, and a watched text's rule is reported at the
-- action that first satisfies its policy.
-- Assumes nothing.
use mathlib.Core.Path.{◌≡◌, sym, ◌∙◌}
use mathlib.Core.List.{List, [], ◌∷◌, ◌++◌}
use mathlib.Core.Logic.{◌↔◌}
use Prim.Native.Nat.{ℕ}
use native.Mathlib.Omega.{arith}
use lib.ListN.{take}
use Rattle.limits.specs.Limits.{largest}
use Rattle.table.specs.Table.{type_of}
use Rattle.view.specs.Steps.{act, Reply, permitted}
use Rattle.view.specs.Calls.{Calls}
use Rattle.runs.specs.Events.{Event, rule, on_place}
use Rattle.board_laws.specs.History.{History}
use Rattle.runs.specs.Verdicts.{ActionListed, IsPermitted}
use Rattle.base.specs.Sets.{Member}
use Rattle.places.specs.declared.Board.{Board}
use Rattle.board_policies.specs.Policies.{CompiledFrom}
use Rattle.board_policies.proofs.Permits.{permit-by-policies, fulfilled-by-policies}
use Rattle.parsed_sheets.specs.Sheets.{sheet_for}
use Rattle.parser_laws.specs.Boards.{FromText, EnforcedTexts, NoneTextViolated, FirstSatisfiedOver}
use Rattle.parser_laws.proofs.Compiled.{satisfied-sheet, read_as}

-- the sheet that a text is compiled by
abbrev compiled-from : {table : List ℕ} → FromText table → CompiledFrom table
compiled-from from =
    record {
      bytes = take from.bytes from.out'';
      sheet = sheet_for from.actions from.reading.policy;
      read = read_as from.writes from.reads from.compiles;
      limits = largest;
      few = omega arith;
      type = from.type;
      actions = from.n;
      rows = from.rows;
      compiles = from.compiles;
    }

module _ {events : List Event} {board : Board} {area : List ℕ} (h : History events board area) where
  -- Where each enforced rule on is compiled from a text, an action of the list is permitted exactly when no enforced text's policy is violated by
  -- the actions permitted since its rule was put on, followed by this one.
  pub text-on-board : (texts : EnforcedTexts events) {action : ℕ} → ActionListed events action → {reply : Reply} {next : Board} {rest : List ℕ}
      → Calls board area (act action) reply next rest → IsPermitted reply ↔ NoneTextViolated events texts action
  text-on-board texts {action} l p =
      let e = permit-by-policies h (λ i table since on enforced. compiled-from (texts i table since on enforced)) l p in (
        λ is i table since on enforced.
            let t = texts i table since on enforced in
            sym (satisfied-sheet t.actions t.reading.policy (since ++ (action ∷ []))) ∙ e.0 is i table since on enforced,
        λ none.
            e.1
            (λ i table since on enforced.
            let t = texts i table since on enforced in
            satisfied-sheet t.actions t.reading.policy (since ++ (action ∷ [])) ∙ none i table since on enforced),
      )

  -- A watched rule that is compiled from a text is reported at exactly the permitted action that first satisfies the text's policy.
  pub text-reported-on-board : {action set : ℕ} {next : Board} {rest : List ℕ} → Calls board area (act action) (permitted set) next rest
      → (i : ℕ) (table since : List ℕ) → on_place events i ≡ rule table since → type_of table ≡ 2 → (from : FromText table)
      → Member set i ↔ FirstSatisfiedOver from.actions from.reading.policy since action
  text-reported-on-board p i table since on watched from =
      let e = fulfilled-by-policies h p i table since on watched (compiled-from from) in
      let same = satisfied-sheet from.actions from.reading.policy in (
        λ m. let f = e.0 m in record { satisfied = sym (same _) ∙ f.satisfied; shortest = λ u v q. sym (same u) ∙ f.shortest u v q },
        λ f. e.1 (record { satisfied = same _ ∙ f.satisfied; shortest = λ u v q. same u ∙ f.shortest u v q }),
      )
