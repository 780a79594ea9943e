-- What building the rules of a sound sheet answers is what the sheet gives: 8 or 9 at the first node over a limit, or the rows of every node in its
-- slot.
-- Assumes nothing.
use mathlib.Core.Path.{◌≡◌, subst}
use mathlib.Core.List.{List, []}
use Rattle.std.specs.Prelude.{Ok, Err}
use Prim.Native.Nat.{ℕ, ◌*◌, ◌-◌, ◌≤◌, ◌<◌}
use native.Mathlib.Omega.{arith}
use lib.ListN.{take}
use Rattle.trace.specs.declared.Mode.{Mode}
use Rattle.limits.specs.declared.Limits.{Limits}
use Rattle.automaton.specs.Minimal.{RowsOf}
use Rattle.automaton.proofs.MinimalRows.{rows-unique}
use Rattle.table.specs.Answer.{refused}
use Rattle.making.specs.Making.{Workable}
use Rattle.typing.specs.Typed.{sound, SoundSheet}
use Rattle.syntax.specs.declared.Sheet.{Sheet}
use Rattle.syntax.specs.declared.NodeType.{NodeType}
use Rattle.sheet_judge.specs.Judge.{judge}
use Rattle.rules.specs.Rules.{slot_at}
use Rattle.machine_rows.proofs.BuiltSlots.{built-readable}
use Rattle.machine_rows.specs.declared.OverLimit.{OverLimit}
use Rattle.machine_rows.specs.declared.OverLimit.TheVariants.{Values, Rows}
use Rattle.rule_rows.specs.Lists.{AllBuildable, BuiltTo, LastRows, ValuesOver, RowsOver, NodeOver}
use Rattle.node_rules.specs.Nodes.{trips_node, Tables}
use Rattle.node_rules.specs.SheetRules.{sheet_rules}
use Rattle.node_rules.proofs.NodeRules.{policy-right}
use Rattle.node_rules.proofs.Facts.{rule-facts}
use Rattle.compiler.specs.Limits.{Built}
use Rattle.compiler.specs.Compiles.{PolicyNode, Builds, passes}
use Rattle.compiler.specs.Refusals.{refusal_over}
use Rattle.compiler.specs.Building.{Stands, NodesStand, SheetTo}
use Rattle.compiler.proofs.BuiltNodes as nodes
use Rattle.compiler.proofs.SlotTables.{slot-part}

module _ {mode : Mode} {sheet : Sheet} {types : List NodeType} (right : SoundSheet mode sheet types) (limits : Limits) where
  -- the rules of the sheet can be built
  pub buildable : (work numbers : List ℕ) → Workable limits work numbers
      → AllBuildable (sheet_rules sheet types) sheet.count sheet.actions limits work numbers
  buildable work numbers lent =
      record {
        few = right.formed.few-nodes;
        parts = λ n h rule e. (rule-facts sheet types right n h rule e).parts;
        actions-low = right.formed.some-action;
        actions-high = right.formed.few-actions;
        range = lent.range;
        room = lent.bytes;
        space = lent.numbers;
      }

  module _ (small : limits.rows ≤ 64) (work : List ℕ) where
    values-over : (n : ℕ) → ValuesOver (sheet_rules sheet types) sheet.count sheet.actions limits n work
        → Builds mode sheet types limits (refused 8 n) []
    values-over n o = let h = o.inside in nodes.stops-values right limits small n (omega arith) work o.earlier o.inside o.rule o.is o.over

    rows-over : (n : ℕ) → RowsOver (sheet_rules sheet types) sheet.count sheet.actions limits n work
        → Builds mode sheet types limits (refused 9 n) []
    rows-over n o =
        let h = o.inside in
        nodes.stops-rows right limits small n (omega arith) work o.earlier o.inside o.rule o.is o.few-values o.over

    -- every rule is built
    module _ (built : BuiltTo (sheet_rules sheet types) sheet.actions limits sheet.count work) (count : ℕ)
        (newest : LastRows (sheet_rules sheet types) sheet.actions limits sheet.count count work) where
      abbrev A : ℕ
      A = sheet.actions

      abbrev last : ℕ
      last = sheet.count - 1

      below : last < sheet.count
      below = omega (arith, right.formed.some-node)

      policy : PolicyNode sheet types last
      policy = nodes.policy-node right last below right.last

      abbrev tables : Tables
      tables = nodes.tables right limits small sheet.count (omega arith) work built

      own : Built sheet tables limits last
      own = nodes.built-before right limits small sheet.count (omega arith) work built last below policy

      rows_are : RowsOf A (trips_node sheet last) count (take (count * A) (slot_at work last))
      rows_are =
          let l = policy-right sheet (λ k. Unit {0}) types right last below (λ k p. tt) right.last in
          let b = newest.newest last (omega (arith, right.formed.some-node)) l.code l.is in
          subst (λ (k : ℕ). RowsOf A (trips_node sheet last) k (take (k * A) (slot_at work last))) b.1
          (nodes.last-rows right limits small sheet.count (omega arith) work built last below policy l.code l.is b.0)

      -- they are the rows that were listed for it
      same : (count ≡ own.rows) × (take (count * A) (slot_at work last) ≡ tables last)
      same = rows-unique right.formed.some-action rows_are own.fits

      stands : (i : ℕ) → i < sheet.count → PolicyNode sheet types i → Stands sheet tables work i
      stands i h p =
          let l = policy-right sheet (λ k. Unit {0}) types right i h (λ k q. tt) p.is in
          record {
            readable = built-readable work i (built.each i h l.code l.is) small (omega (arith, right.formed.few-nodes));
            machine = slot-part (sheet_rules sheet types) A limits sheet.count work built i h l.code l.is;
          }

      nodes-stand : NodesStand sheet types limits count work
      nodes-stand =
          record {
            tables = tables;
            built = nodes.built-before right limits small sheet.count (omega arith) work built;
            stand = stands;
            last = own;
            counted = same.0;
            entries = same.1;
          }

-- what building the rules of a judged sheet gives is what its bytes give
module _ (bytes : List ℕ) {mode : Mode} {sheet : Sheet} {types : List NodeType} (limits : Limits) (judged : judge bytes ≡ sound mode sheet types)
    (right : SoundSheet mode sheet types) (small : limits.rows ≤ 64) (work : List ℕ) where
  pub sheet-over : (n : ℕ) (over : OverLimit) → NodeOver (sheet_rules sheet types) sheet.count sheet.actions limits n over work
      → SheetTo bytes limits (Err (refusal_over n over)) work
  sheet-over n Values o = passes _ _ _ judged _ _ (values-over right limits small work n o)
  sheet-over n Rows o = passes _ _ _ judged _ _ (rows-over right limits small work n o)

  pub sheet-built : (rows : ℕ) → BuiltTo (sheet_rules sheet types) sheet.actions limits sheet.count work
      → LastRows (sheet_rules sheet types) sheet.actions limits sheet.count rows work
      → SheetTo bytes limits (Ok (record { mode = mode; rows = rows; sheet = sheet })) work
  sheet-built rows built newest = record { types = types; judged = judged; nodes = nodes-stand right limits small work built rows newest }
