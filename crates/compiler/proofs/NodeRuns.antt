-- A policy node over the rows of earlier nodes: its machine on numbers, as it is built, trips as its policy does, and leads to the number of what
-- the node remembers. Here policies enter: what is built is stated of machines alone.
-- Assumes nothing.
use mathlib.Core.Path.{◌≡◌, sym, ◌∙◌, ap}
use mathlib.Core.Bool.{Bool, false}
use mathlib.Core.List.{List}
use Prim.Native.Nat.{ℕ, ◌≤◌}
use Rattle.std.specs.Prelude.{Option}
use Rattle.trace.specs.Trace.{Sequence, go, run}
use Rattle.automaton.specs.Minimal.{RowsOf}
use Rattle.trace.specs.declared.Mode.{Mode}
use Rattle.policy.specs.declared.Bound.{Bound}
use Rattle.policy.specs.Operators.{Property}
use Rattle.policy.specs.Rule.{Rule, on_parts, rule_of, rule_trips}
use Rattle.policy.specs.Parts.{AllParts}
use Rattle.policy.specs.Trips.{trips_policy, Typed}
use Rattle.policy.specs.Agree.{Agree}
use Rattle.policy.specs.Value.{Part, part_trips, start}
use Rattle.policy.specs.Closed.{Closed, answer}
use Rattle.policy.proofs.Rules.{rule-trips}
use Rattle.policy.proofs.Congruent.{rule-congruent}
use Rattle.policy.proofs.Steps.{steps-right}
use Rattle.policy.proofs.Parts.{on-parts-compose}
use Rattle.syntax.specs.Nodes.{propositions_of}
use Rattle.syntax.specs.Types.{type_at}
use Rattle.syntax.specs.Meaning.{node_policy}
use Rattle.syntax.specs.declared.Sheet.{Sheet}
use Rattle.syntax.specs.declared.NodeType.{NodeType}
use Rattle.syntax.proofs.NodeTypes.{PolicyBefore}
use Rattle.rules.specs.Codes.{encode, CountInRange, FitRule}
use Rattle.rules.specs.Rules.{part_at, rule_over, machine_rule}
use Rattle.rules.specs.Steps.{encode_move, code_step_of, code_step, code_start}
use Rattle.rules.specs.declared.NodeRule.{NodeRule}
use Rattle.rules.proofs.Encoding.{encode_injective}
use Rattle.rules.proofs.Fitting.{fit-sound, encode-answer, code-run, remembered-fits}
use Rattle.rules.proofs.RuleParts.{all_map, all-onto, on-parts-agree, count-on}
use Rattle.node_rules.specs.Nodes.{trips_node, node_rule, Tables, part_of, rule_on, remembered_at}
use Rattle.node_rules.proofs.NodeRules.{RightRule}
use Rattle.node_rules.proofs.Facts.{NodeFacts}
use Rattle.machine_rows.proofs.PartRows.{rows-closed}
use Rattle.compiler.proofs.SameCodes.{same_codes}

-- Node i has its rows, at most 64 of them.
pub record RowsAt (sheet : Sheet) (tables : Tables) (i : ℕ) : Type 0 where
  pub rows : ℕ
  pub few : rows ≤ 64
  pub fits : RowsOf sheet.actions (trips_node sheet i) rows (tables i)

-- A policy node n with the rule that is built for it, over earlier policy nodes.
module _ (sheet : Sheet) (types : List NodeType) (n : ℕ) {mode : Mode} {bound : Bound} (facts : NodeFacts sheet types n mode bound) {to : Option NodeRule}
    (right : RightRule sheet (PolicyBefore (type_at types) n) (node_rule sheet n) (rule_of (propositions_of sheet) (node_policy sheet n)) to) where
  abbrev Q : ℕ → Type 0
  Q = PolicyBefore (type_at types) n

  abbrev rule : NodeRule
  rule = right.code

  typed : Typed (node_policy sheet n)
  typed = record { mode = mode; bound = bound; has = facts.type }

  module _ (tables : Tables) (before : (i : ℕ) → Q i → RowsAt sheet tables i) where
    abbrev A : ℕ
    A = sheet.actions

    abbrev meant : Rule Part
    meant = rule_on sheet tables n

    part-closed : (i : ℕ) → Q i → (m : ℕ) × Closed m (part_of sheet tables i)
    part-closed i e = from (before i e)
      where
        from : RowsAt sheet tables i → (m : ℕ) × Closed m (part_of sheet tables i)
        from r = (r.rows, rows-closed r.fits.machine r.fits.low r.few)

    -- a rule over the rows of these parts is one whose steps are right
    fit : (r : Rule ℕ) → AllParts Q r → CountInRange r → FitRule (on_parts (part_of sheet tables) r)
    fit r parts count =
        record { counted = count-on (part_of sheet tables) r count; closed = all-onto Q (λ f. (m : ℕ) × Closed m f) (part_of sheet tables) part-closed r parts }

    meant-fits : FitRule meant
    meant-fits = fit (node_rule sheet n) facts.parts facts.count

    -- it trips on the sequences on which the policy does
    by_parts : (w : List ℕ) → rule_trips (on_parts (trips_node sheet) (node_rule sheet n)) w ≡ trips_node sheet n w
    by_parts w =
        ap (λ (r : Rule Property). rule_trips r w)
        (sym (on-parts-compose (trips_policy (propositions_of sheet)) (node_policy sheet) (node_rule sheet n))
        ∙ ap (on_parts (trips_policy (propositions_of sheet))) right.over)
        ∙ sym (rule-trips (propositions_of sheet) (node_policy sheet n) typed w)

    node-trips : (w : List ℕ) → Sequence A w → rule_trips (on_parts part_trips meant) w ≡ trips_node sheet n w
    node-trips w s =
        ap (λ (r : Rule Property). rule_trips r w) (on-parts-compose part_trips (part_of sheet tables) (node_rule sheet n))
        ∙ rule-congruent A (λ i. part_trips (part_of sheet tables i)) (trips_node sheet) (node_rule sheet n)
        (all_map Q (λ i. Agree A (part_trips (part_of sheet tables i)) (trips_node sheet i)) (λ i e. (before i e).fits.reads) (node_rule sheet n) facts.parts)
        w s
        ∙ by_parts w

    -- different values that occur have different numbers
    pub injective : (u w : List ℕ) → Sequence A u → Sequence A w → trips_node sheet n u ≡ false → trips_node sheet n w ≡ false
        → encode meant (remembered_at sheet tables n u) ≡ encode meant (remembered_at sheet tables n w) → remembered_at sheet tables n u ≡ remembered_at sheet tables n w
    injective u w su sw eu ew e =
        encode_injective meant _ _ (remembered-fits meant meant-fits u (node-trips u su ∙ eu)) (remembered-fits meant meant-fits w (node-trips w sw ∙ ew)) e

    module _ (work : List ℕ) (slots : (i : ℕ) → Q i → part_at A work i ≡ part_of sheet tables i) where
      -- the rule that is built, over the same parts
      abbrev lowered : Rule Part
      lowered = on_parts (part_of sheet tables) (rule_over rule)

      code-rule : machine_rule A work rule ≡ lowered
      code-rule =
          on-parts-agree (part_at A work) (part_of sheet tables) (rule_over rule)
          (all_map Q (λ i. part_at A work i ≡ part_of sheet tables i) slots (rule_over rule) right.parts)

      -- the machine that is built goes through the numbers of what is remembered
      pub codes : (w : List ℕ) → Sequence A w
          → run (code_step A work rule) (go (code_start A work rule)) w ≡ answer (trips_node sheet n w) (encode meant (remembered_at sheet tables n w))
      codes w p =
          ap (λ (x : Rule Part). run (code_step_of x) (go (encode x (start x))) w) code-rule
          ∙ code-run lowered (fit (rule_over rule) right.parts right.count) w
          ∙ same_codes A (part_of sheet tables) (node_rule sheet n) (rule_over rule) right.same w p
          ∙ ap (encode_move meant)
          (steps-right meant (fit-sound meant meant-fits) w ∙ ap (λ (b : Bool). answer b (remembered_at sheet tables n w)) (node-trips w p))
          ∙ encode-answer meant (trips_node sheet n w) (remembered_at sheet tables n w)
