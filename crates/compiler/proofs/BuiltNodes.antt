-- From the slots to the policies: where the slots of the nodes before n hold the rows of their machines, those nodes are inside the limits with the
-- rows of their policies, and a machine over a limit is a node over it.
-- Assumes nothing.
use mathlib.Core.Path.{◌≡◌, sym, ◌∙◌, subst}
use mathlib.Core.List.{List, []}
use Prim.Native.Nat.{ℕ, zero, suc, ◌*◌, ◌≤◌, ◌<◌}
use native.Mathlib.Omega.{arith}
use lib.ListN.{take}
use Rattle.std.specs.Prelude.{Some}
use Rattle.trace.specs.declared.Mode.{Mode}
use Rattle.trace.specs.Trace.{Sequence, Step, go, run}
use Rattle.limits.specs.declared.Limits.{Limits}
use Rattle.automaton.specs.Minimal.{RowsOf}
use Rattle.policy.specs.Rule.{rule_of}
use Rattle.policy.specs.Closed.{answer}
use Rattle.policy.specs.declared.Bound.{Bound}
use Rattle.table.specs.Answer.{refused}
use Rattle.syntax.specs.Nodes.{propositions_of}
use Rattle.syntax.specs.Types.{type_at}
use Rattle.syntax.specs.Meaning.{node_policy}
use Rattle.typing.specs.Typed.{SoundSheet}
use Rattle.syntax.specs.declared.NodeType.TheVariants.{Policy}
use Rattle.syntax.specs.declared.Sheet.{Sheet}
use Rattle.syntax.specs.declared.NodeType.{NodeType}
use Rattle.syntax.proofs.NodeTypes.{PolicyBefore}
use Rattle.typing.proofs.Sound.{typed-used, typed-policy}
use Rattle.rules.specs.Codes.{encode}
use Rattle.rules.specs.Rules.{slot_at, part_at, rule_at}
use Rattle.rules.specs.Steps.{code_step, code_start}
use Rattle.rules.specs.declared.NodeRule.{NodeRule}
use Rattle.explore.specs.Explored.{OverReached}
use Rattle.machine_rows.specs.Machines.{OverStates, RowsFor}
use Rattle.machine_rows.proofs.Sequences as machine
use Rattle.node_rules.specs.Nodes.{trips_node, node_rule, Tables, part_of, rule_on, remembered_at}
use Rattle.node_rules.specs.SheetRules.{sheet_rules}
use Rattle.node_rules.proofs.NodeRules.{RightRule, policy-right}
use Rattle.node_rules.proofs.Facts.{NodeFacts, node-facts, rule-facts}
use Rattle.rule_rows.specs.Lists.{RuleBuilt, BuiltTo}
use Rattle.compiler.specs.Limits.{OverValues, OverRows, Built}
use Rattle.compiler.specs.Compiles.{PolicyNode, BuiltBefore, Builds, stops, values, rows}
use Rattle.compiler.proofs.NodeRuns.{RowsAt, injective, codes}
use Rattle.compiler.proofs.SlotTables.{slot_tables, slot-table, slot-part}

-- what is typed as a policy is a used policy node
pub policy-node : {mode : Mode} {sheet : Sheet} {types : List NodeType} → SoundSheet mode sheet types → (n : ℕ) → n < sheet.count
    → {m : Mode} {k : Bound} → type_at types n ≡ Policy m k → PolicyNode sheet types n
policy-node right n h {m} {k} e = record { used = typed-used right n h (typed-policy e); mode = m; bound = k; is = e }

module _ {mode : Mode} {sheet : Sheet} {types : List NodeType} (right : SoundSheet mode sheet types) (limits : Limits) (small : limits.rows ≤ 64)
    (n : ℕ) (within : n ≤ sheet.count) (work : List ℕ) (built : BuiltTo (sheet_rules sheet types) sheet.actions limits n work) where
  abbrev A : ℕ
  A = sheet.actions

  -- the rows that stand in the slots
  abbrev pub tables : Tables
  tables = slot_tables (sheet_rules sheet types) A limits n work built

  -- a policy node i, up to n, whose parts have their rows
  module _ (i : ℕ) (low : i ≤ n) (here : i < sheet.count) (policy : PolicyNode sheet types i)
      (before : (j : ℕ) → PolicyBefore (type_at types) i j → RowsAt sheet tables j) where
    facts : NodeFacts sheet types i policy.mode policy.bound
    facts = node-facts sheet types right i here policy.is

    lowered : RightRule sheet (PolicyBefore (type_at types) i) (node_rule sheet i) (rule_of (propositions_of sheet) (node_policy sheet i)) (rule_at (sheet_rules sheet types) i)
    lowered = policy-right sheet (PolicyBefore (type_at types) i) types right i here (λ j p. p) policy.is

    slots : (j : ℕ) → PolicyBefore (type_at types) i j → part_at A work j ≡ part_of sheet tables j
    slots j e =
        let b = e.before in
        let l = policy-right sheet (λ k. Unit {0}) types right j (omega arith) (λ k p. tt) e.is in
        slot-part (sheet_rules sheet types) A limits n work built j (omega arith) l.code l.is

    abbrev step : Step ℕ
    step = code_step A work lowered.code

    abbrev first : ℕ
    first = code_start A work lowered.code

    -- the machine in the slot goes through the numbers of what the node remembers
    runs : (w : List ℕ) → Sequence A w → run step (go first) w ≡ answer (trips_node sheet i w) (encode (rule_on sheet tables i) (remembered_at sheet tables i w))
    runs = codes sheet types i facts lowered tables before work slots

    over-values : OverReached A step first limits.values → OverValues sheet tables i limits.values
    over-values = machine.over-values A (trips_node sheet i) (remembered_at sheet tables i) (encode (rule_on sheet tables i)) step first runs limits.values

    few-values : (OverReached A step first limits.values → ⊥) → OverValues sheet tables i limits.values → ⊥
    few-values =
        machine.not-over-values A (trips_node sheet i) (remembered_at sheet tables i) (encode (rule_on sheet tables i)) step first runs
        (injective sheet types i facts lowered tables before) limits.values

    over-rows : OverStates A step first limits.rows → OverRows sheet i limits.rows
    over-rows = machine.over-rows A (trips_node sheet i) (remembered_at sheet tables i) (encode (rule_on sheet tables i)) step first runs limits.rows

    rows_are : (rows : ℕ) (entries : List ℕ) → RowsFor A step first limits.rows rows entries → RowsOf A (trips_node sheet i) rows entries
    rows_are = machine.rows_of A (trips_node sheet i) (remembered_at sheet tables i) (encode (rule_on sheet tables i)) step first runs limits.rows

    -- a node whose slot is built is inside the limits
    is-built : i < n → Built sheet tables limits i
    is-built h =
        let t = slot-table (sheet_rules sheet types) A limits n work built i h lowered.code lowered.is in
        record {
          few-values = few-values t.0.few-values;
          rows = t.0.rows;
          few-rows = t.0.rows-for.few;
          fits = subst (RowsOf A (trips_node sheet i) t.0.rows) (sym t.1) (rows_are t.0.rows (take (t.0.rows * A) (slot_at work i)) t.0.rows-for);
        }

  -- by induction, every policy node before n is
  built-below : (m i : ℕ) → i < m → i < n → PolicyNode sheet types i → Built sheet tables limits i
  built-below zero i h g p = absurd (omega arith)
  built-below (suc m) i h g p = node (λ j l q. built-below m j (omega arith) (omega arith) q)
    where
      node : ((j : ℕ) → j < i → PolicyNode sheet types j → Built sheet tables limits j) → Built sheet tables limits i
      node ih = is-built i (omega arith) (omega arith) p (λ j e. rows_at (ih j e.before (policy-node right j (omega arith) e.is))) g
        where
          rows_at : {j : ℕ} → Built sheet tables limits j → RowsAt sheet tables j
          rows_at b = record { rows = b.rows; few = let h = b.few-rows in omega arith; fits = b.fits }

  pub built-before : BuiltBefore sheet types tables limits n
  built-before i h p = built-below (suc i) i (omega arith) h p

  rows_before : (i : ℕ) → i ≤ n → (j : ℕ) → PolicyBefore (type_at types) i j → RowsAt sheet tables j
  rows_before i l j e = from (built-before j (let b = e.before in omega arith) (policy-node right j (omega arith) e.is))
    where
      from : Built sheet tables limits j → RowsAt sheet tables j
      from b = record { rows = b.rows; few = let h = b.few-rows in omega arith; fits = b.fits }

  -- node n is a rule
  module _ (inside : n < sheet.count) (rule : NodeRule) (is : rule_at (sheet_rules sheet types) n ≡ Some rule) where
    policy : PolicyNode sheet types n
    policy = policy-node right n inside (rule-facts sheet types right n inside rule is).is

    same : rule ≡ (lowered n (omega arith) inside policy (rows_before n (omega arith))).code
    same = let e = sym is ∙ (lowered n (omega arith) inside policy (rows_before n (omega arith))).is in cc

    values_of : OverReached A (code_step A work rule) (code_start A work rule) limits.values → OverValues sheet tables n limits.values
    values_of o =
        over-values n (omega arith) inside policy (rows_before n (omega arith))
        (subst (λ (r : NodeRule). OverReached A (code_step A work r) (code_start A work r) limits.values) same o)

    -- over a limit
    pub stops-values : OverReached A (code_step A work rule) (code_start A work rule) limits.values → Builds mode sheet types limits (refused 8 n) []
    stops-values o = stops tables n 8 inside built-before policy (values (values_of o))

    pub stops-rows : (OverReached A (code_step A work rule) (code_start A work rule) limits.values → ⊥) → OverStates A (code_step A work rule) (code_start A work rule) limits.rows
        → Builds mode sheet types limits (refused 9 n) []
    stops-rows few o =
        stops tables n 9 inside built-before policy
        (rows
        (few-values n (omega arith) inside policy (rows_before n (omega arith)) (λ q. few (subst (λ (r : NodeRule). OverReached A (code_step A work r) (code_start A work r) limits.values) (sym same) q)))
        (over-rows n (omega arith) inside policy (rows_before n (omega arith)) (subst (λ (r : NodeRule). OverStates A (code_step A work r) (code_start A work r) limits.rows) same o)))

  -- the rows that a slot before n was built with are its node's
  pub last-rows : (i : ℕ) → i < n → (policy : PolicyNode sheet types i) (rule : NodeRule) → rule_at (sheet_rules sheet types) i ≡ Some rule
      → (b : RuleBuilt A limits work i rule) → RowsOf A (trips_node sheet i) b.rows (take (b.rows * A) (slot_at work i))
  last-rows i h policy rule is b =
      rows_are i (omega arith) (omega arith) policy (rows_before i (omega arith)) b.rows (take (b.rows * A) (slot_at work i))
      (subst (λ (r : NodeRule). RowsFor A (code_step A work r) (code_start A work r) limits.rows b.rows (take (b.rows * A) (slot_at work i))) same-rule b.rows-for)
    where
      same-rule : rule ≡ (lowered i (omega arith) (omega arith) policy (rows_before i (omega arith))).code
      same-rule = let e = sym is ∙ (lowered i (omega arith) (omega arith) policy (rows_before i (omega arith))).is in cc
