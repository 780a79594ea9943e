-- Compiling has one answer and one table for each sheet: the first fault, or the lowest node over a limit, or the rows of the last node.
-- Assumes nothing.
use mathlib.Core.Path.{◌≡◌, refl, sym, ap, ap₂, subst}
use mathlib.Core.List.{List}
use Prim.Native.Nat.{ℕ, ◌-◌, ◌≤◌, ◌<◌}
use native.Mathlib.Decide.{dec_lt}
use native.Mathlib.Omega.{arith}
use Rattle.trace.specs.declared.Mode.{Mode}
use Rattle.trace.specs.Limits.{ManyValues}
use Rattle.limits.specs.declared.Limits.{Limits}
use Rattle.automaton.specs.Machine.{transition}
use Rattle.automaton.proofs.MinimalRows.{rows-unique, few-rows-suffice}
use Rattle.policy.specs.Rule.{Rule}
use Rattle.policy.specs.Value.{Part, remembered}
use Rattle.table.specs.Answer.{Answer, refused}
use Rattle.syntax.specs.Faults.{number_of, spot_of}
use Rattle.syntax.specs.Types.{type_at}
use Rattle.typing.specs.Typed.{faulty, sound, SoundSheet}
use Rattle.syntax.specs.declared.Sheet.{Sheet}
use Rattle.syntax.specs.declared.NodeType.{NodeType}
use Rattle.syntax.specs.declared.Fault.{Fault}
use Rattle.syntax.proofs.NodeTypes.{PolicyBefore}
use Rattle.sheet_judge.specs.Judge.{judge}
use Rattle.rules.proofs.RuleParts.{all_map, on-parts-agree}
use Rattle.node_rules.specs.Nodes.{Tables, trips_node, node_rule, part_of, rule_on}
use Rattle.node_rules.proofs.Facts.{node-facts}
use Rattle.compiler.specs.Limits.{OverValues, Built}
use Rattle.compiler.specs.Compiles.{PolicyNode, BuiltBefore, StopsAt, values, rows, Builds, stops, builds, Compiles, faulted, passes}
use Rattle.compiler.proofs.BuiltNodes.{policy-node}
use Rattle.compiler.proofs.Passed.{passed}

-- Two lists of rows agree on the used policy nodes before n.
abbrev pub AgreeBefore : Sheet → List NodeType → Tables → Tables → ℕ → Type 0
AgreeBefore sheet types tables other n = (i : ℕ) → i < n → PolicyNode sheet types i → tables i ≡ other i

module _ {mode : Mode} {sheet : Sheet} {types : List NodeType} (right : SoundSheet mode sheet types) where
  -- Refusal 8 depends on the rows of the parts alone.
  module _ (n : ℕ) (inside : n < sheet.count) (policy : PolicyNode sheet types n) (tables other : Tables) (agree : AgreeBefore sheet types tables other n) where
    part_same : (i : ℕ) → PolicyBefore (type_at types) n i → part_of sheet tables i ≡ part_of sheet other i
    part_same i e = ap (transition 255 sheet.actions) (agree i e.before (policy-node right i (omega (arith, e.before)) e.is))

    rule-same : rule_on sheet tables n ≡ rule_on sheet other n
    rule-same =
        on-parts-agree (part_of sheet tables) (part_of sheet other) (node_rule sheet n)
        (all_map (PolicyBefore (type_at types) n) (λ i. part_of sheet tables i ≡ part_of sheet other i) part_same (node_rule sheet n) (node-facts sheet types right n inside policy.is).parts)

    pub over-values-same : (limit : ℕ) → OverValues sheet tables n limit → OverValues sheet other n limit
    over-values-same limit over = subst (λ (rule : Rule Part). ManyValues sheet.actions (trips_node sheet n) (remembered rule) limit) rule-same over

  module _ (limits : Limits) where
    -- nodes inside the limits have the same rows, whoever built them
    pub tables_agree : (tables other : Tables) (n m : ℕ) → n ≤ m → BuiltBefore sheet types tables limits n
        → BuiltBefore sheet types other limits m → AgreeBefore sheet types tables other n
    tables_agree tables other n m l built built' i h p = (rows-unique right.formed.some-action (built i h p).fits (built' i (omega arith) p).fits).1

    -- node n is the first over a limit
    record Stopped (n number : ℕ) : Type 0 where
      tables : Tables
      inside : n < sheet.count
      built : BuiltBefore sheet types tables limits n
      policy : PolicyNode sheet types n
      over : StopsAt sheet tables limits n number

    -- a node that is over a limit is not inside the limits
    not-built : {n k : ℕ} → Stopped n k → (other : Tables) (m : ℕ) → n < m → BuiltBefore sheet types other limits m → ⊥
    not-built {n} at other m l built' = by at.over (built' n l at.policy)
      where
        by : {k : ℕ} → StopsAt sheet at.tables limits n k → Built sheet other limits n → ⊥
        by (values over) b =
            b.few-values
            (over-values-same n at.inside at.policy at.tables other (tables_agree at.tables other n m (omega arith) at.built built') limits.values over)
        by (rows few over) b = few-rows-suffice b.fits limits.rows b.few-rows over

    -- the lowest node over a limit is one
    same-node : {n k m l : ℕ} → Stopped n k → Stopped m l → n ≡ m
    same-node {n} {k} {m} {l} a b =
        elim (dec_lt n m) [
          | yes h ↦ absurd (not-built a b.tables m h b.built)
          | no h ↦ elim (dec_lt m n) [ yes g ↦ absurd (not-built b a.tables n g a.built) | no g ↦ omega arith ]
        ]

    -- and the limit that it is over
    same-limit : {n k l : ℕ} → Stopped n k → Stopped n l → k ≡ l
    same-limit {n} a b = by a.over b.over
      where
        other-values : (c d : (k : ℕ) × Stopped n k) → OverValues sheet c.1.tables n limits.values → OverValues sheet d.1.tables n limits.values
        other-values c d =
            over-values-same n c.1.inside c.1.policy c.1.tables d.1.tables
            (tables_agree c.1.tables d.1.tables n n (omega arith) c.1.built d.1.built)
            limits.values

        by : {k l : ℕ} → StopsAt sheet a.tables limits n k → StopsAt sheet b.tables limits n l → k ≡ l
        by (values over) (values over') = refl
        by (values over) (rows few over') = absurd (few (other-values (_, a) (_, b) over))
        by (rows few over) (values over') = absurd (few (other-values (_, b) (_, a) over'))
        by (rows few over) (rows few' over') = refl

    same-refusal : {n k m l : ℕ} → Stopped n k → Stopped m l → refused k n ≡ refused l m
    same-refusal {n} {k} {m} {l} a b = ap₂ refused (same-limit a (subst (λ (i : ℕ). Stopped i l) (sym (same-node a b)) b)) (same-node a b)

    pub builds-determined : {x y : Answer} {t u : List ℕ} → Builds mode sheet types limits x t → Builds mode sheet types limits y u
        → (x ≡ y) × (t ≡ u)
    builds-determined (stops tables n number h built p over) (stops tables' m number' g built' q over') = (
      same-refusal (record { tables = tables; inside = h; built = built; policy = p; over = over }) (record { tables = tables'; inside = g; built = built'; policy = q; over = over' }),
      refl,
    )
    builds-determined (stops tables n number h built p over) (builds tables' built' last) =
        absurd (not-built (record { tables = tables; inside = h; built = built; policy = p; over = over }) tables' sheet.count h built')
    builds-determined (builds tables built last) (stops tables' m number g built' q over) =
        absurd (not-built (record { tables = tables'; inside = g; built = built'; policy = q; over = over }) tables sheet.count g built)
    builds-determined (builds tables built last) (builds tables' built' last') =
        let e : (last.rows ≡ last'.rows) × (tables (sheet.count - 1) ≡ tables' (sheet.count - 1)) = rows-unique right.formed.some-action last.fits last'.fits in
        (cc e.0, cc (e.0, e.1))

-- what is judged sound is no fault, and is one sheet
pub not-faulty : {X : Type 0} (bytes : List ℕ) {mode : Mode} {sheet : Sheet} {types : List NodeType} → judge bytes ≡ sound mode sheet types → (f : Fault) → judge bytes ≡ faulty f → X
not-faulty bytes e f d = absurd (let z : ◌≡◌ {A = ℕ} 0 1 = cc in omega arith)

-- The answer to a sheet, and its table, are determined by the sheet: what compiling gives is a function of the bytes and the limits.
pub compiles-determined : (bytes : List ℕ) (limits : Limits) {x y : Answer} {t u : List ℕ}
    → Compiles bytes limits x t → Compiles bytes limits y u → (x ≡ y) × (t ≡ u)
compiles-determined bytes limits (faulted f e) (faulted g d) =
    let same : f ≡ g = cc in
    (ap (λ (h : Fault). refused (number_of h) (spot_of h)) same, refl)
compiles-determined bytes limits (faulted f e) (passes mode sheet types j x t b) = not-faulty bytes j f e
compiles-determined bytes limits (passes mode sheet types j x t b) (faulted f e) = not-faulty bytes j f e
compiles-determined bytes limits (passes mode sheet types j x t b) (passes mode' sheet' types' j' y u b') =
    builds-determined (passed bytes j) limits b
    (subst (λ (m : Mode). Builds m sheet types limits y u) same-mode
    (subst (λ (s : Sheet). Builds mode' s types limits y u) same-sheet (subst (λ (l : List NodeType). Builds mode' sheet' l limits y u) same-types b')))
  where
    same-mode : mode' ≡ mode
    same-mode = cc

    same-sheet : sheet' ≡ sheet
    same-sheet = cc

    same-types : types' ≡ types
    same-types = cc
