-- The table of a compiled sheet is accepted, has the answer's type, actions and rows, and gives its policy's verdict after every sequence.
-- Assumes nothing.
use mathlib.Core.Path.{◌≡◌, refl, ◌∙◌, ap, subst}
use mathlib.Core.List.{List}
use Prim.Native.Nat.{ℕ, ◌-◌, ◌≤◌}
use native.Mathlib.Omega.{arith}
use Rattle.trace.specs.declared.Mode.{Mode}
use Rattle.trace.specs.declared.Mode.TheVariants.{Watched, Enforced}
use Rattle.trace.specs.Trace.{Sequence}
use Rattle.limits.specs.declared.Limits.{Limits}
use Rattle.policy.specs.Policy.{satisfies}
use Rattle.policy.proofs.Rules.{verdict-satisfied}
use Rattle.automaton.specs.Minimal.{RowsOf}
use Rattle.table.specs.Table.{type_of, actions_of, rows_of, entries_of, Accepted, verdict_by, verdict}
use Rattle.table.specs.Answer.{accepted as accepts, mode_number}
use Rattle.syntax.specs.Nodes.{propositions_of}
use Rattle.syntax.specs.Meaning.{sheet_policy}
use Rattle.typing.specs.Typed.{sound, SoundSheet}
use Rattle.syntax.specs.declared.Sheet.{Sheet}
use Rattle.syntax.specs.declared.NodeType.{NodeType}
use Rattle.typing.proofs.Meanings.{policy-of}
use Rattle.sheet_judge.specs.Judge.{judge}
use Rattle.node_rules.specs.Nodes.{trips_node}
use Rattle.making.proofs.TableBytes.{MadeOf, made_of}
use Rattle.compiler.specs.Compiles.{Builds, builds, Compiles, passes}
use Rattle.compiler.proofs.Passed.{passed}
use Rattle.compiler_laws.specs.Demands.{ReadAs, trips_sheet}

mode-low : (mode : Mode) → 1 ≤ mode_number mode
mode-low Watched = omega arith
mode-low Enforced = omega arith

mode-high : (mode : Mode) → mode_number mode ≤ 2
mode-high Watched = omega arith
mode-high Enforced = omega arith

-- one sheet is read from the bytes
pub same-sheet : {bytes : List ℕ} {sheet other : Sheet} → ReadAs bytes sheet → ReadAs bytes other → sheet ≡ other
same-sheet a b = cc (a.judged, b.judged)

-- What a compiled sheet's table is.
pub record TableOf (sheet : Sheet) (type actions rows : ℕ) (written : List ℕ) : Type 0 where
  pub accepted : Accepted written
  pub type-is : type_of written ≡ type
  pub actions-are : actions_of written ≡ actions
  pub listed : actions ≡ sheet.actions
  pub rows_are : rows_of written ≡ rows
  pub fits : RowsOf sheet.actions (trips_sheet sheet) rows (entries_of written)
  pub verdicts : (w : List ℕ) → Sequence sheet.actions w → verdict written w ≡ satisfies (propositions_of sheet) (sheet_policy sheet) w

-- A sheet, read from the bytes, with its table.
pub record CompiledAs (bytes : List ℕ) (type actions rows : ℕ) (written : List ℕ) : Type 0 where
  pub sheet : Sheet
  pub read : ReadAs bytes sheet
  pub table : TableOf sheet type actions rows written

module _ {mode : Mode} {sheet : Sheet} {types : List NodeType} (right : SoundSheet mode sheet types) {rows : ℕ} {written : List ℕ}
    (made : MadeOf (mode_number mode) sheet.actions (trips_sheet sheet) rows written) where
  gives : (w : List ℕ) → Sequence sheet.actions w → verdict written w ≡ satisfies (propositions_of sheet) (sheet_policy sheet) w
  gives w s =
      ap (verdict_by (type_of written)) (made.reads w s)
      ∙ ap (λ (type : ℕ). verdict_by type (trips_node sheet (sheet.count - 1) w)) made.type-is
      ∙ verdict-satisfied (propositions_of sheet) (λ m. verdict_by (mode_number m)) (λ b. refl) (λ b. refl) mode (sheet_policy sheet) right.bound
      (policy-of sheet types right (sheet.count - 1) (omega (arith, right.formed.some-node)) right.last) w

  table_of : TableOf sheet (mode_number mode) sheet.actions rows written
  table_of =
      record {
        accepted = made.accepted;
        type-is = made.type-is;
        actions-are = made.actions-are;
        listed = refl;
        rows_are = made.rows_are;
        fits = made.fits;
        verdicts = gives;
      }

built-type : {mode : Mode} {sheet : Sheet} {types : List NodeType} {limits : Limits} {type actions rows : ℕ} {written : List ℕ}
    → Builds mode sheet types limits (accepts type actions rows) written → type ≡ mode_number mode
built-type (builds tables built last) = refl

-- The type of a compiled table is that of its sheet, under whatever limits.
pub compiled-type : {bytes : List ℕ} {mode : Mode} {sheet : Sheet} {types : List NodeType} → judge bytes ≡ sound mode sheet types
    → {limits : Limits} {type actions rows : ℕ} {written : List ℕ} → Compiles bytes limits (accepts type actions rows) written → type ≡ mode_number mode
compiled-type {mode = mode} j (passes other sheet types k answer written b) = built-type b ∙ ap mode_number (let e : other ≡ mode = cc in e)

module _ (bytes : List ℕ) (limits : Limits) (small : limits.rows ≤ 64) where
  from-built : {mode : Mode} {sheet : Sheet} {types : List NodeType} → judge bytes ≡ sound mode sheet types → {type actions rows : ℕ} {written : List ℕ}
      → Builds mode sheet types limits (accepts type actions rows) written → CompiledAs bytes type actions rows written
  from-built {mode} {sheet} {types} j (builds tables built last) =
      record {
        sheet = sheet;
        read = record { mode = mode; types = types; judged = j };
        table =
            let right = passed bytes j in
            table_of right
            (made_of (mode_number mode) sheet.actions (mode-low mode) (mode-high mode) right.formed.some-action right.formed.few-actions
            (omega (arith, last.few-rows)) last.fits);
      }

  -- A sheet is compiled to an accepted table that gives its policy's verdict after every sequence.
  pub compiled-as : {type actions rows : ℕ} {written : List ℕ} → Compiles bytes limits (accepts type actions rows) written
      → CompiledAs bytes type actions rows written
  compiled-as (passes mode sheet types j answer written b) = from-built j b

  -- A compiled table is accepted.
  pub compiled-accepted : {type actions rows : ℕ} {written : List ℕ} → Compiles bytes limits (accepts type actions rows) written → Accepted written
  compiled-accepted c = (compiled-as c).table.accepted

  -- the same of the sheet that is read from the bytes
  pub compiled-table : {sheet : Sheet} → ReadAs bytes sheet → {type actions rows : ℕ} {written : List ℕ}
      → Compiles bytes limits (accepts type actions rows) written → TableOf sheet type actions rows written
  compiled-table {sheet} r {type} {actions} {rows} {written} c = by (compiled-as c)
    where
      by : CompiledAs bytes type actions rows written → TableOf sheet type actions rows written
      by a = subst (λ (s : Sheet). TableOf s type actions rows written) (same-sheet a.read r) a.table

  -- A compiled table gives its policy's verdict after every sequence.
  pub compiled-verdict : {sheet : Sheet} → ReadAs bytes sheet → {type actions rows : ℕ} {written : List ℕ}
      → Compiles bytes limits (accepts type actions rows) written → (w : List ℕ) → Sequence sheet.actions w
      → verdict written w ≡ satisfies (propositions_of sheet) (sheet_policy sheet) w
  compiled-verdict r c = (compiled-table r c).verdicts
