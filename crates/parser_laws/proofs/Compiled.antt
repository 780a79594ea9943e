-- A text that is written and compiled: its table gives the verdict of the policy that the words are read as, and two texts with one action list
-- get the same table exactly when the same sequences satisfy their policies.
-- Assumes nothing.
use mathlib.Core.Path.{◌≡◌, refl, sym, ap, ap₂, subst, fun_ext, ◌∙◌}
use mathlib.Core.List.{List}
use mathlib.Core.Logic.{◌↔◌, ◌⊎◌, inl, inr}
use Prim.Native.Nat.{ℕ, ◌+◌, ◌*◌}
use native.Mathlib.Omega.{arith}
use lib.ListN.{length, take}
use Rattle.trace.specs.Trace.{Sequence}
use Rattle.trace.specs.declared.Mode.{Mode}
use Rattle.limits.specs.declared.Limits.{Limits}
use Rattle.limits.specs.Limits.{largest}
use Rattle.policy.specs.Policy.{Policy, satisfies}
use Rattle.table.specs.Table.{type_of, actions_of, verdict}
use Rattle.table.specs.Answer.{Answer, accepted, refused, mode_number}
use Rattle.typing.specs.Typed.{sound}
use Rattle.syntax.specs.declared.Sheet.{Sheet}
use Rattle.syntax.specs.declared.NodeType.{NodeType}
use Rattle.sheet_judge.specs.Judge.{judge}
use Rattle.grammar.specs.Words.{words_of}
use Rattle.grammar.specs.Grammar.{TextRule, Reads}
use Rattle.parsed_sheets.specs.Sheets.{sheet_for}
use Rattle.grammar.specs.declared.Category.TheVariants.{Text}
use Rattle.making.specs.Making.{IsTable}
use Rattle.compiler.specs.Compiles.{values, rows, Builds, stops, builds, Compiles, faulted, passes}
use Rattle.compiler.specs.Calling.{CompilesInto}
use Rattle.compiler_laws.specs.Demands.{ReadAs, NoneOver, OneActionList, SameSatisfied}
use Rattle.compiler_laws.proofs.CompiledTable.{TableOf, compiled-table}
use Rattle.compiler_laws.proofs.Demands.{none_over, table-exactly-unless-refused, same-table-exactly}
use Rattle.compiler_laws.proofs.Calls.{table-in-output}
use Rattle.board_policies.specs.Policies.{satisfies_sheet}
use Rattle.parsed_sheets.proofs.ListedNodes.{text-propositions}
use Rattle.parsed_sheets.proofs.Meanings.{text-policy}
use Rattle.parser.specs.Calling.{written, ReadsInto}
use Rattle.parser_laws.specs.Passing.{satisfies_over}
use Rattle.parser_laws.proofs.Passing.{text-sound, text-sound-as, text-never-faulty}

-- the mode of a sheet that is compiled
record Moded (bytes : List ℕ) (type : ℕ) : Type 0 where
  mode : Mode
  sheet : Sheet
  types : List NodeType
  judged : judge bytes ≡ sound mode sheet types
  type-is : type ≡ mode_number mode

built-type : {mode : Mode} {sheet : Sheet} {types : List NodeType} {limits : Limits} {type actions rows : ℕ} {table : List ℕ}
    → Builds mode sheet types limits (accepted type actions rows) table → type ≡ mode_number mode
built-type (builds tables built last) = refl

moded : (bytes : List ℕ) {limits : Limits} {type actions rows : ℕ} {table : List ℕ} → Compiles bytes limits (accepted type actions rows) table
    → Moded bytes type
moded bytes (passes mode sheet types j answer table b) = record { mode = mode; sheet = sheet; types = types; judged = j; type-is = built-type b }

-- the sheet of a policy is satisfied as the policy is
pub satisfied-sheet : (actions : List ℕ) (p : Policy) (w : List ℕ) → satisfies_sheet (sheet_for actions p) w ≡ satisfies_over actions p w
satisfied-sheet actions p w = ap₂ (λ (f : ℕ → ℕ) (q : Policy). satisfies f q w) (fun_ext (text-propositions actions p)) (text-policy actions p)

module _ {text actions out out'' : List ℕ} {bytes count nodes : ℕ} (call : ReadsInto text actions out (written bytes count nodes) out'') {rule : TextRule}
    (read : Reads Text (words_of text) rule) {type n rows : ℕ} {table : List ℕ}
    (compiles : Compiles (take bytes out'') largest (accepted type n rows) table) where
  -- the sheet of the rule is what is read from the bytes
  pub read_as : ReadAs (take bytes out'') (sheet_for actions rule.policy)
  read_as =
      let m = moded (take bytes out'') compiles in
      let same = (text-sound-as call read m.judged).1 in
      record { mode = m.mode; types = m.types; judged = subst (λ (s : Sheet). judge (take bytes out'') ≡ sound m.mode s m.types) same m.judged }

  table_of : TableOf (sheet_for actions rule.policy) type n rows table
  table_of = compiled-table (take bytes out'') largest (omega arith) read_as compiles

  -- The table's verdict after every sequence of the actions is that of the policy that the words are read as.
  pub text-compiled : (w : List ℕ) → Sequence (length actions) w → verdict table w ≡ satisfies_over actions rule.policy w
  text-compiled w s = table_of.verdicts w s ∙ satisfied-sheet actions rule.policy w

  -- Its type is the rule's mode, and its actions are the lent ones.
  pub text-compiled-type : type_of table ≡ mode_number rule.mode
  text-compiled-type =
      let m = moded (take bytes out'') compiles in
      table_of.type-is ∙ m.type-is ∙ ap mode_number (text-sound-as call read m.judged).0

  pub text-compiled-actions : actions_of table ≡ length actions
  text-compiled-actions = table_of.actions-are ∙ table_of.listed

-- a refusal of building: 8 or 9
over-number : {mode : Mode} {sheet : Sheet} {types : List NodeType} {limits : Limits} {number spot : ℕ} {table : List ℕ}
    → Builds mode sheet types limits (refused number spot) table → (number ≡ 8) ⊎ (number ≡ 9)
over-number (stops tables n number h built p (values over)) = inl refl
over-number (stops tables n number h built p (rows few over)) = inr refl

module _ {text actions out out'' : List ℕ} {bytes count nodes : ℕ} (call : ReadsInto text actions out (written bytes count nodes) out'') {rule : TextRule}
    (read : Reads Text (words_of text) rule) where
  -- The sheet of a text is refused by 8 or 9 only.
  pub text-refused-by : {limits : Limits} {number spot : ℕ} {table : List ℕ} → Compiles (take bytes out'') limits (refused number spot) table
      → (number ≡ 8) ⊎ (number ≡ 9)
  text-refused-by (faulted f e) = absurd (text-never-faulty call read f e)
  text-refused-by (passes mode sheet types j answer table b) = over-number b

  -- It is compiled exactly when no node of it is over a limit.
  pub text-table-exactly : {limits : Limits} {answer : Answer} {table : List ℕ} → Compiles (take bytes out'') limits answer table
      → IsTable answer ↔ NoneOver (sheet_for actions rule.policy) (text-sound call read).0 limits
  text-table-exactly {limits} c = (
    λ t. none_over (take bytes out'') limits ((table-exactly-unless-refused (take bytes out'') limits c).0 t) (text-sound call read).1,
    λ n. (table-exactly-unless-refused (take bytes out'') limits c).1 (record { sheet = sheet_for actions rule.policy; read = sound-read; none = n }),
  )
    where
      sound-read : ReadAs (take bytes out'') (sheet_for actions rule.policy)
      sound-read = record { mode = rule.mode; types = (text-sound call read).0; judged = (text-sound call read).1 }

  -- The table that the call writes into its output gives the verdict of the policy that the words are read as.
  pub text-call-compiled : {lent work values lent' work' values' : List ℕ} {type n rows : ℕ}
      → CompilesInto (take bytes out'') lent work values (accepted type n rows) lent' work' values'
      → (w : List ℕ) → Sequence (length actions) w → verdict (take (8 + rows * n) lent') w ≡ satisfies_over actions rule.policy w
  text-call-compiled c w s = let t = table-in-output c in rw t.2 (text-compiled call read t.1 w s)

-- Two texts with one action list that are written and compile get the same table, byte for byte, exactly when the same sequences of the actions
-- satisfy their policies.
module _ {text text' actions out out'' lent lent' : List ℕ} {bytes count nodes bytes' count' nodes' : ℕ}
    (call : ReadsInto text actions out (written bytes count nodes) out'') (call' : ReadsInto text' actions lent (written bytes' count' nodes') lent')
    {rule rule' : TextRule} (read : Reads Text (words_of text) rule) (read' : Reads Text (words_of text') rule') where
  pub texts-same-table-exactly : {type n rows type' n' rows' : ℕ} {table table' : List ℕ} → Compiles (take bytes out'') largest (accepted type n rows) table
      → Compiles (take bytes' lent') largest (accepted type' n' rows') table'
      → (table ≡ table') ↔ ((w : List ℕ) → Sequence (length actions) w → satisfies_over actions rule.policy w ≡ satisfies_over actions rule'.policy w)
  texts-same-table-exactly {table = table} {table'} c d = (
    λ e w s. sym (one w) ∙ (exactly.0 e).same w s ∙ other w,
    λ same. exactly.1 (record { same = λ w s. one w ∙ same w s ∙ sym (other w) }),
  )
    where
      one : (w : List ℕ) → satisfies_sheet (sheet_for actions rule.policy) w ≡ satisfies_over actions rule.policy w
      one = satisfied-sheet actions rule.policy

      other : (w : List ℕ) → satisfies_sheet (sheet_for actions rule'.policy) w ≡ satisfies_over actions rule'.policy w
      other = satisfied-sheet actions rule'.policy

      one_list : OneActionList (sheet_for actions rule.policy) (sheet_for actions rule'.policy)
      one_list = record { count = refl; entries = λ a h. text-propositions actions rule.policy a ∙ sym (text-propositions actions rule'.policy a) }

      exactly : (table ≡ table') ↔ SameSatisfied (sheet_for actions rule.policy) (sheet_for actions rule'.policy)
      exactly =
          same-table-exactly largest largest (omega arith) (omega arith) (take bytes out'') (take bytes' lent') (read_as call read c) (read_as call' read' d) one_list c d
