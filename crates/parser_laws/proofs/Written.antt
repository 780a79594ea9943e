-- A text that is written: its sheet is the front of the output, as long as its counts say, and the bytes behind it are as they were.
-- Assumes nothing.
use mathlib.Core.Path.{◌≡◌, refl, subst}
use mathlib.Core.List.{List}
use Prim.Native.Nat.{ℕ, ◌+◌, ◌*◌, ◌≤◌}
use lib.ListN.{length, take, drop}
use lib.Seq.{take_at, drop_at}
use Rattle.sheet_writer.specs.Bytes.{sheet_bytes}
use Rattle.sheet_writer.proofs.Written.{length-sheet}
use Rattle.grammar.specs.Words.{words_of}
use Rattle.grammar.specs.Grammar.{TextRule, Reads}
use Rattle.grammar.specs.Nodes.{policy_nodes}
use Rattle.parsed_sheets.specs.Sheets.{sheet_for}
use Rattle.grammar.specs.declared.Category.TheVariants.{Text}
use Rattle.grammar.proofs.OneReading.{one-reading}
use Rattle.sheet_writer.specs.Sheets.{SomeActions, Narrow}
use Rattle.parser.specs.Calling.{written, reads, ReadsInto, judged}

-- What a call that writes a sheet says of the rule that the words are read as.
pub record WrittenAs (actions out : List ℕ) (bytes count nodes : ℕ) (out'' : List ℕ) (rule : TextRule) : Type 0 where
  pub some-actions : SomeActions actions
  pub narrow : Narrow actions
  pub few : length (policy_nodes 0 rule.policy) ≤ 64
  pub front : take bytes out'' ≡ sheet_bytes (sheet_for actions rule.policy)
  pub behind : drop bytes out'' ≡ drop bytes out
  pub size : bytes ≡ 10 + 2 * count + 5 * nodes
  pub actions-are : count ≡ length actions
  pub nodes-are : nodes ≡ length (policy_nodes 0 rule.policy)

a-rule : {text actions out out'' : List ℕ} {bytes count nodes : ℕ} → ReadsInto text actions out (written bytes count nodes) out''
    → (rule : TextRule) × Reads Text (words_of text) rule × WrittenAs actions out bytes count nodes out'' rule
a-rule {actions = actions} (judged h s l _ _ (reads r a f narrow)) =
    let sheet = sheet_for actions r.policy in (
      r,
      a,
      record {
        some-actions = s;
        narrow = narrow;
        few = f;
        front = take_at (sheet_bytes sheet) _ _ refl;
        behind = drop_at (sheet_bytes sheet) _ _ refl;
        size = length-sheet sheet;
        actions-are = refl;
        nodes-are = refl;
      },
    )

module _ {text actions out out'' : List ℕ} {bytes count nodes : ℕ} (call : ReadsInto text actions out (written bytes count nodes) out'') {rule : TextRule}
    (read : Reads Text (words_of text) rule) where
  pub written_as : WrittenAs actions out bytes count nodes out'' rule
  written_as = let w = a-rule call in subst (WrittenAs actions out bytes count nodes out'') (one-reading w.1 read) w.2

  -- The sheet of the rule that the words are read as is the front of the output, and the bytes behind it are as they were.
  pub sheet-in-output : (take bytes out'' ≡ sheet_bytes (sheet_for actions rule.policy)) × (drop bytes out'' ≡ drop bytes out)
  sheet-in-output = (written_as.front, written_as.behind)

  -- The counts of the answer: the sheet's length, the lent actions and the nodes of the policy.
  pub sheet-counts : (bytes ≡ 10 + 2 * count + 5 * nodes) × (count ≡ length actions) × (nodes ≡ length (policy_nodes 0 rule.policy))
  sheet-counts = (written_as.size, written_as.actions-are, written_as.nodes-are)
