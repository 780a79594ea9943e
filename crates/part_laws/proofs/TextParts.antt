-- The part of a rule text that is shown: for bytes that hold the sheet of a text, and a node that is a policy, the words that are shown are read as
-- the node's policy, and stand in the text behind `words_before` words.
-- Assumes nothing.
use Rattle.syntax.specs.declared.NodeType.{NodeType}
use mathlib.Core.Path.{◌≡◌, sym, ap, ◌∙◌}
use mathlib.Core.List.{List, ◌∷◌, ◌++◌}
use Prim.Native.Nat.{ℕ, ◌≤◌, ◌<◌}
use native.Mathlib.Omega.{arith}
use lib.ListN.{length, drop}
use Rattle.trace.specs.declared.Mode.{Mode}
use Rattle.policy.specs.declared.Bound.{Bound}
use Rattle.syntax.specs.Types.{type_at}
use Rattle.syntax.specs.Meaning.{node_policy}
use Rattle.syntax.specs.declared.NodeType.TheVariants.{Policy}
use Rattle.sheet_judge.specs.JudgedFrom.{JudgedFrom}
use Rattle.grammar.specs.Words.{Word, words_of}
use Rattle.grammar.specs.Grammar.{TextRule, Reads}
use Rattle.grammar.specs.Nodes.{policy_nodes}
use Rattle.grammar.specs.declared.Category.TheVariants.{Text}
use Rattle.parsed_sheets.specs.Sheets.{sheet_for}
use Rattle.part_words.specs.Parts.{part_text}
use Rattle.part_words.specs.Places.{words_before}
use Rattle.part_laws.specs.Spelled.{policy_size, first_word}
use Rattle.part_laws.proofs.Spelled.{one-spelling}
use Rattle.part_laws.proofs.PartSpelled.{means-policy, part-spelled, part-reads}
use Rattle.part_laws.proofs.TextPlaces.{node-size, words-before}

module _ (actions : List ℕ) {ws : List Word} {rule : TextRule} (reads : Reads Text ws rule) (bytes : List ℕ) {mode : Mode} (types : List NodeType)
    (judged : JudgedFrom bytes mode (sheet_for actions rule.policy) types) (n : ℕ) (below : n < length (policy_nodes 0 rule.policy))
    {m : Mode} {k : Bound} (is : type_at types n ≡ Policy m k) where
  -- no part of a text is cut
  small : policy_size (node_policy (sheet_for actions rule.policy) n) ≤ 64
  small =
      let few = judged.formed.few-nodes in
      omega (arith, (means-policy bytes (sheet_for actions rule.policy) types judged n below is).size, node-size actions rule.policy bytes judged.read n below)

  pub text-part-reads : Reads Text (first_word m ∷ words_of (part_text bytes n)) (record { mode = m; policy = node_policy (sheet_for actions rule.policy) n })
  text-part-reads = part-reads bytes (sheet_for actions rule.policy) types judged n below is small

  pub text-part-stands : (rest : List Word) × (drop (words_before bytes n) ws ≡ words_of (part_text bytes n) ++ rest)
  text-part-stands =
      let s = sheet_for actions rule.policy in
      let i = words-before actions rule.policy bytes judged.read n below rule.mode in
      let shown = sym (part-spelled bytes s types judged n below is small ∙ sym (means-policy bytes s types judged n below is).words) in
      (i.0, ap (drop (words_before bytes n)) (one-spelling reads) ∙ i.1 ∙ ap (λ (l : List Word). l ++ i.0) shown)
