-- `part_words::parts::add_node` meets its contract.
use mathlib.Core.Path.{◌≡◌}
use mathlib.Core.List.{List, ◌∷◌, ◌++◌}
use Prim.Native.Nat.{ℕ}
use Rattle.sheet_layout.specs.Layout.{field}
use Rattle.messages.proofs.Adding.{adds_then, adds-as}
use Rattle.part_words.specs.Kinds.{kind_word}
use Rattle.part_words.specs.Parts.{argument_text, node_text}
use Rattle.part_words.proofs.parts.add_node.Goals as goal

node-text : (sheet : List ℕ) (node kind argument : ℕ) → kind ≡ field sheet node 0 → argument ≡ field sheet node 1
    → 32 ∷ (kind_word (field sheet node 0) ++ argument_text kind argument) ≡ node_text sheet node
node-text sheet node kind argument p q = rw (p, q)

pub returns : goal.returns
returns c =
    let a = c.args in
    adds-as (node-text a.sheet.now a.node _ _ c.node_field-kind.ensures c.node_field-argument.ensures)
    (adds_then c.put-word.ensures (adds_then c.add_kind-next.ensures c.add_argument.ensures))
