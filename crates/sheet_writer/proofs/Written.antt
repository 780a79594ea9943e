-- The bytes of a sheet: their lengths, an entry more stored after those before, and the action list after the header.
-- Assumes nothing.
use Rattle.syntax.specs.declared.Node.{Node}
use mathlib.Core.Path.{◌≡◌, refl, ◌∙◌}
use mathlib.Core.List.{List, ◌++◌}
use Prim.Native.Nat.{ℕ, ◌+◌, ◌*◌}
use native.Mathlib.Numerals.{add-one}
use native.Mathlib.Omega.{arith}
use lib.ListN.{length, get_or, length-append}
use lib.Seq.{sets}
use Rattle.base.specs.Word.{word_bytes}
use Rattle.base.proofs.Joined.{length-joined}
use Rattle.base.proofs.Lists.{sets_then}
use Rattle.syntax.specs.Nodes.{node_at}
use Rattle.syntax.specs.declared.Sheet.{Sheet}
use Rattle.sheet_writer.specs.Bytes.{node_bytes, header_bytes, action_bytes, front_bytes, nodes_bytes, sheet_bytes}

length-actions : (propositions : List ℕ) (a : ℕ) → length (action_bytes propositions a) ≡ 2 * a
length-actions propositions = length-joined 2 (λ a. word_bytes (get_or propositions a 0)) (λ a. refl)

length-nodes : (nodes : List Node) (n : ℕ) → length (nodes_bytes nodes n) ≡ 5 * n
length-nodes nodes = length-joined 5 (λ i. node_bytes (node_at nodes i)) (λ i. refl)

pub actions-more : (l : List ℕ) (from : ℕ) (propositions : List ℕ) (a : ℕ)
    → sets (sets l from (action_bytes propositions a)) (from + 2 * a) (word_bytes (get_or propositions a 0)) ≡ sets l from (action_bytes propositions (a + 1))
actions-more l from propositions a =
    rw (add-one a)
    (sets_then l from (action_bytes propositions a) (word_bytes (get_or propositions a 0)) (from + 2 * a) (omega (arith, length-actions propositions a)))

-- the header and the action list stored one after the other
pub front-written : (l propositions : List ℕ) (actions count : ℕ) {x y : List ℕ} → x ≡ sets l 0 (header_bytes actions count)
    → y ≡ sets x 10 (action_bytes propositions actions) → y ≡ sets l 0 (front_bytes actions count propositions)
front-written l propositions actions count p q = rw (q, p) (sets_then l 0 (header_bytes actions count) (action_bytes propositions actions) 10 refl)

module _ (sheet : Sheet) where
  pub length_front : length (header_bytes sheet.actions sheet.count ++ action_bytes sheet.propositions sheet.actions) ≡ 10 + 2 * sheet.actions
  length_front =
      length-append (header_bytes sheet.actions sheet.count) (action_bytes sheet.propositions sheet.actions)
      ∙ omega (arith, length-actions sheet.propositions sheet.actions)

  pub length-sheet : length (sheet_bytes sheet) ≡ 10 + 2 * sheet.actions + 5 * sheet.count
  length-sheet =
      length-append (header_bytes sheet.actions sheet.count ++ action_bytes sheet.propositions sheet.actions) (nodes_bytes sheet.nodes sheet.count)
      ∙ omega (arith, length_front, length-nodes sheet.nodes sheet.count)
