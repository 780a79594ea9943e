-- What is listed on the sheet of an action list and nodes: these, and blanks after them.
-- Assumes nothing.
use mathlib.Core.Path.{◌≡◌, ap, ◌∙◌}
use mathlib.Core.List.{List}
use Prim.Native.Nat.{ℕ, ◌+◌, ◌-◌, ◌≤◌, ◌<◌}
use native.Mathlib.Decide.{dec_lt}
use native.Mathlib.Omega.{arith}
use lib.ListN.{length, get_or, replicate, length-append, length-replicate, get_or-append, get_or-eq_default}
use lib.Seq.{get_or-append-add}
use Rattle.base.proofs.Lists.{get_or-blank}
use Rattle.syntax.specs.Nodes.{node_of, propositions_of}
use Rattle.syntax.specs.Formed.{Formed}
use Rattle.syntax.specs.declared.Node.{Node}
use Rattle.syntax.specs.declared.Node.TheVariants.{True}
use Rattle.sheet_writer.specs.Bytes.{Writable}
use Rattle.sheet_writer.specs.Sheets.{Narrow, filled_to, listed_sheet}

module _ {A : Type 0} (size : ℕ) (blank : A) (l : List A) where
  pub length-filled : length l ≤ size → length (filled_to size blank l) ≡ size
  length-filled h = length-append l (replicate (size - length l) blank) ∙ omega (arith, length-replicate (size - length l) blank)

  -- what stands after the list is blank, as past its end
  pub get_or-filled : (i : ℕ) → get_or (filled_to size blank l) i blank ≡ get_or l i blank
  get_or-filled i = by (dec_lt i (length l))
    where
      by : Dec (i < length l) → get_or (filled_to size blank l) i blank ≡ get_or l i blank
      by (yes h) = get_or-append l (replicate (size - length l) blank) blank i h
      by (no h) =
          let z : i ≡ length l + (i - length l) = omega arith in
          let e : get_or l i blank ≡ blank = get_or-eq_default l blank (omega arith) in
          rw e
          (ap (λ (k : ℕ). get_or (filled_to size blank l) k blank) z ∙ get_or-append-add l (replicate (size - length l) blank) (i - length l) blank
          ∙ get_or-blank (size - length l) (i - length l) blank)

module _ (actions : List ℕ) (nodes : List Node) where
  -- The sheet lists the actions and the nodes as they are given.
  pub sheet-propositions : (a : ℕ) → propositions_of (listed_sheet actions nodes) a ≡ get_or actions a 0
  sheet-propositions = get_or-filled 16 0 actions

  pub sheet-nodes : (n : ℕ) → node_of (listed_sheet actions nodes) n ≡ get_or nodes n True
  sheet-nodes n = get_or-filled 64 True nodes n

  -- A formed sheet of actions of 16 bits is as reading gives it.
  pub writable : Narrow actions → Formed (listed_sheet actions nodes) → Writable (listed_sheet actions nodes)
  writable narrow formed =
      record {
        formed = formed;
        narrow = λ a h. rw (sheet-propositions a) (narrow a h);
        behind =
            record {
              sixteen = length-filled 16 0 actions formed.few-actions;
              no-action = λ a h. sheet-propositions a ∙ get_or-eq_default actions 0 h;
              sixty-four = length-filled {A = Node} 64 True nodes formed.few-nodes;
              no_node = λ n h. sheet-nodes n ∙ get_or-eq_default nodes True h;
            };
      }
