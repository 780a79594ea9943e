-- Bytes are judged by the first fault of checks 1 to 5, or a sheet is read from them.
-- Assumes nothing.
use Rattle.sheet_reading.specs.declared.NodeError.TheVariants.{WrongField, UnknownKind}
use Rattle.std.proofs.Common.{Ok, Err}
use mathlib.Core.Path.{◌≡◌, refl, sym, ap, ◌∙◌}
use mathlib.Core.Bool.{Bool, true, false, cond}
use mathlib.Core.List.{List}
use Prim.Native.Nat.{ℕ, ◌<◌}
use native.Mathlib.Omega.{arith}
use Rattle.syntax.specs.Faults.{number_of}
use Rattle.syntax.specs.Nodes.{sheet_of}
use Rattle.syntax.specs.declared.Fault.{Fault}
use Rattle.syntax.specs.declared.Fault.TheVariants.{Length, Counts, Areas, UnknownKindAt, WrongFieldAt}
use Rattle.typing.specs.Typed.{faulty}
use Rattle.sheet_layout.specs.Layout.{layout_in, action_count, node_count, length_right, counts_right, areas_right, layout_of, WellLaid}
use Rattle.sheet_layout.proofs.Header.{laid, from-laid}
use Rattle.sheet_reading.specs.Reading.{NodeRead, node_read, RightBefore, read_nodes, read_next, read_actions, stopped_at}
use Rattle.sheet_reading.specs.declared.NodesRead.{NodesRead}
use Rattle.sheet_reading.proofs.ReadNodes.{stopped-at, ReadTo, all_right, no_kind, no_field, read-to, right-read}
use Rattle.sheet_reading.proofs.ReadFrom.{read_all}
use Rattle.sheet_judge.specs.Judge.{judge_read, judge_laid, judge}
use Rattle.sheet_judge.specs.Malformed.{Malformed, wrong-length, wrong-counts, wrong-areas, unknown-kind, wrong-field, MalformedOrRead, malformed, read}

module _ (bytes : List ℕ) where
  -- where the areas are found
  module _ (found : layout_of bytes ≡ Ok (layout_in bytes)) where
    well-laid : WellLaid bytes
    well-laid = (from-laid bytes found).0

    by-nodes : {nodes : NodesRead} → ReadTo bytes (node_count bytes) nodes
        → MalformedOrRead bytes (judge_read (action_count bytes) (read_actions bytes (action_count bytes)) (node_count bytes) nodes)
    by-nodes (all_right l) = read (sheet_of (action_count bytes) (read_actions bytes (action_count bytes)) (node_count bytes) _) (read_all bytes found l)
    by-nodes (no_kind i h l e) = malformed (UnknownKindAt i) (unknown-kind well-laid i h (λ k g. (_, l.each k g)) e)
    by-nodes (no_field i h l e) = malformed (WrongFieldAt i) (wrong-field well-laid i h (λ k g. (_, l.each k g)) e)

  by_layout : (x y z : Bool) → length_right bytes ≡ x → counts_right bytes ≡ y → areas_right bytes ≡ z
      → MalformedOrRead bytes (judge_laid bytes
      (cond x (cond y (cond z (Ok (layout_in bytes)) (Err Areas)) (Err Counts)) (Err Length)))
  by_layout true true true l c a = by-nodes found (read-to bytes (node_count bytes) (well-laid found).few-nodes)
    where
      found : layout_of bytes ≡ Ok (layout_in bytes)
      found = rw (l, c, a)
  by_layout true true false l c a = malformed Areas (wrong-areas l c a)
  by_layout true false z l c a = malformed Counts (wrong-counts l c)
  by_layout false y z l c a = malformed Length (wrong-length l)

  -- Bytes are judged by the first fault of checks 1 to 5, or as the sheet that is read from them.
  pub malformed-or-read : MalformedOrRead bytes (judge bytes)
  malformed-or-read = by_layout (length_right bytes) (counts_right bytes) (areas_right bytes) refl refl refl

  stopped : WellLaid bytes → (n : ℕ) → n < node_count bytes → RightBefore bytes n → (r : NodeRead) → node_read bytes n ≡ r → (f : Fault)
      → read_next n (read_nodes bytes n).nodes r ≡ stopped_at (read_nodes bytes n).nodes f → judge bytes ≡ faulty f
  stopped w n h before r e f q =
      ap (judge_laid bytes) (laid bytes w)
      ∙ rw (stopped-at bytes n (read_nodes bytes n).nodes (right-read bytes n before) r (sym e) (node_count bytes) f h q)

  -- Such a fault is the one that is judged.
  pub malformed-judged : {f : Fault} → Malformed bytes f → judge bytes ≡ faulty f
  malformed-judged (wrong-length l) = rw l
  malformed-judged (wrong-counts l c) = rw (l, c)
  malformed-judged (wrong-areas l c a) = rw (l, c, a)
  malformed-judged (unknown-kind w n h before e) = stopped w n h before (Err UnknownKind) e (UnknownKindAt n) refl
  malformed-judged (wrong-field w n h before e) = stopped w n h before (Err WrongField) e (WrongFieldAt n) refl

-- Its number is 1 to 5.
pub malformed-number : {bytes : List ℕ} {f : Fault} → Malformed bytes f → number_of f < 6
malformed-number (wrong-length l) = omega arith
malformed-number (wrong-counts l c) = omega arith
malformed-number (wrong-areas l c a) = omega arith
malformed-number (unknown-kind w n h before e) = omega arith
malformed-number (wrong-field w n h before e) = omega arith
