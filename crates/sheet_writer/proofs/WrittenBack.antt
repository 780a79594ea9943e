-- The promise of the writer: where the bytes of the nodes are those of a list of nodes, the sheet of these stands at the front of the output, and is read
-- back and judged as that sheet.
-- Assumes nothing.
use mathlib.Core.Path.{◌≡◌, refl, sym, ap, ◌∙◌}
use mathlib.Core.List.{List, ◌++◌, append_assoc}
use Prim.Native.Nat.{ℕ, ◌+◌, ◌*◌, ◌≤◌}
use native.Mathlib.Nat.{zero-add}
use lib.ListN.{length, take, drop}
use lib.Seq.{take_at}
use Rattle.syntax.specs.Formed.{Formed}
use Rattle.syntax.specs.declared.Node.{Node}
use Rattle.typing.specs.Typed.{judge_sheet}
use Rattle.sheet_reading.specs.ReadFrom.{ReadFrom}
use Rattle.sheet_judge.specs.Judge.{judge}
use Rattle.sheet_writer.specs.Bytes.{front_bytes, all_bytes, sheet_bytes}
use Rattle.sheet_writer.specs.Sheets.{listed_sheet}
use Rattle.sheet_writer.specs.Writing.{Wrote, sheet_length, WritesSheet}
use Rattle.sheet_writer.proofs.Written.{length-sheet}
use Rattle.sheet_writer.proofs.ReadBack.{held, read-back}
use Rattle.sheet_writer.proofs.Lists.{writable}
use Rattle.sheet_writer.proofs.SheetWritten.{sheet-bytes}

-- all nodes are written, from the front on
all-written : {nodes : List Node} {before after : List ℕ} → Wrote nodes 0 before after → length nodes ≤ 64 → take (5 * length nodes) after ≡ all_bytes nodes
all-written {nodes} w few = let z : 0 + length nodes ≡ length nodes = zero-add (length nodes) in rw z at (w.front (rw z few))

module _ {actions : List ℕ} {nodes : List Node} {before bytes out out'' : List ℕ} {size : ℕ} (w : Wrote nodes 0 before bytes) (few : length nodes ≤ 64)
    (s : WritesSheet actions (length nodes) bytes out size out'') where
  abbrev written : List ℕ
  written = sheet_bytes (listed_sheet actions nodes)

  pub sheet-size : size ≡ length written
  sheet-size = s.size_is ∙ sym (length-sheet (listed_sheet actions nodes))

  joined : front_bytes (length actions) (length nodes) actions ++ (all_bytes nodes ++ drop (sheet_length actions (length nodes)) out) ≡ written ++ drop (length written) out
  joined =
      sym (append_assoc (front_bytes (length actions) (length nodes) actions) (all_bytes nodes) _)
      ∙ ap (λ (l : List ℕ). l ++ drop (sheet_length actions (length nodes)) out) (sym (sheet-bytes actions nodes))
      ∙ ap (λ (n : ℕ). written ++ drop n out) (sym (length-sheet (listed_sheet actions nodes)))

  -- The sheet stands at the front of the output, and what stood after it still does.
  pub sheet-out : out'' ≡ written ++ drop (length written) out
  sheet-out = s.output ∙ rw (all-written w few) joined

  front : take size out'' ≡ written
  front = rw (sheet-size, sheet-out) (take_at written (drop (length written) out) (length written) refl)

  -- Where the sheet is formed, what is read from there is that sheet, and it is judged as that sheet is.
  pub written_back : Formed (listed_sheet actions nodes) → ReadFrom (take size out'') (listed_sheet actions nodes)
  written_back formed = rw front (held (listed_sheet actions nodes) (writable actions nodes s.narrow formed))

  pub written-judged : Formed (listed_sheet actions nodes) → judge (take size out'') ≡ judge_sheet (listed_sheet actions nodes)
  written-judged formed = rw front (read-back (listed_sheet actions nodes) (writable actions nodes s.narrow formed))
