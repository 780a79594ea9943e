-- What is printed of a compiled sheet is the text of what compiling gives.
-- Assumes nothing.
use mathlib.Core.Path.{◌≡◌, refl, ap, subst, ◌∙◌}
use mathlib.Core.List.{List, ◌++◌}
use Prim.Native.Nat.{ℕ, zero, suc, ◌+◌, ◌*◌, ◌≤◌}
use native.Mathlib.Nat.{suc-mul}
use native.Mathlib.Omega.{arith}
use lib.ListN.{length, take, drop, length-append, length-drop}
use lib.Seq.{take-append-le, drop-append-le}
use Rattle.trace.specs.declared.Mode.{Mode}
use Rattle.limits.specs.Limits.{largest}
use Rattle.table.specs.Answer.{Answer, accepted, refused, mode_number}
use Rattle.table.specs.Table.{entries_of}
use Rattle.compiler.specs.Compiles.{Compiles}
use Rattle.making.specs.Making.{Areas, short, makes}
use Rattle.compiler.specs.Calling.{CompilesInto}
use Rattle.compiler_laws.proofs.CompiledTable.{CompiledAs, compiled-as}
use Rattle.compiler_laws.proofs.Spots.{refused-low}
use Rattle.printed_lines.specs.Text.{mode_word, counts, row_line, row_lines, table_text, refusal_text}
use Rattle.printing.specs.Printing.{PrintOutcome, TableInRange, RefusalInRange, GivesText, PrintsTable, PrintsRefusal, out_of_range, in-range}
use Rattle.sheet_printing.specs.SheetText.{PrintsAnswer, PrintsSheet, of-table, of-refusal}

-- what stands behind the rows is not read
row-front : (actions from : ℕ) (xs ys : List ℕ) → from + actions ≤ length xs → take actions (drop from (xs ++ ys)) ≡ take actions (drop from xs)
row-front actions from xs ys h =
    ap (take actions) (drop-append-le from xs ys (omega arith))
    ∙ take-append-le actions (drop from xs) ys (omega (arith, length-drop from xs))

rows-front : (actions n : ℕ) (xs ys : List ℕ) → n * actions ≤ length xs → row_lines actions n (xs ++ ys) ≡ row_lines actions n xs
rows-front actions zero xs ys h = refl
rows-front actions (suc n) xs ys h =
    ap (λ (l : List ℕ). l ++ row_line (take actions (drop (n * actions) (xs ++ ys)))) (rows-front actions n xs ys (omega (arith, suc-mul n actions)))
    ∙ ap (λ (l : List ℕ). row_lines actions n xs ++ row_line l) (row-front actions (n * actions) xs ys (omega (arith, suc-mul n actions)))

-- a table with bytes behind it
module _ (mode : Mode) (actions rows : ℕ) (written rest : List ℕ) (size : length written ≡ 8 + rows * actions) where
  entries-front : entries_of (written ++ rest) ≡ entries_of written ++ rest
  entries-front = drop-append-le 8 written rest (omega arith)

  text-front : table_text mode actions rows (entries_of (written ++ rest)) ≡ table_text mode actions rows (entries_of written)
  text-front =
      ap (table_text mode actions rows) entries-front
      ∙ ap (λ (l : List ℕ). mode_word mode ++ (counts actions rows ++ l)) (rows-front actions rows (entries_of written) rest (omega (arith, length-drop 8 written)))

module _ (bytes : List ℕ) where
  refused-small : {written : List ℕ} {number spot : ℕ} → Compiles bytes largest (refused number spot) written → RefusalInRange number spot
  refused-small c = let l = refused-low bytes c in record { number-high = omega (arith, l.0); spot-high = omega (arith, l.1) }

  module _ {written : List ℕ} {type actions rows : ℕ} (c : Compiles bytes largest (accepted type actions rows) written) where
    abbrev whole : CompiledAs bytes type actions rows written
    whole = compiled-as bytes largest (omega arith) c

    table-size : length written ≡ 8 + rows * actions
    table-size = whole.table.accepted.formed.whole ∙ rw (whole.table.rows_are, whole.table.actions-are)

    table-in-range : (rest : List ℕ) → TableInRange actions rows (entries_of (written ++ rest))
    table-in-range rest =
        let h = whole.table.accepted.formed.header in
        record {
          actions-low = omega (arith, h.actions-low, whole.table.actions-are);
          actions-high = omega (arith, h.actions-high, whole.table.actions-are);
          rows-low = omega (arith, h.rows-low, whole.table.rows_are);
          rows-high = omega (arith, h.rows-high, whole.table.rows_are);
          enough = omega (arith, length-drop 8 (written ++ rest), length-append written rest, table-size);
        }

module _ (bytes : List ℕ) {written old : List ℕ} where
  table-printed : {new : List ℕ} {printed : PrintOutcome} {actions rows : ℕ} (mode : Mode) (rest : List ℕ) → Compiles bytes largest (accepted (mode_number mode) actions rows) written
      → PrintsTable mode actions rows (entries_of (written ++ rest)) old printed new → PrintsSheet bytes old printed new
  table-printed mode rest c (out_of_range f) = absurd (f (table-in-range bytes c rest))
  table-printed {actions = actions} {rows} mode rest c (in-range printed new r g) =
      record {
        answer = accepted (mode_number mode) actions rows;
        written = written;
        text = table_text mode actions rows (entries_of written);
        compiled = c;
        said = of-table mode actions rows;
        given = subst (λ (l : List ℕ). GivesText l old printed new) (text-front mode actions rows written rest (table-size bytes c)) g;
      }

  refusal-printed : {new : List ℕ} {printed : PrintOutcome} {number spot : ℕ} → Compiles bytes largest (refused number spot) written → PrintsRefusal number spot old printed new
      → PrintsSheet bytes old printed new
  refusal-printed c (out_of_range f) = absurd (f (refused-small bytes c))
  refusal-printed {number = number} {spot} c (in-range printed new r g) =
      record { answer = refused number spot; written = written; text = refusal_text number spot; compiled = c; said = of-refusal number spot; given = g }

-- the table stands at the front of its area
sheet-printed : (bytes rest : List ℕ) {written old new : List ℕ} {answer : Answer} {printed : PrintOutcome} → Compiles bytes largest answer written
    → PrintsAnswer (entries_of (written ++ rest)) old answer printed new → PrintsSheet bytes old printed new
sheet-printed bytes rest c (of-table mode actions rows printed new p) = table-printed bytes mode rest c p
sheet-printed bytes rest c (of-refusal number spot printed new p) = refusal-printed bytes c p

pub into-printed : {bytes out work values written work' values' old new : List ℕ} {answer : Answer} {printed : PrintOutcome} → Areas out work values
    → CompilesInto bytes out work values answer written work' values' → PrintsAnswer (entries_of written) old answer printed new
    → PrintsSheet bytes old printed new
into-printed areas (short n) p = absurd (n areas)
into-printed {bytes} {out} areas (makes _ answer written c) p = sheet-printed bytes (drop (length written) out) c p
