-- How long the pieces of a text can be.
-- Assumes nothing.
use mathlib.Core.Path.{◌≡◌, refl}
use mathlib.Core.List.{List, ◌++◌}
use Prim.Native.Nat.{ℕ, zero, suc, ◌+◌, ◌*◌, ◌≤◌}
use native.Mathlib.Omega.{arith}
use lib.Dec.{eqb}
use lib.ListN.{length, get_or, take, drop, length-append, length-take}
use Rattle.trace.specs.declared.Mode.{Mode}
use Rattle.trace.specs.declared.Mode.TheVariants.{Enforced, Watched}
use Rattle.text_writer.specs.Decimals.{decimal}
use Rattle.text_writer.proofs.Numerals.{length-either, length-decimal}
use Rattle.printed_lines.specs.Text.{dash, newline, mode_word, spaced, counts, entry_text, next_text, entries_text, row_line, row_lines, refused, table_text, refusal_text}

pub length-mode : (mode : Mode) → length (mode_word mode) ≡ 3
length-mode Enforced = refl
length-mode Watched = refl

pub length-spaced : (n : ℕ) → length (spaced n) ≤ 4
length-spaced n = omega (arith, length-decimal n)

pub length-counts : (first second : ℕ) → length (counts first second) ≤ 9
length-counts first second =
    omega (arith, length-append (spaced first) (spaced second ++ newline), length-append (spaced second) newline, length-spaced first, length-spaced second)

pub length-entry : (e : ℕ) → length (entry_text e) ≤ 3
length-entry e = length-either (eqb e 255) dash (decimal e) 3 (omega arith) (length-decimal e)

pub length-next : (k e : ℕ) → length (next_text k e) ≤ 4
length-next zero e = omega (arith, length-entry e)
length-next (suc k) e = omega (arith, length-entry e)

pub length-entries : (row : List ℕ) (n : ℕ) → length (entries_text row n) ≤ 4 * n
length-entries row zero = omega arith
length-entries row (suc n) =
    omega (arith, length-append (entries_text row n) (next_text n (get_or row n 0)), length-entries row n, length-next n (get_or row n 0))

pub length-row : (row : List ℕ) → length (row_line row) ≤ 4 * length row + 1
length-row row = omega (arith, length-append (entries_text row (length row)) newline, length-entries row (length row))

pub length-rows : (actions n : ℕ) (entries : List ℕ) → actions ≤ 16 → length (row_lines actions n entries) ≤ 65 * n
length-rows actions zero entries h = omega arith
length-rows actions (suc n) entries h =
    let row : List ℕ = take actions (drop (n * actions) entries) in
    omega (arith, length-append (row_lines actions n entries) (row_line row), length-rows actions n entries h, length-row row, length-take actions (drop (n * actions) entries))

pub length-refusal : (number spot : ℕ) → length (refusal_text number spot) ≤ 16
length-refusal number spot = omega (arith, length-append refused (counts number spot), length-counts number spot)

pub length-table : (mode : Mode) (actions rows : ℕ) (entries : List ℕ) → actions ≤ 16 → rows ≤ 64 → length (table_text mode actions rows entries) ≤ 4172
length-table mode actions rows entries h g =
    omega (
      arith,
      length-append (mode_word mode) (counts actions rows ++ row_lines actions rows entries),
      length-append (counts actions rows) (row_lines actions rows entries),
      length-mode mode,
      length-counts actions rows,
      length-rows actions rows entries h,
    )

-- how long the pieces of rows can be
pub ruleset lengths = (length-append, length-next, length-entries, length-row, length-rows)

-- how long the counts can be
pub ruleset counted = (length-append, length-counts)
