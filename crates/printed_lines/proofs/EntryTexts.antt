-- The text of an entry and of the next one, by their cases.
-- Assumes nothing.
use mathlib.Core.Path.{◌≡◌, refl}
use mathlib.Core.List.{◌++◌}
use Prim.Native.Nat.{ℕ, zero, suc}
use native.Mathlib.Omega.{arith}
use borrow.Author.Tests.{eq-eqb, ne_eqb}
use Rattle.text_writer.specs.Decimals.{decimal}
use Rattle.printed_lines.specs.Text.{dash, blank, entry_text, next_text}

pub trip-entry : (e : ℕ) → e ≡ 255 → dash ≡ entry_text e
trip-entry e h = simp (eq-eqb e 255 h)

pub row-entry : (e : ℕ) → (e ≡ 255 → ⊥) → decimal e ≡ entry_text e
row-entry e h = simp (ne_eqb e 255 h)

pub first_next : (k e : ℕ) → k ≡ 0 → entry_text e ≡ next_text k e
first_next zero e h = refl
first_next (suc k) e h = absurd (omega arith)

pub later-next : (k e : ℕ) → (k ≡ 0 → ⊥) → blank ++ entry_text e ≡ next_text k e
later-next zero e h = absurd (h refl)
later-next (suc k) e h = refl
