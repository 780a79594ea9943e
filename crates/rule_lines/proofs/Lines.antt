-- Laws of the lines of a rule: where it stops, goes on and ends.
-- Assumes nothing.
use mathlib.Core.Path.{◌≡◌, refl}
use mathlib.Core.Bool.{Bool, true, false, cond}
use mathlib.Core.List.{List, [], ◌∷◌}
use Prim.Native.Nat.{ℕ, ◌+◌, ◌-◌, ◌≤◌, ◌<◌}
use native.Mathlib.Decide.{ℕ_discrete}
use native.Mathlib.Omega.{arith}
use lib.Dec.{eqb}
use lib.ListN.{length, drop, length-take, length-drop}
use Rattle.fields.specs.Fields.{lengthen_first, split_by, fields_from, between, EndsField}
use Rattle.rule_lines.specs.RuleFiles.{is_separator, newline_before, rule_length}

-- there is always a line
long-first : (byte : ℕ) (lines : List (List ℕ)) → newline_before (lengthen_first byte lines) ≡ 1
long-first byte [] = refl
long-first byte (line ∷ lines) = refl

either : (b : Bool) (lines more : List (List ℕ)) → newline_before lines ≡ 1 → newline_before more ≡ 1 → newline_before (cond b lines more) ≡ 1
either true lines more p q = p
either false lines more p q = q

some-line : (file : List ℕ) → newline_before (split_by 10 file) ≡ 1
unfolding split_by
some-line [] = refl
some-line (byte ∷ rest) = either (eqb byte 10) ([] ∷ split_by 10 rest) (lengthen_first byte (split_by 10 rest)) refl (long-first byte (split_by 10 rest))

line-length : (file : List ℕ) (from to : ℕ) → from ≤ to → to ≤ length file → length (between file from to) ≡ to - from
line-length file from to h l = simp (length-take, length-drop) (omega arith)

module _ {file : List ℕ} {k end : ℕ} (e : EndsField 10 file k end) where
  stops : (lines : List (List ℕ)) → is_separator (between file k end) ≡ true → rule_length (between file k end ∷ lines) ≡ 0
  unfolding rule_length
  stops lines t = rw t

  pub rule-stops : is_separator (between file k end) ≡ true → rule_length (fields_from 10 file k) ≡ 0
  rule-stops t = elim (ℕ_discrete end (length file)) [ yes p ↦ rw (e.last p) (stops [] t) | no q ↦ rw (e.more (omega (arith, e.within))) (stops (fields_from 10 file (end + 1)) t) ]

  goes : (lines : List (List ℕ)) → is_separator (between file k end) ≡ false
      → rule_length (between file k end ∷ lines) ≡ length (between file k end) + (newline_before lines + rule_length lines)
  unfolding rule_length
  goes lines f = rw f

  pub rule-goes-on : is_separator (between file k end) ≡ false → end < length file
      → k + rule_length (fields_from 10 file k) ≡ (end + 1) + rule_length (fields_from 10 file (end + 1))
  rule-goes-on f h =
      let lines = fields_from 10 file (end + 1) in
      let here : rule_length (fields_from 10 file k) ≡ length (between file k end) + (newline_before lines + rule_length lines) = rw (e.more h) (goes lines f) in
      omega (arith, here, line-length file k end e.onward e.within, some-line (drop (end + 1) file), e.onward)

  none_left : rule_length [] ≡ 0
  unfolding rule_length
  none_left = refl

  pub rule-ends : is_separator (between file k end) ≡ false → end ≡ length file → k + rule_length (fields_from 10 file k) ≡ end
  rule-ends f p =
      let here : rule_length (fields_from 10 file k) ≡ length (between file k end) + (newline_before [] + rule_length []) = rw (e.last p) (goes [] f) in
      omega (arith, here, line-length file k end e.onward e.within, none_left, e.onward)
