-- Action formulas (docs/FORMATS.md, "Action formulas"; Xu and Fong, definition 5) over the 16 propositions that an action may satisfy.
-- Assumes nothing.
use Rattle.std.specs.Prelude.{Bool, true, false, not, ◌&&◌, ◌||◌, ℕ}
use Rattle.base.specs.Sets.{bit}

pub data Formula : Type 0 where
  always-true : Formula
  always-false : Formula
  proposition : ℕ → Formula
  negation : Formula → Formula
  conjunction : Formula → Formula → Formula
  disjunction : Formula → Formula → Formula

-- Whether an action satisfies the formula. Its propositions are a set of bits: bit p of the number is set when it satisfies proposition p.
abbrev pub holds : Formula → ℕ → Bool
holds always-true s = true
holds always-false s = false
holds (proposition p) s = bit s p
holds (negation f) s = not (holds f s)
holds (conjunction f g) s = holds f s && holds g s
holds (disjunction f g) s = holds f s || holds g s
