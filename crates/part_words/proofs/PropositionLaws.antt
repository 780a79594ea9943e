-- Laws of the tests for a proposition: one node more, one action more.
-- Assumes nothing.
use mathlib.Core.Path.{◌≡◌, refl}
use mathlib.Core.Bool.{false, ◌||◌}
use mathlib.Core.List.{List}
use Prim.Native.Nat.{ℕ, ◌+◌}
use native.Mathlib.Numerals.{add-one}
use Rattle.part_words.specs.Propositions.{is_named, named_below}

pub none_named : (sheet : List ℕ) (p : ℕ) → false ≡ named_below sheet p 0
unfolding named_below
none_named sheet p = refl

pub named_more : (sheet : List ℕ) (p n : ℕ) → named_below sheet p n || is_named sheet n p ≡ named_below sheet p (n + 1)
unfolding named_below
named_more sheet p n = rw (add-one n)
