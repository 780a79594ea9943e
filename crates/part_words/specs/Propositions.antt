-- Propositions that a rule names and no action has.
-- Assumes nothing.
use Rattle.std.specs.Prelude.{Bool, false, not, ◌&&◌, ◌||◌, List, [], ◌∷◌, ℕ, zero, suc, eqb}
use Rattle.base.specs.Sets.{bit}
use Rattle.sheet_layout.specs.Layout.{field}

-- A node is a proposition, kind 3, with this number.
abbrev pub is_named : (sheet : List ℕ) (node p : ℕ) → Bool
is_named sheet node p = eqb (field sheet node 0) 3 && eqb (field sheet node 1) p

-- One of the first n nodes is.
unfoldable pub named_below : (sheet : List ℕ) (p n : ℕ) → Bool
named_below sheet p zero = false
named_below sheet p (suc n) = named_below sheet p n || is_named sheet n p

-- Some action has the proposition.
unfoldable pub some_has : (actions : List ℕ) (p : ℕ) → Bool
some_has [] p = false
some_has (set ∷ rest) p = bit set p || some_has rest p

abbrev pub is_unheld : (sheet actions : List ℕ) (p : ℕ) → Bool
is_unheld sheet actions p = named_below sheet p 64 && not (some_has actions p)
