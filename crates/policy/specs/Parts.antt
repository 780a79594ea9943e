-- What is asked of a rule's parts and of its count.
-- Assumes nothing.
use Rattle.std.specs.Prelude.{◌≤◌}
use Rattle.policy.specs.Rule.{Rule, opening-r, count-r, same-r, both_r, either_r, copied-r, before-r, after-r, fulfilling-r, ignoring-r}

-- Q holds of every part.
abbrev pub AllParts : {P : Type 0} → (P → Type 0) → Rule P → Type 0
AllParts Q (opening-r hit) = Unit {0}
AllParts Q (count-r k) = Unit {0}
AllParts Q (same-r a) = Q a
AllParts Q (both_r a b) = Q a × Q b
AllParts Q (either_r a b) = Q a × Q b
AllParts Q (copied-r a) = Q a
AllParts Q (before-r a b) = Q a × Q b
AllParts Q (after-r a b) = Q a × Q b
AllParts Q (fulfilling-r k a b c) = Q a × Q b × Q c
AllParts Q (ignoring-r hit a) = Q a

-- A count of none would trip at the empty sequence.
abbrev pub Positive : {P : Type 0} → Rule P → Type 0
Positive (opening-r hit) = Unit {0}
Positive (count-r k) = 1 ≤ k
Positive (same-r a) = Unit {0}
Positive (both_r a b) = Unit {0}
Positive (either_r a b) = Unit {0}
Positive (copied-r a) = Unit {0}
Positive (before-r a b) = Unit {0}
Positive (after-r a b) = Unit {0}
Positive (fulfilling-r k a b c) = Unit {0}
Positive (ignoring-r hit a) = Unit {0}
