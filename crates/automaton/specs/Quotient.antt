-- The quotient of a machine by a partition: a row for each class, that of its first member, with classes for states.
-- Assumes nothing.
use Rattle.std.specs.Prelude.{List, ℕ, ◌+◌, ◌*◌, ◌/◌, ◌%◌, ◌≤◌, ◌<◌, length, get_or}
use Rattle.base.specs.Build.{build}
use Rattle.automaton.specs.Partition.{class_of, first_of}

-- Entry k of the quotient, which stands in row k / actions at action k % actions. A trip is 255.
abbrev pub quotient_entry : (actions : ℕ) (next classes firsts : List ℕ) → ℕ → ℕ
quotient_entry actions next classes firsts k =
    class_of classes (get_or next (first_of firsts (k / actions) * actions + k % actions) 0)

abbrev pub quotient_rows : (actions count : ℕ) (next classes firsts : List ℕ) → List ℕ
quotient_rows actions count next classes firsts = build (count * actions) (quotient_entry actions next classes firsts)

-- What is lent to a quotient: first members that are states, and room for the rows.
pub record Divisible (actions count : ℕ) (next firsts out : List ℕ) : Type 0 where
  pub acting : 0 < actions
  pub inside : (c : ℕ) → c < count → first_of firsts c * actions + actions ≤ length next
  pub listed : count ≤ length firsts
  pub room : count * actions ≤ length out
