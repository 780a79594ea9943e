-- What is known of the actions read so far.
-- Assumes nothing.
use mathlib.Core.Path.{◌≡◌}
use mathlib.Core.Bool.{false}
use mathlib.Core.List.{List, []}
use Prim.Native.Nat.{ℕ, ◌+◌, ◌<◌}
use native.Mathlib.Decide.{ℕ_discrete}
use native.Mathlib.Omega.{arith}
use lib.ListN.{length, get_or, set}
use lib.Seq.{get_or-set_same, get_or-set_other}
use Rattle.grammar.specs.Words.{Word}
use Rattle.std.proofs.Common.{Some}
use Rattle.action_lists.specs.ActionLists.{action_of, is_doubled, Actions}

module _ {words : List Word} {sets : List ℕ} {count : ℕ} (a : Actions words sets count) where
  pub one-read : {value : ℕ} → count < length sets → count < length words → action_of (get_or words count []) ≡ Some value → is_doubled words (get_or words count []) count ≡ false
      → Actions words (set sets count value) (count + 1)
  one-read {value} room h e d =
      record {
        there = omega arith;
        each = λ j l. elim (ℕ_discrete j count) [
          | yes p ↦ rw (p, get_or-set_same sets count value 0 room) e
          | no q ↦ rw (get_or-set_other sets count j value 0 q) (a.each j (omega arith))
        ];
        apart = λ j l. elim (ℕ_discrete j count) [ yes p ↦ rw p d | no q ↦ a.apart j (omega arith) ];
      }
