-- The rows in a slot of the work area can be read, a rule over such slots fits, and its machine depends
-- on the slots of its parts alone.
-- Assumes nothing.
use mathlib.Core.Path.{◌≡◌, ap}
use mathlib.Core.List.{List}
use Prim.Native.Nat.{ℕ, ◌≤◌, ◌<◌}
use native.Mathlib.Omega.{arith}
use lib.ListN.{get_or}
use Rattle.automaton.specs.Machine.{transition}
use Rattle.policy.specs.Parts.{AllParts}
use Rattle.rules.specs.Rules.{slot_at, part_at, rule_over, machine_rule, Readable}
use Rattle.rules.specs.declared.NodeRule.{NodeRule}
use Rattle.rules.proofs.RuleParts.{all_map, on-parts-agree}

-- a slot whose entries are rows below n or trips
module _ (work : List ℕ) (i n : ℕ) (few : n ≤ 64)
    (entries : (k : ℕ) → (get_or (slot_at work i) k 255 ≡ 255 → ⊥) → get_or (slot_at work i) k 255 < n) where
  pub slot-readable : i < 64 → Readable work i
  slot-readable h = record { node = h; entries = λ k r. let g = entries k r in omega arith }

-- work areas whose slots are the same for the parts have the same machine for the rule
pub same-slots : (actions : ℕ) (work other : List ℕ) (rule : NodeRule) → AllParts (λ i. slot_at work i ≡ slot_at other i) (rule_over rule)
    → machine_rule actions work rule ≡ machine_rule actions other rule
same-slots actions work other rule e =
    on-parts-agree (part_at actions work) (part_at actions other) (rule_over rule)
    (all_map (λ i. slot_at work i ≡ slot_at other i) (λ i. part_at actions work i ≡ part_at actions other i)
    (λ i p. ap (λ (slot : List ℕ). transition 255 actions slot) p) (rule_over rule) e)
