-- The rows that stand in the slots of the work area, as a list of entries for each node, and each slot as its node's machine.
-- Assumes nothing.
use mathlib.Core.Path.{◌≡◌, refl, sym, ◌∙◌, ap, subst, fun_ext}
use mathlib.Core.List.{List, []}
use Prim.Native.Nat.{ℕ, ◌+◌, ◌*◌, ◌<◌}
use native.Mathlib.Decide.{dec_lt}
use native.Mathlib.Omega.{arith}
use lib.ListN.{get_or, take, length-take, get_or-eq_default}
use lib.Seq.{get_or-take}
use Rattle.std.specs.Prelude.{Option, Some, None}
use Rattle.limits.specs.declared.Limits.{Limits}
use Rattle.automaton.specs.Machine.{transition, entry_move}
use Rattle.rules.specs.Rules.{slot_at, part_at, rule_at}
use Rattle.rules.specs.declared.NodeRule.{NodeRule}
use Rattle.rule_rows.specs.Lists.{RuleBuilt, BuiltTo}

module _ (rules : List (Option NodeRule)) (actions : ℕ) (limits : Limits) (n : ℕ) (work : List ℕ) (built : BuiltTo rules actions limits n work) where
  -- what is built for a rule in slot i
  abbrev Slot : NodeRule → ℕ → Type 0
  Slot rule i = RuleBuilt actions limits work i rule

  entries_by : (i : ℕ) → Dec (i < n) → (l : Option NodeRule) → rule_at rules i ≡ l → List ℕ
  entries_by i (yes h) (Some rule) e = take ((built.each i h rule e).rows * actions) (slot_at work i)
  entries_by i (yes h) None e = []
  entries_by i (no h) l e = []

  -- The rows of each node before n; nothing for a formula, and for the nodes behind.
  pub slot_tables : ℕ → List ℕ
  slot_tables i = entries_by i (dec_lt i n) (rule_at rules i) refl

  pub slot-table : (i : ℕ) → i < n → (rule : NodeRule) → rule_at rules i ≡ Some rule → (s : Slot rule i) × (slot_tables i ≡ take (s.rows * actions) (slot_at work i))
  unfolding entries_by slot_tables
  slot-table i h rule e = by (dec_lt i n) (rule_at rules i) refl
    where
      by : (d : Dec (i < n)) (l : Option NodeRule) (q : rule_at rules i ≡ l) → (s : Slot rule i) × (entries_by i d l q ≡ take (s.rows * actions) (slot_at work i))
      by (yes g) (Some other) q =
          let same : other ≡ rule = let d = sym q ∙ e in cc in
          subst (λ (r : NodeRule). (s : Slot r i) × (entries_by i (yes g) (Some other) q ≡ take (s.rows * actions) (slot_at work i))) same (built.each i g other q, refl)
      by (yes g) None q = absurd (let d = sym q ∙ e in let z : ◌≡◌ {A = ℕ} 0 1 = cc in omega arith)
      by (no g) l q = absurd (g h)

  -- the slot, read as a machine, is the machine of its rows
  pub slot-part : (i : ℕ) → i < n → (rule : NodeRule) → rule_at rules i ≡ Some rule → part_at actions work i ≡ transition 255 actions (slot_tables i)
  slot-part i h rule e =
      let t = slot-table i h rule e in
      fun_ext (λ s. fun_ext (λ a. ap (entry_move 255) (entry t.0 (s * actions + a) ∙ ap (λ (l : List ℕ). get_or l (s * actions + a) 255) (sym t.1))))
    where
      entry : (s : Slot rule i) (k : ℕ) → get_or (slot_at work i) k 255 ≡ get_or (take (s.rows * actions) (slot_at work i)) k 255
      entry s k =
          elim (dec_lt k (s.rows * actions)) [
            | yes g ↦ sym (get_or-take (s.rows * actions) (slot_at work i) k 255 g)
            | no g ↦
                s.blank k (omega arith)
                ∙ sym (get_or-eq_default (take (s.rows * actions) (slot_at work i)) 255 {n = k} (omega (arith, length-take (s.rows * actions) (slot_at work i))))
          ]
