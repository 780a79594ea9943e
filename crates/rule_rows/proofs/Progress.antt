-- Building goes from node to node: the slots of earlier rules stay as they are, so what was built of them stays built.
-- Assumes nothing.
use mathlib.Core.Path.{◌≡◌, refl, sym, ◌∙◌, subst}
use mathlib.Core.List.{List}
use Rattle.std.proofs.Common.{Option, Some, None, Result, Ok, Err}
use Prim.Native.Nat.{ℕ, suc, ◌+◌, ◌≤◌, ◌<◌}
use native.Mathlib.Decide.{ℕ_discrete}
use native.Mathlib.Omega.{arith}
use lib.ListN.{length}
use Rattle.trace.specs.Trace.{Step}
use Rattle.limits.specs.Lengths.{work_length, numbers_length}
use Rattle.limits.specs.declared.Limits.{Limits}
use Rattle.policy.specs.Parts.{AllParts}
use Rattle.policy.specs.Rule.{Rule}
use Rattle.policy.specs.Value.{Part, start}
use Rattle.rules.specs.Codes.{encode}
use Rattle.rules.specs.Rules.{slot_at, rule_at, rule_over, Readable, EarlierRule}
use Rattle.rules.specs.Steps.{code_step_of, code_step, code_start}
use Rattle.rules.specs.declared.NodeRule.{NodeRule}
use Rattle.rules.proofs.RuleParts.{all_map}
use Rattle.rules.proofs.Slots.{same-slots}
use Rattle.machine_rows.specs.Builds.{SlotBuilt}
use Rattle.machine_rows.specs.declared.OverLimit.{OverLimit}
use Rattle.machine_rows.specs.declared.OverLimit.TheVariants.{Values, Rows}
use Rattle.machine_rows.proofs.BuiltSlots.{built-readable}
use Rattle.rule_rows.specs.Next.{NextTo, NextBuildable}
use Rattle.rule_rows.specs.Lists.{AllBuildable, RuleBuilt, BuiltTo, LastRows, NodeOver}

-- what holds of a rule's machine holds of it over any work area with the same slots for its parts
moved : (actions : ℕ) (before behind : List ℕ) (P : Step ℕ → ℕ → Type 0) (rule : NodeRule) → AllParts (λ j. slot_at behind j ≡ slot_at before j) (rule_over rule)
    → P (code_step actions before rule) (code_start actions before rule) → P (code_step actions behind rule) (code_start actions behind rule)
moved actions before behind P rule e p =
    subst (λ (m : Rule Part). P (code_step_of m) (encode m (start m))) (sym (same-slots actions behind before rule e)) p

-- no rule is not a rule, and a node is one rule
not-rule : {A : Type 0} {of : Option NodeRule} {rule : NodeRule} → of ≡ None → of ≡ Some rule → A
not-rule e f = absurd (let z : ◌≡◌ {A = ℕ} 0 1 = cc in omega arith)

same-rule : {rule other : NodeRule} → ◌≡◌ {A = Option NodeRule} (Some rule) (Some other) → rule ≡ other
same-rule e = cc

-- what building node n says of the list
abbrev pub Advances : List (Option NodeRule) → (count actions : ℕ) (limits : Limits) (n : ℕ) → Result ℕ OverLimit → List ℕ → Type 0
Advances rules count actions limits n (Ok rows) work =
    BuiltTo rules actions limits (n + 1) work × LastRows rules actions limits (n + 1) rows work
Advances rules count actions limits n (Err limit) work = NodeOver rules count actions limits n limit work

module _ {rules : List (Option NodeRule)} {count actions : ℕ} {limits : Limits} {work₀ values₀ : List ℕ}
    (lent : AllBuildable rules count actions limits work₀ values₀) where
  module _ {n : ℕ} (inside : n < count) {before : List ℕ} (built : BuiltTo rules actions limits n before) where
    part-readable : (i : ℕ) → EarlierRule rules n i → Readable before i
    part-readable i e =
        let h : i < 64 = omega (arith, e.before, lent.few) in
        built-readable before i (built.each i e.before e.rule e.is) lent.range.row.high h

    -- so node n can be built
    pub next-buildable : (node : Option NodeRule) → rule_at rules n ≡ node → (values : List ℕ) → work_length ≤ length before → numbers_length ≤ length values
        → NextBuildable node before n actions limits values
    next-buildable None e values room space = tt
    next-buildable (Some rule) e values room space = (
      record {
        room = room;
        parts = all_map (EarlierRule rules n) (Readable before) part-readable (rule_over rule) (lent.parts n inside rule e);
      },
      record {
        bytes = room;
        slot = omega (arith, lent.few);
        actions-low = lent.actions-low;
        actions-high = lent.actions-high;
        range = lent.range;
        room = space;
      },
    )

    -- behind it the other slots are as they were
    module _ (behind : List ℕ) (others : (i : ℕ) → (i ≡ n → ⊥) → slot_at behind i ≡ slot_at before i) where
      parts-kept : (i : ℕ) → i < count → i ≤ n → (rule : NodeRule) → rule_at rules i ≡ Some rule → AllParts (λ j. slot_at behind j ≡ slot_at before j) (rule_over rule)
      parts-kept i h g rule e =
          all_map (EarlierRule rules i) (λ j. slot_at behind j ≡ slot_at before j) (λ j p. let l = p.before in others j (λ q. omega arith)) (rule_over rule)
          (lent.parts i h rule e)

      rule-kept : (i : ℕ) → i < n → (rule : NodeRule) → rule_at rules i ≡ Some rule → RuleBuilt actions limits behind i rule
      rule-kept i h rule e =
          moved actions before behind (λ step first. SlotBuilt actions step first limits (slot_at behind i)) rule (parts-kept i (omega arith) (omega arith) rule e)
          (rw (others i (λ q. omega arith)) (built.each i h rule e))

      -- and with its own slot one node more is built
      module _ (rows : ℕ)
          (own : (rule : NodeRule) → rule_at rules n ≡ Some rule
          → (b : SlotBuilt actions (code_step actions before rule) (code_start actions before rule) limits (slot_at behind n)) × (b.rows ≡ rows)) where
        own-moved : (rule : NodeRule) → rule_at rules n ≡ Some rule → (b : RuleBuilt actions limits behind n rule) × (b.rows ≡ rows)
        own-moved rule e =
            moved actions before behind (λ step first. (b : SlotBuilt actions step first limits (slot_at behind n)) × (b.rows ≡ rows)) rule
            (parts-kept n inside (omega arith) rule e) (own rule e)

        pub one_more : BuiltTo rules actions limits (n + 1) behind × LastRows rules actions limits (n + 1) rows behind
        one_more = (record { each = each }, record { newest = newest })
          where
            each : (i : ℕ) → i < n + 1 → (rule : NodeRule) → rule_at rules i ≡ Some rule → RuleBuilt actions limits behind i rule
            each i h rule e =
                elim (ℕ_discrete i n) [
                  | yes q ↦ rw q (own-moved rule (rw q at e)).0
                  | no q ↦ rule-kept i (omega arith) rule e
                ]

            newest : (m : ℕ) → n + 1 ≡ suc m → (rule : NodeRule) → rule_at rules m ≡ Some rule
                → (b : RuleBuilt actions limits behind m rule) × (b.rows ≡ rows)
            newest m h rule e = let q : m ≡ n = omega arith in rw q (own-moved rule (rw q at e))

    none_passed : rule_at rules n ≡ None → BuiltTo rules actions limits (n + 1) before × LastRows rules actions limits (n + 1) 0 before
    none_passed e = one_more before (λ i q. refl) 0 (λ rule f. not-rule e f)

    pub advances : (node : Option NodeRule) → rule_at rules n ≡ node → (is : Result ℕ OverLimit) (behind : List ℕ)
        → NextTo node actions limits n is before behind → Advances rules count actions limits n is behind
    advances None e is behind (f, same) = rw (f, same) (none_passed e)
    advances (Some rule) e (Ok rows) behind w =
        one_more behind w.others rows (λ other f. rw (← same-rule (sym e ∙ f)) (w.built, w.counted))
    advances (Some rule) e (Err Values) behind (over, same) =
        rw same (record { inside = inside; earlier = built; rule = rule; is = e; over = over })
    advances (Some rule) e (Err Rows) behind (few, over, same) =
        rw same (record { inside = inside; earlier = built; rule = rule; is = e; few-values = few; over = over })
