-- A policy's machine, computed from those of its parts by exploring the values that its rule remembers, and a computed test that it is
-- right: then it has at most 64 states and trips where the policy does.
-- Assumes nothing.
use mathlib.Core.Path.{◌≡◌, refl, sym, ◌∙◌, ap}
use mathlib.Core.Bool.{Bool, true, false, cond, ◌&&◌}
use mathlib.Core.List.{List, [], ◌∷◌, ◌++◌}
use Prim.Native.Nat.{ℕ, zero, suc, ◌+◌, ◌*◌, ◌<◌}
use native.Mathlib.Decide.{dec_lt}
use native.Mathlib.Omega.{arith}
use lib.Dec.{eqb}
use lib.ListN.{length, get_or, get_or-eq_default}
use borrow.Author.Tests.{eqb-false}
use Rattle.base.proofs.Truths.{not-true, and-true}
use Rattle.base.specs.Build.{build}
use Rattle.trace.specs.Trace.{Move, trip, go, Step, Sequence, trips}
use Rattle.automaton.specs.Machine.{entry_move, transition}
use Rattle.policy.specs.Operators.{Property}
use Rattle.policy.specs.Policy.{Policy}
use Rattle.policy.specs.Rule.{Rule, on_parts, rule_trips, rule_of}
use Rattle.policy.specs.Parts.{AllParts}
use Rattle.policy.specs.Closed.{Below, Closed}
use Rattle.policy.specs.Trips.{trips_policy, Typed}
use Rattle.policy.specs.Agree.{Agree}
use Rattle.policy.specs.Value.{Part, part_trips, start}
use Rattle.policy.proofs.Parts.{all-apply}
use Rattle.policy.proofs.Rules.{rule-parts, rule-trips}
use Rattle.policy.proofs.Congruent.{rule-congruent}
use Rattle.policy.proofs.Steps.{steps-trip}
use Rattle.rules.specs.Codes.{encode, FitRule}
use Rattle.rules.specs.Steps.{code_step_of}
use Rattle.rules.proofs.Fitting.{fit-sound, code-trips}
use Rattle.starred.proofs.Tests.{all_below, all-below}
use Rattle.starred.proofs.Bisimulation.{gather, reach, alike_test, alike-sound}
use Rattle.starred.proofs.RuleTests.{parts_pass, count_fits, parts-pass, counted, all_both}
use Rattle.policy.proofs.Parts.{on-parts-compose}
use Rattle.starred.proofs.Tables.{entry_fits, entry-fits}

-- The machine of a rule: its states are the values reached, in the order met.
abbrev moved_to : Move ℕ → List ℕ
moved_to trip = []
moved_to (go c) = c ∷ []

abbrev place_in : List ℕ → ℕ → ℕ
place_in [] c = 0
place_in (d ∷ ds) c = cond (eqb c d) 0 (suc (place_in ds c))

abbrev entry_of : List ℕ → Move ℕ → ℕ
entry_of codes trip = 255
entry_of codes (go c) = place_in codes c

abbrev rows_for : (actions : ℕ) → Step ℕ → (codes rest : List ℕ) → List ℕ
rows_for actions step codes [] = []
rows_for actions step codes (c ∷ rest) = build actions (λ a. entry_of codes (step c a)) ++ rows_for actions step codes rest

abbrev rows_over : (actions : ℕ) → Step ℕ → List ℕ → List ℕ
rows_over actions step codes = rows_for actions step codes codes

abbrev explored : (actions : ℕ) → Step ℕ → ℕ → List ℕ
explored actions step c = rows_over actions step (reach eqb (λ c. gather actions (λ a. moved_to (step c a))) c)

-- A list of next states is closed with 64 states.
abbrev closed_test : List ℕ → Bool
closed_test next = all_below (length next) (λ k. entry_fits 64 (get_or next k 255))

next-closed : (actions : ℕ) (next : List ℕ) → closed_test next ≡ true → Closed 64 (transition 255 actions next)
next-closed actions next e = record { pos = omega arith; few = omega arith; stay = λ r a h. move (get_or next (r * actions + a) 255) (fits (r * actions + a)) }
  where
    fits : (k : ℕ) → (get_or next k 255 ≡ 255 → ⊥) → get_or next k 255 < 64
    fits k h =
        elim (dec_lt k (length next)) [
          | yes p ↦ entry-fits 64 (get_or next k 255) (all-below (length next) (λ k. entry_fits 64 (get_or next k 255)) e k p) h
          | no q ↦ absurd (h (get_or-eq_default next 255 (omega arith)))
        ]

    move : (e : ℕ) → ((e ≡ 255 → ⊥) → e < 64) → Below 64 (entry_move 255 e)
    move e h = by (eqb e 255) refl
      where
        by : (b : Bool) → eqb e 255 ≡ b → Below 64 (entry_move 255 e)
        by true p = rw p tt
        by false p = rw p (h (eqb-false e 255 p))

module _ (actions : ℕ) (propositions : ℕ → ℕ) where
  -- a rule over machines
  abbrev over : (Policy → List ℕ) → Policy → Rule Part
  over machine p = on_parts (λ a. transition 255 actions (machine a)) (rule_of propositions p)

  abbrev start_code : Rule Part → ℕ
  start_code rule = encode rule (start rule)

  -- The machine of a policy whose parts nest less than n deep.
  abbrev pub machine_of : ℕ → Policy → List ℕ
  machine_of zero p = []
  machine_of (suc n) p = explored actions (code_step_of (over (machine_of n) p)) (start_code (over (machine_of n) p))

  abbrev right_for : List ℕ → Rule Part → Bool
  right_for next rule =
      closed_test next && (count_fits rule && alike_test actions (transition 255 actions next) (code_step_of rule) 0 (start_code rule))

  abbrev pub machine_test : ℕ → Policy → Bool
  machine_test zero p = false
  machine_test (suc n) p = right_for (machine_of (suc n) p) (over (machine_of n) p) && parts_pass (machine_test n) (rule_of propositions p)

  pub record MachineRight (next : List ℕ) (p : Policy) : Type 0 where
    pub closed : Closed 64 (transition 255 actions next)
    pub agrees : Agree actions (part_trips (transition 255 actions next)) (trips_policy propositions p)

  module _ (machine : Policy → List ℕ) where
    abbrev part : Policy → Part
    part a = transition 255 actions (machine a)

    abbrev PartRight : Policy → Type 0
    PartRight a = MachineRight (machine a) a

    -- what follows of every part
    all_right : (R : Policy → Type 0) → ((a : Policy) → PartRight a → R a) → (rule : Rule Policy) → AllParts PartRight rule → AllParts R rule
    all_right R each rule parts = all_both PartRight PartRight R (λ a q r. each a q) rule parts parts

  module _ (machine : Policy → List ℕ) (p : Policy) (typed : Typed p) (parts : AllParts (PartRight machine) (rule_of propositions p)) where
    fit-rule : count_fits (over machine p) ≡ true → FitRule (over machine p)
    fit-rule e =
        record {
          counted = counted (over machine p) e;
          closed =
              all-apply (PartRight machine) (λ f. (n : ℕ) × Closed n f) (part machine) (rule_of propositions p)
              (all_right machine (λ a. PartRight machine a → (n : ℕ) × Closed n (part machine a)) (λ a q r. (64, r.closed)) (rule_of propositions p) parts)
              parts;
        }

    over-trips : count_fits (over machine p) ≡ true → (w : List ℕ) → Sequence actions w
        → trips (code_step_of (over machine p)) (start_code (over machine p)) w ≡ trips_policy propositions p w
    over-trips e w s =
        code-trips (over machine p) (fit-rule e) w
        ∙ steps-trip (over machine p) (fit-sound (over machine p) (fit-rule e)) w
        ∙ ap (λ (r : Rule Property). rule_trips r w) (on-parts-compose part_trips (part machine) (rule_of propositions p))
        ∙ rule-congruent actions (λ a. part_trips (part machine a)) (trips_policy propositions) (rule_of propositions p)
        (all_right machine (λ a. Agree actions (part_trips (part machine a)) (trips_policy propositions a)) (λ a q. q.agrees) (rule_of propositions p) parts)
        w s
        ∙ sym (rule-trips propositions p typed w)

    right-for : (next : List ℕ) → right_for next (over machine p) ≡ true → MachineRight next p
    right-for next e =
        let a = and-true (closed_test next) _ e in
        let b = and-true (count_fits (over machine p)) _ a.1 in
        record {
          closed = next-closed actions next a.0;
          agrees =
              λ w s.
              (alike-sound actions (transition 255 actions next) (code_step_of (over machine p)) 0 (start_code (over machine p)) b.1).same w s
              ∙ over-trips b.0 w s;
        }

  pub machine-sound : (n : ℕ) (p : Policy) → Typed p → machine_test n p ≡ true → MachineRight (machine_of n p) p
  machine-sound zero p t e = not-true e
  machine-sound (suc n) p t e = by (machine-sound n) (and-true _ _ e)
    where
      by : ((a : Policy) → Typed a → machine_test n a ≡ true → MachineRight (machine_of n a) a)
          → (right_for (machine_of (suc n) p) (over (machine_of n) p) ≡ true) × (parts_pass (machine_test n) (rule_of propositions p) ≡ true)
          → MachineRight (machine_of (suc n) p) p
      by before h =
          right-for (machine_of n) p t
          (all_both Typed (λ a. machine_test n a ≡ true) (λ a. MachineRight (machine_of n a) a) before (rule_of propositions p)
          (rule-parts propositions p t) (parts-pass (machine_test n) (rule_of propositions p) h.1))
          (machine_of (suc n) p) h.0
