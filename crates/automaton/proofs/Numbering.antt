-- Plain facts of the stated numbering: each state is met at an entry inside the machine, which is no mark, and what passes from the states
-- below to a state that is met holds of all.
-- Assumes nothing.
use mathlib.Core.Path.{◌≡◌}
use mathlib.Core.List.{List}
use mathlib.Core.WellFounded.{induction}
use Prim.Native.Nat.{ℕ, zero, suc, ◌*◌, ◌<◌}
use native.Mathlib.Nat.{zero-lt-suc, lt_of_lt_of_le, le_of_lt, mul-le-mul_right}
use native.Mathlib.Omega.{arith}
use lib.ListN.{get_or}
use lib.WfN.{lt-wf_rel}
use Rattle.automaton.specs.Machine.{Machine, FirstMet, Numbered}

module _ {mark states actions : ℕ} {next : List ℕ} (mc : Machine mark states actions next) where
  -- the entry where a state is first met is not the mark
  pub met-not-mark : {s : ℕ} → s < states → (fm : FirstMet mark actions next s) → get_or next fm.at mark ≡ mark → ⊥
  met-not-mark h fm q = omega (arith, fm.here, mc.marked)

  -- each is met at an entry of the machine
  pub met-inside : {s : ℕ} → s < states → (fm : FirstMet mark actions next s) → fm.at < states * actions
  met-inside h fm = lt_of_lt_of_le fm.early (mul-le-mul_right actions (le_of_lt h))

-- What holds of the start, and of each state that is met where it holds of all states below, holds of every state.
pub met-induction : {mark states actions : ℕ} {next : List ℕ} → Numbered mark states actions next
    → (P : ℕ → Type 0)
    → P 0
    → ((s : ℕ) → 0 < s → s < states → ((p : ℕ) → p < s → P p) → FirstMet mark actions next s → P s)
    → (s : ℕ) → s < states → P s
met-induction {states = states} nu P start step s = induction lt-wf_rel.wf {C = λ (x : ℕ). x < states → P x} s each
  where
    each : (x : ℕ) → ((p : ℕ) → p < x → p < states → P p) → x < states → P x
    each zero ih h = start
    each (suc x) ih h = step (suc x) (zero-lt-suc x) h (λ p g. ih p g (omega arith)) (nu.met (suc x) (zero-lt-suc x) h)
