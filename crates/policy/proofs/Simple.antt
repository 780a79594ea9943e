-- The steps of the rules with one part or none: of Now and Holds, Count, Not, Ignoring.
-- Assumes nothing.
use mathlib.Core.Path.{◌≡◌, refl, ◌∙◌}
use mathlib.Core.Bool.{Bool, true, false, cond}
use mathlib.Core.List.{List, [], ◌∷◌}
use Prim.Native.Nat.{ℕ, suc, ◌+◌, ◌≤◌, ◌<◌}
use native.Mathlib.Nat.{add-zero, zero-add}
use native.Mathlib.Omega.{arith}
use lib.Dec.{leb}
use lib.ListN.{length}
use borrow.Author.Tests.{leb-true, leb-false, le-leb, lt-leb}
use Rattle.trace.specs.Trace.{Move, trip, go, after, run}
use Rattle.trace.proofs.Laws.{run-trip}
use Rattle.policy.specs.Operators.{without}
use Rattle.policy.specs.Rule.{opening-r, count-r, same-r, ignoring-r, on_parts, rule_trips}
use Rattle.policy.specs.Value.{Part, part_trips, fresh, spent, remembered, step_of}
use Rattle.policy.specs.Closed.{answer}
use Rattle.policy.specs.Right.{RightStep}
use Rattle.policy.proofs.Answer.{answer-row, run-still}

pub opening-right : (hit : ℕ → Bool) → RightStep (opening-r hit)
opening-right hit = record { right = right }
  where
    spent-stays : (w : List ℕ) → run (step_of (opening-r hit)) (go spent) w ≡ go spent
    spent-stays = run-still (step_of (opening-r hit)) spent (λ a. refl)

    judged : (b : Bool) (w : List ℕ) → run (step_of (opening-r hit)) (cond b trip (go spent)) w ≡ answer b spent
    judged true w = run-trip (step_of (opening-r hit)) w
    judged false w = spent-stays w

    right : (w : List ℕ) → run (step_of (opening-r hit)) (go fresh) w ≡ answer (rule_trips (on_parts part_trips (opening-r hit)) w) (remembered (opening-r hit) w)
    right [] = refl
    right (a ∷ w) = judged (hit a) w

module _ (k : ℕ) where
  -- read after n actions
  counted : (w : List ℕ) (n : ℕ) → n < k → run (step_of (count-r k)) (go n) w ≡ answer (leb k (n + length w)) (n + length w)
  counted [] n h = rw (add-zero n, lt-leb k n h) refl
  counted (a ∷ w) n h = more (leb k (n + 1)) refl (counted w (n + 1))
    where
      more : (b : Bool) → leb k (n + 1) ≡ b
          → (n + 1 < k → run (step_of (count-r k)) (go (n + 1)) w ≡ answer (leb k (n + 1 + length w)) (n + 1 + length w))
          → run (step_of (count-r k)) (cond b trip (go (n + 1))) w ≡ answer (leb k (n + suc (length w))) (n + suc (length w))
      more true e ih =
          let h = leb-true k (n + 1) e in
          rw (run-trip (step_of (count-r k)) w, le-leb k (n + suc (length w)) (omega arith)) refl
      more false e ih =
          let s : n + 1 + length w ≡ n + suc (length w) = omega arith in
          rw s at (ih (leb-false k (n + 1) e))

  pub count-right : 1 ≤ k → RightStep (count-r k)
  count-right h = record { right = λ w. rw (zero-add (length w)) at (counted w 0 h) }

pub same-right : (f : Part) → RightStep (same-r f)
same-right f = record { right = λ w. answer-row (run f (go 0) w) }

module _ (hit : ℕ → Bool) (f : Part) where
  ignoring-run : (w : List ℕ) (m : Move ℕ) → run (step_of (ignoring-r hit f)) m w ≡ run f m (without hit w)
  ignoring-run [] m = refl
  ignoring-run (a ∷ w) m = by (hit a) m (ignoring-run w)
    where
      by : (b : Bool) (m : Move ℕ) → ((n : Move ℕ) → run (step_of (ignoring-r hit f)) n w ≡ run f n (without hit w))
          → run (step_of (ignoring-r hit f)) (after m (λ v. cond b (go v) (f v a))) w ≡ run f m (cond b (without hit w) (a ∷ without hit w))
      by true trip ih = ih trip
      by true (go r) ih = ih (go r)
      by false m ih = ih (after m (λ v. f v a))

  pub ignoring-right : RightStep (ignoring-r hit f)
  ignoring-right = record { right = λ w. ignoring-run w (go 0) ∙ answer-row (run f (go 0) (without hit w)) }
