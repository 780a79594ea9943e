-- The step of Fulfilling: a is waited for through k actions; b is judged on what follows a, or c on what follows the wait.
-- Assumes nothing.
use mathlib.Core.Path.{◌≡◌, refl, ◌∙◌, ap}
use mathlib.Core.Bool.{Bool, true, false, cond}
use mathlib.Core.List.{List, [], ◌∷◌}
use mathlib.Core.Option.{Option, none, some}
use Prim.Native.Nat.{ℕ, zero, suc, ◌+◌}
use native.Mathlib.Nat.{add-zero, zero-add}
use native.Mathlib.Omega.{arith}
use lib.Dec.{leb, leb-zero, leb-suc-zero, leb-suc-suc}
use lib.ListN.{length, drop}
use lib.Seq.{drop-nil}
use borrow.Author.Tests.{le-leb, lt-leb}
use Rattle.trace.specs.Trace.{Move, trip, go, run}
use Rattle.policy.specs.Operators.{one_more, first}
use Rattle.policy.specs.Rule.{fulfilling-r, fulfilling_trips}
use Rattle.policy.specs.Value.{Part, part_trips, part_after, row_of, Fulfilling, waiting, kept, missed, fulfilling_move, remembered_fulfilling, start, step_of}
use Rattle.policy.specs.Closed.{answer}
use Rattle.policy.specs.Right.{RightStep}
use Rattle.policy.proofs.Residual.{fulfilling-later, fulfilling-over}
use Rattle.policy.proofs.Answer.{trips_from, answer-with, run-with}

go-cond : (b : Bool) (x y : Fulfilling) → go (cond b x y) ≡ cond b (go x) (go y)
go-cond true x y = refl
go-cond false x y = refl

module _ (k : ℕ) (f g h : Part) where
  -- what is remembered with j actions of the wait left, after n of them, where a stands at a move
  abbrev late_value : (j n : ℕ) → Move ℕ → List ℕ → Fulfilling
  late_value j n m w = cond (leb j (length w)) (missed (row_of (part_after h (drop j w)))) (waiting (row_of m) (n + length w))

  abbrev value : Option ℕ → (j n : ℕ) → Move ℕ → List ℕ → Fulfilling
  value none j n m w = late_value j n m w
  value (some i) j n m w = cond (leb i j) (kept (row_of (part_after g (drop i w)))) (late_value j n m w)

  late-later : (j n : ℕ) (m : Move ℕ) (a : ℕ) (w : List ℕ) → late_value (suc j) n m (a ∷ w) ≡ late_value j (n + 1) m w
  late-later j n m a w =
      let s : n + suc (length w) ≡ n + 1 + length w = omega arith in
      rw (leb-suc-suc j (length w), s) refl

  value-later : (r : Option ℕ) (j n : ℕ) (m : Move ℕ) (a : ℕ) (w : List ℕ)
      → value (one_more r) (suc j) n m (a ∷ w) ≡ value r j (n + 1) m w
  value-later none j n m a w = late-later j n m a w
  value-later (some i) j n m a w = rw (leb-suc-suc i j, late-later j n m a w) refl

  value-over : (r : Option ℕ) (n : ℕ) (m : Move ℕ) (a : ℕ) (w : List ℕ) → value (one_more r) 0 n m (a ∷ w) ≡ missed (row_of (part_after h (a ∷ w)))
  value-over none n m a w = rw (leb-zero (suc (length w))) refl
  value-over (some i) n m a w = rw (leb-suc-zero i, leb-zero (suc (length w))) refl

  kept_run : (w : List ℕ) → run (step_of (fulfilling-r k f g h)) (go (kept 0)) w ≡ answer (part_trips g w) (kept (row_of (part_after g w)))
  kept_run w = run-with kept (step_of (fulfilling-r k f g h)) g (λ r a. refl) w (go 0) ∙ answer-with kept (part_after g w)

  missed-run : (w : List ℕ) → run (step_of (fulfilling-r k f g h)) (go (missed 0)) w ≡ answer (part_trips h w) (missed (row_of (part_after h w)))
  missed-run w = run-with missed (step_of (fulfilling-r k f g h)) h (λ r a. refl) w (go 0) ∙ answer-with missed (part_after h w)

  fulfilling-run : (w : List ℕ) (j n : ℕ) → n + j ≡ k → (m : Move ℕ)
      → run (step_of (fulfilling-r k f g h)) (fulfilling_move k n m) w
      ≡ answer (fulfilling_trips j (first (trips_from f m) w) (part_trips g) (part_trips h) w) (value (first (trips_from f m) w) j n (run f m w) w)
  fulfilling-run [] j n e trip = rw (leb-zero j) refl
  fulfilling-run [] zero n e (go q) = rw (le-leb k n (omega arith)) refl
  fulfilling-run [] (suc j) n e (go q) = rw (lt-leb k n (omega arith), leb-suc-zero j, add-zero n) refl
  fulfilling-run (a ∷ w) j n e trip = rw (leb-zero j) (kept_run (a ∷ w))
  fulfilling-run (a ∷ w) zero n e (go q) =
      rw (
        le-leb k n (omega arith),
        fulfilling-over (trips_from f (go q)) (part_trips g) (part_trips h) (a ∷ w) refl,
        value-over (first (trips_from f (f q a)) w) n (run f (f q a) w) a w,
      )
      (missed-run (a ∷ w))
  fulfilling-run (a ∷ w) (suc j) n e (go q) =
      rw (
        lt-leb k n (omega arith),
        fulfilling-later j (first (trips_from f (f q a)) w) (part_trips g) (part_trips h) a w,
        value-later (first (trips_from f (f q a)) w) j n (run f (f q a) w) a w,
      )
      (fulfilling-run w j (n + 1) (omega arith) (f q a))

  same-value : (r : Option ℕ) (w : List ℕ) → value r k 0 (part_after f w) w ≡ remembered_fulfilling r k f g h w
  same-value none w = rw (zero-add (length w)) refl
  same-value (some n) w = rw (zero-add (length w)) refl

  -- the start is what waiting for a answers before any action
  start_move : go (start (fulfilling-r k f g h)) ≡ fulfilling_move k 0 (go 0)
  start_move = rw (drop-nil {A = ℕ} k) (go-cond (leb k 0) (missed 0) (waiting 0 0))

  pub fulfilling-right : RightStep (fulfilling-r k f g h)
  fulfilling-right = record { right = right }
    where
      right : (w : List ℕ)
          → run (step_of (fulfilling-r k f g h)) (go (start (fulfilling-r k f g h))) w
          ≡ answer (fulfilling_trips k (first (part_trips f) w) (part_trips g) (part_trips h) w) (remembered_fulfilling (first (part_trips f) w) k f g h w)
      right w =
          ap (λ (m : Move Fulfilling). run (step_of (fulfilling-r k f g h)) m w) start_move
          ∙ fulfilling-run w k 0 (zero-add k) (go 0)
          ∙ ap (answer (fulfilling_trips k (first (part_trips f) w) (part_trips g) (part_trips h) w)) (same-value (first (part_trips f) w) w)
