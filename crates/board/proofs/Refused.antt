-- A call that names a place, refused by what is found there, and putting a table on, refused by what the loader finds.
-- Assumes nothing.
use mathlib.Core.List.{List, [], ◌∷◌}
use Prim.Native.Nat.{ℕ}
use native.Mathlib.Omega.{arith}
use Rattle.std.specs.Prelude.{Option, Err}
use Rattle.table.specs.Answer.{Loads, answer_of}
use Rattle.table.specs.declared.LoadError.{LoadError}
use Rattle.table.specs.declared.LoadError.TheVariants.{Malformed, NotCanonical}
use Rattle.places.specs.declared.Board.{Board}
use Rattle.view.specs.Steps.{Call, Check, short-area, no_place, impossible, malformed, misnumbered, other-actions, put_on, refusal, Stops, here, later}
use Rattle.view.specs.Calls.{Calls, PassesOn}
use Rattle.view.proofs.Calling.{call-refused}
use Rattle.board_checks.specs.Targets.{EmptyTarget, Looks}
use Rattle.board_checks.specs.declared.targets.TargetError.{TargetError}
use Rattle.board_checks.specs.declared.targets.TargetError.TheVariants.{ShortArea, NoPlace, Impossible}
use Rattle.board.specs.Replies.{target_reply, load_reply}
use Rattle.board.proofs.Loaded.{load-malformed, load-misnumbered}

module _ (board : Board) (area : List ℕ) (place : ℕ) where
  pub target-refused : (call : Call) (rest : List Check)
      → ((check : Check) → Stops (PassesOn board area) check (short-area ∷ no_place place ∷ impossible ∷ rest) → Calls board area call (refusal check) board area)
      → (e : TargetError) → Looks board area place (Err e) → Calls board area call (target_reply e) board area
  target-refused call rest refuses ShortArea l = refuses short-area (here l)
  target-refused call rest refuses NoPlace l = refuses (no_place place) (later l.0 (here (λ h. omega (arith, l.1))))
  target-refused call rest refuses Impossible l = refuses impossible (later l.0.whole (later l.0.below (here l.1)))

  module _ (known : Option ℕ) (e : EmptyTarget board area place known) (table : List ℕ) where
    pub put-refused : {check : Check} → Stops (PassesOn board area) check (malformed table ∷ misnumbered table ∷ other-actions table ∷ [])
        → Calls board area (put_on place table) (refusal check) board area
    put-refused s = call-refused (put_on place table) (later e.within.whole (later e.within.below (later e.can (later e.free s))))

    pub load-refused : (error : LoadError) → Loads table (answer_of (Err error)) → Calls board area (put_on place table) (load_reply error) board area
    load-refused Malformed l = put-refused (here (load-malformed l))
    load-refused NotCanonical l = let (f, n) = load-misnumbered l in put-refused (later f (here n))
