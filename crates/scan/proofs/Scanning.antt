-- The pass over the places: one place more, and what it says of an action of the list.
-- Assumes nothing.
use mathlib.Core.Path.{◌≡◌, refl, sym, ◌∙◌, ap, ap₂}
use mathlib.Core.Bool.{Bool, true, false, cond}
use mathlib.Core.List.{List}
use lib.ListN.{set}
use Prim.Native.Nat.{ℕ, ◌+◌, ◌<◌, ◌^◌}
use native.Mathlib.Nat.{add_comm}
use native.Mathlib.Numerals.{add-one}
use native.Mathlib.Omega.{arith}
use borrow.Author.Tests.{eqb-true}
use Rattle.std.specs.Prelude.{Option, Some, None}
use Rattle.base.proofs.Sets.{set_out}
use Rattle.places.specs.Layout.{place_count}
use Rattle.places.specs.Places.{place_in, taken, places_by}
use Rattle.places.specs.declared.Place.{Place}
use Rattle.places.specs.declared.Case.{Case}
use Rattle.places.specs.declared.Case.TheVariants.{Empty}
use Rattle.places.proofs.CaseLaws.{free-empty, places-by-empty}
use Rattle.view.specs.View.{View}
use Rattle.view.specs.Moves.{denies, moved, fulfils, denies_at, moved_at, fulfils_at}
use Rattle.view.specs.Steps.{InList}
use Rattle.place_steps.specs.Moving.{RuleMoves, MovesBy}
use Rattle.scan.specs.Survey.{FitsWith, OverActions, admitted}
use Rattle.scan.specs.Scans.{Sweeps, Playable, Scans}
use Rattle.scan.specs.declared.survey.RuleRead.{RuleRead}
use Rattle.scan.specs.declared.pass.Scanned.{Scanned}
use Rattle.scan.proofs.Surveying.{survey-taken, survey-empty}

-- an action of a list is in that of the rules before it
playable-before : (known : Option ℕ) (actions action : ℕ) → admitted known actions ≡ true → action < actions → Playable known action
playable-before None actions action a h = tt
playable-before (Some known) actions action a h = omega (arith, eqb-true known actions a)

module _ (view : View) (action : ℕ) where
  sweeps-more : (n : ℕ) (next : List Place) (denying fulfilled : ℕ) (case : Case) (d f : Bool)
      → Sweeps n view action next denying fulfilled → RuleMoves (view.table n) action (view.case n) case d f
      → Sweeps (n + 1) view action (set next n (place_in case)) (denying + cond d (2 ^ n) 0) (fulfilled + cond f (2 ^ n) 0)
  sweeps-more n next denying fulfilled case d f w s =
      rw (add-one n)
      (record {
        goes = ap₂ (λ (l : List Place) (c : Case). set l n (place_in c)) w.goes s.goes;
        denied = add_comm denying (cond d (2 ^ n) 0) ∙ ap₂ (λ (b : Bool) (m : ℕ). cond b (2 ^ n) 0 + m) s.denied w.denied;
        reported = add_comm fulfilled (cond f (2 ^ n) 0) ∙ ap₂ (λ (b : Bool) (m : ℕ). cond b (2 ^ n) 0 + m) s.reported w.reported;
      })

  pub scans-taken : (n : ℕ) (s : Scanned) (read : RuleRead) (case : Case) (d f : Bool)
      → Scans n view action s → FitsWith (view.table n) (view.case n) action read → admitted s.actions read.actions ≡ true → MovesBy (view.case n) read.entry case d f
      → Scans (n + 1) view action (record { actions = Some read.actions; places = set s.places n (place_in case); denying = s.denying + cond d (2 ^ n) 0; fulfilled = s.fulfilled + cond f (2 ^ n) 0 })
  scans-taken n s read case d f w r a by =
      record {
        surveys = survey-taken view n s.actions action read w.surveys r a;
        sweeps = λ p.
            sweeps-more n s.places s.denying s.fulfilled case d f (w.sweeps (playable-before s.actions read.actions action a p))
            (by.moves (view.table n) action (r.follows p));
      }

  -- an empty place is passed over
  sweeps-empty : (n : ℕ) (next : List Place) (denying fulfilled : ℕ) → view.case n ≡ Empty → Sweeps n view action next denying fulfilled → Sweeps (n + 1) view action next denying fulfilled
  sweeps-empty n next denying fulfilled e w =
      rw (add-one n)
      (record {
        goes = w.goes ∙ sym (places-by-empty n (moved_at view action) (ap (moved (view.table n) action) e));
        denied = w.denied ∙ sym (set_out (denies_at view action) n (ap (denies (view.table n) action) e));
        reported = w.reported ∙ sym (set_out (fulfils_at view action) n (ap (fulfils (view.table n) action) e));
      })

  pub scans-empty : (n : ℕ) (s : Scanned) → taken (view.case n) ≡ false → Scans n view action s → Scans (n + 1) view action s
  scans-empty n s free w =
      record {
        surveys = survey-empty view n s.actions w.surveys free;
        sweeps = λ p. sweeps-empty n s.places s.denying s.fulfilled (free-empty (view.case n) free) (w.sweeps p);
      }

  -- the action of a board that it is in the list of
  pub in_list : (actions : ℕ) → OverActions place_count view actions → action < actions → InList place_count view action
  in_list actions o listed =
      let p = o.some in
      record { place = p.place; below = p.below; on = p.on; listed = omega (arith, o.same p.place p.below p.on, listed) }
