-- All places: what is known of those below n, with one place more, and what the answers tell.
-- Assumes nothing.
use mathlib.Core.Path.{◌≡◌, sym, ◌∙◌}
use mathlib.Core.Bool.{true, false}
use Prim.Native.Nat.{ℕ, ◌+◌, ◌≤◌}
use native.Mathlib.Omega.{arith}
use borrow.Author.Count.{below_more}
use borrow.Author.Tests.{eqb-true, eqb-false}
use Rattle.std.specs.Prelude.{Option, Some, None}
use Rattle.trace.proofs.Laws.{not-both}
use Rattle.table.specs.Table.{actions_of}
use Rattle.places.specs.Places.{taken}
use Rattle.view.specs.View.{View}
use Rattle.view.specs.Possible.{CaseFits, Possible}
use Rattle.scan.specs.Survey.{FitsWith, OverActions, Surveys, admitted}
use Rattle.view.specs.Steps.{SameActions, Occupied}
use Rattle.scan.specs.declared.survey.RuleRead.{RuleRead}
use Rattle.scan.proofs.Seeing.{fits-untaken}

-- what is known of a board that can be
module _ (n : ℕ) (view : View) where
  pub can-be : (known : Option ℕ) → Surveys n view known → Possible n view
  can-be None s = s.0
  can-be (Some actions) s = s.possible

  pub same-actions : (known : Option ℕ) (actions : ℕ) → Surveys n view known → admitted known actions ≡ true → SameActions n view actions
  same-actions None actions s a = λ i h t. not-both (sym t ∙ s.1 i h)
  same-actions (Some known) actions s a = λ i h t. s.same i h t ∙ eqb-true known actions a

  pub other-actions : (known : Option ℕ) (actions : ℕ) → Surveys n view known → admitted known actions ≡ false → SameActions n view actions → ⊥
  other-actions None actions s a = not-both a
  other-actions (Some known) actions s a =
      λ h. eqb-false known actions a (let q = s.some in sym (s.same q.place q.below q.on) ∙ h q.place q.below q.on)

module _ (view : View) where
  abbrev SameAt : ℕ → ℕ → Type 0
  SameAt actions i = taken (view.case i) ≡ true → actions_of (view.table i) ≡ actions

  module _ (n : ℕ) where
    -- a place more, under which all taken places are over so many actions
    over-more : (actions : ℕ) → Possible n view → SameActions n view actions → CaseFits (view.table n) (view.case n) → SameAt actions n → Occupied (n + 1) view
        → OverActions (n + 1) view actions
    over-more actions possible same here count some =
        let more = below_more (SameAt actions) n same count in
        record {
          possible = record { fits = below_more _ n possible.fits here; one = λ i j h g t u. more i h t ∙ sym (more j g u) };
          same = more;
          some = some;
        }

    pub survey-taken : (known : Option ℕ) (action : ℕ) (read : RuleRead) → Surveys n view known → FitsWith (view.table n) (view.case n) action read
        → admitted known read.actions ≡ true → Surveys (n + 1) view (Some read.actions)
    survey-taken known action read s f a =
        over-more read.actions (can-be n view known s) (same-actions n view known read.actions s a) f.fits (λ t. f.acting)
        (record { place = n; below = omega arith; on = f.on })

    pub survey-empty : (known : Option ℕ) → Surveys n view known → taken (view.case n) ≡ false → Surveys (n + 1) view known
    survey-empty None s e = (
      record {
        fits = below_more _ n s.0.fits (fits-untaken (view.table n) (view.case n) e);
        one = λ i j h g t. not-both (sym t ∙ below_more _ n s.1 e i h);
      },
      below_more _ n s.1 e,
    )
    survey-empty (Some known) s e =
        let o = s.some in
        over-more known s.possible s.same (fits-untaken (view.table n) (view.case n) e) (λ t. not-both (sym t ∙ e))
        (record { place = o.place; below = omega (arith, o.below); on = o.on })
