-- One place: what check 10 found there, as whether its rule fits its case.
-- Assumes nothing.
use mathlib.Core.Path.{◌≡◌, refl, sym, ◌∙◌}
use mathlib.Core.Bool.{false}
use mathlib.Core.List.{List}
use Prim.Native.Nat.{ℕ, ◌≤◌, ◌<◌}
use native.Mathlib.Omega.{arith}
use Rattle.std.specs.Prelude.{Option, Some, None}
use Rattle.trace.proofs.Laws.{not-both}
use Rattle.table.specs.declared.Header.{Header}
use Rattle.table.specs.Answer.{mode_number, FormedAs}
use Rattle.places.specs.Places.{taken}
use Rattle.view.specs.View.{held}
use Rattle.view.specs.Possible.{CaseFits}
use Rattle.view.specs.Moves.{entry_at}
use Rattle.scan.specs.Survey.{HoldsAt, RuleFits, ReadsRule, ReadsPlace}
use Rattle.places.specs.declared.Case.{Case}
use Rattle.places.specs.declared.Case.TheVariants.{Empty, Enforced, Watched, Fulfilled}
use Rattle.scan.specs.declared.survey.RuleRead.{RuleRead}

-- the rule of a table that passes 10
module _ (table : List ℕ) (header : Header) (f : FormedAs table header) (kind row : ℕ) where
  -- it fits, with the entry of an action of its list
  pub reads-fits : mode_number header.mode ≡ kind → row < header.rows → (action entry : ℕ) → (action < header.actions → entry ≡ entry_at table row action)
      → RuleFits table kind row action (record { actions = header.actions; entry = entry })
  reads-fits e h action entry enters =
      record {
        here = record { holds = record { formed = f.formed; typed = f.fields.type ∙ e }; within = omega (arith, f.fields.rowed) };
        acting = f.fields.acting;
        enters = enters;
      }

-- an empty place fits
pub fits-untaken : (table : List ℕ) (case : Case) → taken case ≡ false → CaseFits table case
fits-untaken table Empty e = tt
fits-untaken table (Enforced row) e = not-both e
fits-untaken table (Watched row) e = not-both e
fits-untaken table Fulfilled e = not-both e
