-- `parser_state::steps::stuck` meets its contract.
use mathlib.Core.Path.{sym, ap, ◌∙◌}
use mathlib.Core.List.{[], ◌∷◌}
use Prim.Native.Nat.{ℕ}
use Rattle.base.specs.Fields.{pack_fields}
use Rattle.parser_state.specs.Packed.{progress_of}
use Rattle.parser_state.proofs.Packing.{stays-stuck, stuck-packed}
use Rattle.parser_state.proofs.steps.stuck.Goals as goal

pub returns-in_default : goal.returns-in_default
returns-in_default c = stays-stuck _ (sym c.unpack.ensures ∙ c.in_default.is)

pub returns : goal.returns
returns c =
    let u = c in
    ap progress_of (c.pack.ensures ∙ ap (λ (k : ℕ). pack_fields (0 ∷ c.in-Going.words ∷ 0 ∷ k ∷ [])) c.mark.ensures)
    ∙ stuck-packed u.args.p u.args.expected (sym u.unpack.ensures ∙ c.in-Going.is)
