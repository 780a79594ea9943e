-- `descent::readers::read_rule` meets its contract.
use mathlib.Core.Path.{refl, sym, subst, ◌∙◌}
use Rattle.trace.specs.declared.Mode.TheVariants.{Watched as watched, Enforced as enforced}
use Rattle.policy.specs.Policy.{Policy}
use Rattle.grammar.specs.Grammar as read
use Rattle.grammar.specs.Productions as fit
use Rattle.grammar.specs.declared.Category.TheVariants.{Text}
use Rattle.parser_state.specs.Progress.{Sane}
use Rattle.descent.proofs.Arms.{word-taken, none-taken, spelled, sane-behind}
use Rattle.descent.proofs.Misfits.{left-over}
use Rattle.descent.proofs.WholeText.{at_front, no-words-at-all, misfit-at-all, whole-text}
use Rattle.descent.proofs.readers.read_rule.Goals as goal

pub take_word-requires : goal.take_word-requires
take_word-requires c = subst (Sane _) (sym c.going-front.ensures) (at_front c.requires.0)

pub returns-in_default : goal.returns-in_default
returns-in_default c = (
  no-words-at-all c.going-front.ensures (none-taken c.take_word.ensures c.in_default.is) c.stuck.ensures,
  c.requires.1,
)

pub read_watched-requires : goal.read_watched-requires
read_watched-requires c =
    record { sane = sane-behind (word-taken c.take_word.ensures c.in-Word.is); sixty-four = c.requires.1 }

pub read_enforced-requires : goal.read_enforced-requires
read_enforced-requires c =
    record { sane = sane-behind (word-taken c.take_word.ensures c.in-Word.is); sixty-four = c.requires.1 }

pub returns-in-Watch : goal.returns-in-Watch
returns-in-Watch c =
    let h = word-taken c.take_word.ensures c.in-Word.is in (
      whole-text c.going-front.ensures h (λ (p : Policy). record { mode = watched; policy = p }) (spelled h c.in-Watch.is) fit.watch (λ ws x r. read.watch r) (λ x. refl)
          c.read_watched.ensures c.ended.ensures,
      c.read_watched.ensures.sized ∙ c.requires.1,
    )

pub returns-in-Enforce : goal.returns-in-Enforce
returns-in-Enforce c =
    let h = word-taken c.take_word.ensures c.in-Word.is in (
      whole-text c.going-front.ensures h (λ (p : Policy). record { mode = enforced; policy = p }) (spelled h c.in-Enforce.is) fit.enforce (λ ws x r. read.enforce r) (λ x. refl)
          c.read_enforced.ensures c.ended-in-Enforce.ensures,
      c.read_enforced.ensures.sized ∙ c.requires.1,
    )

pub returns-in_default-token : goal.returns-in_default-token
returns-in_default-token c =
    let h = word-taken c.take_word.ensures c.in-Word.is in
    (misfit-at-all c.going-front.ensures h (left-over h Text (c.in_default-token.not-Watch, c.in_default-token.not-Enforce)) c.stuck-in_default-token.ensures, c.requires.1)
