-- The goals of `descent::readers::read_formula` that the check leaves.
use mathlib.Core.Path.{refl}
use Rattle.policy.specs.Formula.{negation, conjunction, disjunction}
use Rattle.syntax.specs.declared.Node.TheVariants.{True, False, Proposition, Negation, Conjunction, Disjunction}
use Rattle.grammar.specs.Grammar.{true-a, false-a, proposition-a}
use Rattle.grammar.specs.Grammar as read
use Rattle.grammar.specs.Productions as fit
use Rattle.grammar.specs.declared.Category.TheVariants.{Formula}
use Rattle.grammar.proofs.Sizes.{some-formula}
use Rattle.descent.proofs.Arms.{word-taken, none-taken, over-here, spelled, leaf, over-one, over-two, misfits-here}
use Rattle.descent.proofs.Misfits.{left-over}
use Rattle.descent.proofs.readers.+read_formula.Goals as goal

pub returns-in_default : goal.returns-in_default
returns-in_default t c =
    over-here _ tt c.requires.sane (none-taken c.take_word.ensures c.in_default.is) c.stuck.ensures

pub returns-in-True : goal.returns-in-True
returns-in-True t c =
    let h = word-taken c.take_word.ensures c.in-Word.is in
    leaf h True (spelled h c.in-True.is) true-a refl c.close_leaf.ensures

pub returns-in-False : goal.returns-in-False
returns-in-False t c =
    let h = word-taken c.take_word.ensures c.in-Word.is in
    leaf h False (spelled h c.in-False.is) false-a refl c.close_leaf-in-False.ensures

pub returns-in-Proposition : goal.returns-in-Proposition
returns-in-Proposition t c =
    let h = word-taken c.take_word.ensures c.in-Word.is in
    let v = spelled h c.in-Proposition.is in
    leaf h (Proposition _) v.1 (proposition-a v.0) refl c.close_leaf-in-Proposition.ensures

pub returns-in-Not : goal.returns-in-Not
returns-in-Not t c =
    let h = word-taken c.take_word.ensures c.in-Word.is in
    over-one h negation Negation (spelled h c.in-Not.is) fit.not_a (λ us x r. read.not_a r) (λ x. refl) some-formula c.read_formula-a.ensures c.close_one.ensures

pub returns-in-And : goal.returns-in-And
returns-in-And t c =
    let h = word-taken c.take_word.ensures c.in-Word.is in
    over-two h conjunction Conjunction (spelled h c.in-And.is) fit.and-a (λ us x vs y r q. read.and-a r q) (λ x y. refl) some-formula some-formula c.read_formula-a-in-And.ensures c.read_formula-b.ensures c.close_two.ensures

pub returns-in-Or : goal.returns-in-Or
returns-in-Or t c =
    let h = word-taken c.take_word.ensures c.in-Word.is in
    over-two h disjunction Disjunction (spelled h c.in-Or.is) fit.or-a (λ us x vs y r q. read.or-a r q) (λ x y. refl) some-formula some-formula c.read_formula-a-in-Or.ensures c.read_formula-b-in-Or.ensures c.close_two-in-Or.ensures

pub returns-in_default-token : goal.returns-in_default-token
returns-in_default-token t c =
    let h = word-taken c.take_word.ensures c.in-Word.is in
    let n = c.in_default-token in
    misfits-here h (left-over h Formula (n.not-True, n.not-False, n.not-Proposition, n.not-Not, n.not-And, n.not-Or)) refl c.stuck-in_default-token.ensures
