-- The goals of `descent::readers::read_enforced` and `read_watched` that the check leaves.
use mathlib.Core.Path.{refl}
use Rattle.policy.specs.Policy.{now, holds-first, count, not-p, and-p, or-p, eventually, always, before-, before+, after-, after+, fulfilling, ignoring}
use Rattle.syntax.specs.declared.Node.TheVariants.{Now, Holds, Count, Not, And, Or, Eventually, Always, BeforeMinus, BeforePlus, AfterMinus, AfterPlus, Fulfilling, Ignoring}
use Rattle.grammar.specs.Grammar as read
use Rattle.grammar.specs.Productions as fit
use Rattle.grammar.specs.declared.Category.TheVariants.{Watched, Enforced}
use Rattle.grammar.proofs.Sizes.{some-formula, some-policy}
use Rattle.descent.proofs.Arms.{word-taken, none-taken, over-here, spelled, over-one, over-two, over-number, over-three, misfits-here}
use Rattle.descent.proofs.Misfits.{left-over}
use Rattle.descent.proofs.readers.+read_enforced_read_watched.Goals as goal

pub read_enforced-returns-in_default : goal.read_enforced-returns-in_default
read_enforced-returns-in_default t c =
    over-here _ tt c.requires.sane (none-taken c.take_word.ensures c.in_default.is) c.stuck.ensures

pub read_enforced-returns-in-Holds : goal.read_enforced-returns-in-Holds
read_enforced-returns-in-Holds t c =
    let h = word-taken c.take_word.ensures c.in-Word.is in
    over-one h holds-first Holds (spelled h c.in-Holds.is) fit.holds-e (λ us x r. read.holds-e r) (λ x. refl) some-formula c.read_formula-a.ensures c.close_one.ensures

pub read_enforced-returns-in-Not : goal.read_enforced-returns-in-Not
read_enforced-returns-in-Not t c =
    let h = word-taken c.take_word.ensures c.in-Word.is in
    over-one h not-p Not (spelled h c.in-Not.is) fit.not-e (λ us x r. read.not-e r) (λ x. refl) some-policy c.read_watched-a.ensures c.close_one-in-Not.ensures

pub read_enforced-returns-in-And : goal.read_enforced-returns-in-And
read_enforced-returns-in-And t c =
    let h = word-taken c.take_word.ensures c.in-Word.is in
    over-two h and-p And (spelled h c.in-And.is) fit.and-e (λ us x vs y r q. read.and-e r q) (λ x y. refl) some-policy some-policy c.read_enforced-a.ensures c.read_enforced-b.ensures c.close_two.ensures

pub read_enforced-returns-in-Or : goal.read_enforced-returns-in-Or
read_enforced-returns-in-Or t c =
    let h = word-taken c.take_word.ensures c.in-Word.is in
    over-two h or-p Or (spelled h c.in-Or.is) fit.or-e (λ us x vs y r q. read.or-e r q) (λ x y. refl) some-policy some-policy c.read_enforced-a-in-Or.ensures c.read_enforced-b-in-Or.ensures c.close_two-in-Or.ensures

pub read_enforced-returns-in-Always : goal.read_enforced-returns-in-Always
read_enforced-returns-in-Always t c =
    let h = word-taken c.take_word.ensures c.in-Word.is in
    over-one h always Always (spelled h c.in-Always.is) fit.always-e (λ us x r. read.always-e r) (λ x. refl) some-policy c.read_enforced-a-in-Always.ensures c.close_one-in-Always.ensures

pub read_enforced-returns-in-Before : goal.read_enforced-returns-in-Before
read_enforced-returns-in-Before t c =
    let h = word-taken c.take_word.ensures c.in-Word.is in
    over-two h before+ BeforePlus (spelled h c.in-Before.is) fit.before-e (λ us x vs y r q. read.before-e r q) (λ x y. refl) some-policy some-policy c.read_watched-a-in-Before.ensures c.read_enforced-b-in-Before.ensures c.close_two-in-Before.ensures

pub read_enforced-returns-in-After : goal.read_enforced-returns-in-After
read_enforced-returns-in-After t c =
    let h = word-taken c.take_word.ensures c.in-Word.is in
    over-two h after+ AfterPlus (spelled h c.in-After.is) fit.after-e (λ us x vs y r q. read.after-e r q) (λ x y. refl) some-policy some-policy c.read_watched-a-in-After.ensures c.read_enforced-b-in-After.ensures c.close_two-in-After.ensures

pub read_enforced-returns-in-Fulfilling : goal.read_enforced-returns-in-Fulfilling
read_enforced-returns-in-Fulfilling t c =
    let h = word-taken c.take_word.ensures c.in-Word.is in
    over-three h fulfilling Fulfilling (spelled h c.in-Fulfilling.is) fit.fulfilling-e (λ ts j us x vs y ws z r q s u. read.fulfilling-e r q s u) (λ j x y z. refl) some-policy some-policy some-policy c.read_number-k.ensures c.read_watched-a-in-Fulfilling.ensures c.read_enforced-b-in-Fulfilling.ensures c.read_enforced-c.ensures c.close_three.ensures

pub read_enforced-returns-in-Ignoring : goal.read_enforced-returns-in-Ignoring
read_enforced-returns-in-Ignoring t c =
    let h = word-taken c.take_word.ensures c.in-Word.is in
    over-two h ignoring Ignoring (spelled h c.in-Ignoring.is) fit.ignoring-e (λ us x vs y r q. read.ignoring-e r q) (λ x y. refl) some-formula some-policy c.read_formula-a-in-Ignoring.ensures c.read_enforced-b-in-Ignoring.ensures c.close_two-in-Ignoring.ensures

pub read_enforced-returns-in_default-token : goal.read_enforced-returns-in_default-token
read_enforced-returns-in_default-token t c =
    let h = word-taken c.take_word.ensures c.in-Word.is in
    let n = c.in_default-token in
    misfits-here h (left-over h Enforced (n.not-Holds, n.not-Not, n.not-And, n.not-Or, n.not-Always, n.not-Before, n.not-After, n.not-Fulfilling, n.not-Ignoring)) refl c.stuck-in_default-token.ensures

pub read_watched-returns-in_default : goal.read_watched-returns-in_default
read_watched-returns-in_default t c =
    over-here _ tt c.requires.sane (none-taken c.take_word.ensures c.in_default.is) c.stuck.ensures

pub read_watched-returns-in-Now : goal.read_watched-returns-in-Now
read_watched-returns-in-Now t c =
    let h = word-taken c.take_word.ensures c.in-Word.is in
    over-one h now Now (spelled h c.in-Now.is) fit.now-w (λ us x r. read.now-w r) (λ x. refl) some-formula c.read_formula-a.ensures c.close_one.ensures

pub read_watched-returns-in-Count : goal.read_watched-returns-in-Count
read_watched-returns-in-Count t c =
    let h = word-taken c.take_word.ensures c.in-Word.is in
    over-number h count Count (spelled h c.in-Count.is) fit.count-w (λ us j r. read.count-w r) (λ j. refl) c.read_number-k.ensures c.close_leaf.ensures

pub read_watched-returns-in-Not : goal.read_watched-returns-in-Not
read_watched-returns-in-Not t c =
    let h = word-taken c.take_word.ensures c.in-Word.is in
    over-one h not-p Not (spelled h c.in-Not.is) fit.not-w (λ us x r. read.not-w r) (λ x. refl) some-policy c.read_enforced-a.ensures c.close_one-in-Not.ensures

pub read_watched-returns-in-And : goal.read_watched-returns-in-And
read_watched-returns-in-And t c =
    let h = word-taken c.take_word.ensures c.in-Word.is in
    over-two h and-p And (spelled h c.in-And.is) fit.and-w (λ us x vs y r q. read.and-w r q) (λ x y. refl) some-policy some-policy c.read_watched-a.ensures c.read_watched-b.ensures c.close_two.ensures

pub read_watched-returns-in-Or : goal.read_watched-returns-in-Or
read_watched-returns-in-Or t c =
    let h = word-taken c.take_word.ensures c.in-Word.is in
    over-two h or-p Or (spelled h c.in-Or.is) fit.or-w (λ us x vs y r q. read.or-w r q) (λ x y. refl) some-policy some-policy c.read_watched-a-in-Or.ensures c.read_watched-b-in-Or.ensures c.close_two-in-Or.ensures

pub read_watched-returns-in-Eventually : goal.read_watched-returns-in-Eventually
read_watched-returns-in-Eventually t c =
    let h = word-taken c.take_word.ensures c.in-Word.is in
    over-one h eventually Eventually (spelled h c.in-Eventually.is) fit.eventually-w (λ us x r. read.eventually-w r) (λ x. refl) some-policy c.read_watched-a-in-Eventually.ensures c.close_one-in-Eventually.ensures

pub read_watched-returns-in-Before : goal.read_watched-returns-in-Before
read_watched-returns-in-Before t c =
    let h = word-taken c.take_word.ensures c.in-Word.is in
    over-two h before- BeforeMinus (spelled h c.in-Before.is) fit.before-w (λ us x vs y r q. read.before-w r q) (λ x y. refl) some-policy some-policy c.read_watched-a-in-Before.ensures c.read_watched-b-in-Before.ensures c.close_two-in-Before.ensures

pub read_watched-returns-in-After : goal.read_watched-returns-in-After
read_watched-returns-in-After t c =
    let h = word-taken c.take_word.ensures c.in-Word.is in
    over-two h after- AfterMinus (spelled h c.in-After.is) fit.after-w (λ us x vs y r q. read.after-w r q) (λ x y. refl) some-policy some-policy c.read_watched-a-in-After.ensures c.read_watched-b-in-After.ensures c.close_two-in-After.ensures

pub read_watched-returns-in-Ignoring : goal.read_watched-returns-in-Ignoring
read_watched-returns-in-Ignoring t c =
    let h = word-taken c.take_word.ensures c.in-Word.is in
    over-two h ignoring Ignoring (spelled h c.in-Ignoring.is) fit.ignoring-w (λ us x vs y r q. read.ignoring-w r q) (λ x y. refl) some-formula some-policy c.read_formula-a-in-Ignoring.ensures c.read_watched-b-in-Ignoring.ensures c.close_two-in-Ignoring.ensures

pub read_watched-returns-in_default-token : goal.read_watched-returns-in_default-token
read_watched-returns-in_default-token t c =
    let h = word-taken c.take_word.ensures c.in-Word.is in
    let n = c.in_default-token in
    misfits-here h (left-over h Watched (n.not-Now, n.not-Count, n.not-Not, n.not-And, n.not-Or, n.not-Eventually, n.not-Before, n.not-After, n.not-Ignoring)) refl c.stuck-in_default-token.ensures
