-- `rule_messages::misfits::any_between` meets its contract.
use Rattle.std.proofs.Common.{rules, refl, leb, ◌&&◌}
use Rattle.std.proofs.lemmas.List.Recursion.{or_is}
use Rattle.rule_messages.specs.Misfits.{any_between}
use Rattle.rule_messages.proofs.misfits.any_between.Goals as goal

pub returns : goal.returns
unfolding any_between
returns c =
    or_is (any_between c.args.low c.args.high) (λ byte. leb c.args.low byte && leb byte c.args.high) refl (λ _ _. refl) c.args.word.now 0 _ (search rules) (search rules)
