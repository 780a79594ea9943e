-- `part_words::propositions::some_has` meets its contract.
use Rattle.std.proofs.Common.{rules, refl}
use Rattle.std.proofs.lemmas.List.Recursion.{or_is}
use Rattle.base.specs.Sets.{bit}
use Rattle.part_words.specs.Propositions.{some_has}
use Rattle.part_words.proofs.propositions.some_has.Goals as goal

pub returns : goal.returns
unfolding some_has
returns c = or_is (λ actions. some_has actions c.args.p) (λ set. bit set c.args.p) refl (λ _ _. refl) c.args.actions.now 0 _ (search rules) (search rules)
