-- `action_lists::names::all_plain` meets its contract.
use Rattle.std.proofs.Common.{rules, refl}
use Rattle.std.proofs.lemmas.List.Recursion.{and_is}
use Rattle.grammar.specs.Spelling.{is_plain}
use Rattle.action_lists.specs.ActionLists.{all_plain}
use Rattle.action_lists.proofs.names.all_plain.Goals as goal

pub returns : goal.returns
unfolding all_plain
returns c = and_is all_plain is_plain refl (λ _ _. refl) c.args.word.now 0 _ (search rules) (search rules)
