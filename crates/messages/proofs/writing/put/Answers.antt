-- `messages::writing::put` meets its contract.
use Rattle.messages.proofs.Adding.{adds-byte, adds-no-room}
use borrow.Author.Rules.{rules}
use Rattle.messages.proofs.writing.put.Goals as goal

pub returns-then-at-text : goal.returns-then-at-text
returns-then-at-text c = adds-byte _ _ _ (search rules)

pub returns : goal.returns
returns c = adds-no-room _ _ _ (search rules)
