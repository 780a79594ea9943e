-- `messages::quoting::add_quoted` meets its contract.
use mathlib.Core.Path.{ap}
use Rattle.messages.specs.Message.{all_shown}
use Rattle.messages.proofs.Adding.{adds_then, adds-as}
use Rattle.messages.proofs.Pieces.{quoted-long, quoted-short}
use borrow.Author.Rules.{rules}
use Rattle.messages.proofs.quoting.add_quoted.Goals as goal

pub returns-then-word-gt40 : goal.returns-then-word-gt40
returns-then-word-gt40 c =
    adds-as (quoted-long _ (search rules))
    (adds_then c.put-open.ensures (adds_then (adds-as (ap all_shown c.first_forty.ensures) c.add_all_shown-end.ensures)
    (adds_then c.put-dot.ensures (adds_then c.put-dots.ensures c.put.ensures))))

pub returns : goal.returns
returns c =
    adds-as (quoted-short _ (search rules))
    (adds_then c.put-open.ensures (adds_then (adds-as (ap all_shown c.first_forty.ensures) c.add_all_shown-end.ensures) c.put-2.ensures))
