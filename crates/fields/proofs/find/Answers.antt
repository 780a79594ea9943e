-- `fields::find` meets its contract: the search gives the place of the mark, counted from `from`.
use Rattle.std.proofs.Common.{◌≡◌, drop, Some, None, arith}
use Rattle.std.proofs.lemmas.Grind.{common_steps}
use Rattle.std.specs.List.{position}
use Rattle.fields.proofs.Fielding.{is_mark, ends_at, ends_with_bytes}
use Rattle.fields.proofs.find.Goals as goal

pub returns-in-Some : goal.returns-in-Some
returns-in-Some c =
    let e : position (is_mark c.args.mark) (drop c.args.from c.args.bytes.now) ≡ Some c.in-Some.before = grind (arith, common_steps) in
    ends_at _ _ _ _ c.requires e

pub returns-in-None : goal.returns-in-None
returns-in-None c =
    let e : position (is_mark c.args.mark) (drop c.args.from c.args.bytes.now) ≡ None = grind (arith, common_steps) in
    ends_with_bytes _ _ _ c.requires e
