-- `fields::marks_in` meets its contract.
use Rattle.std.proofs.Common.{rules, ◌≡◌, arith}
use Rattle.std.specs.List.{count_by}
use Rattle.std.proofs.lemmas.List.Sums.{count_by-le-length}
use Rattle.fields.proofs.Fielding.{is_mark, fields-counted}
use Rattle.fields.proofs.marks_in.Goals as goal

pub returns : goal.returns
returns c =
    let n : c.count.result ≡ count_by (is_mark c.args.mark) c.args.bytes.now = search rules in
    (omega (arith, n, fields-counted c.args.mark c.args.bytes.now), omega (arith, n, count_by-le-length (is_mark c.args.mark) c.args.bytes.now))
