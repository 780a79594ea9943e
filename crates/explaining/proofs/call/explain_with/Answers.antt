-- `explaining::call::explain_with` meets its contract: what building the sheet refuses, 34, or what is found.
use native.Mathlib.Omega.{arith}
use Rattle.std.proofs.lemmas.Result.{err_from_is_err_and}
use Rattle.explaining.specs.Explains.{not-compiled}
use Rattle.explaining.proofs.Standing.{standing, explained}
use Rattle.explaining.proofs.call.explain_with.Goals as goal

pub returns-in_err-built : goal.returns-in_err-built
returns-in_err-built c =
    let p = err_from_is_err_and c.from_residual.result c.from_residual.ensures.1 in rw (p.1, p.2) (not-compiled _ _ c.in_err-built.ensures)

pub find_denial-requires : goal.find_denial-requires
find_denial-requires c = standing c.in_ok-built.ensures (let same = c.build_sheet.auto in omega (arith, c.requires.bytes))

pub returns : goal.returns
returns c = explained c.in_ok-built.ensures _ _ _ c.find_denial.ensures
