-- `compiler::call::compile_with` meets its contract: the table of the last node, where the sheet's nodes stand.
use native.Mathlib.Omega.{arith}
use Rattle.compiler.proofs.WrittenTables.{writable, table-written}
use Rattle.compiler.proofs.call.compile_with.Goals as goal

pub write_rows-requires : goal.write_rows-requires
write_rows-requires c =
    let lent = c.requires.to-work in
    writable c.in_ok-built.ensures lent.range.row.high (let same = c.build_sheet.auto in omega (arith, lent.bytes)) c.args.out.now c.requires.output

pub returns : goal.returns
returns c = table-written c.in_ok-built.ensures c.args.out.now _ c.write_rows.ensures
