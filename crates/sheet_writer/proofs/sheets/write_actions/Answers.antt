-- `sheet_writer::sheets::write_actions` meets its contract: an entry more is written after those before.
use borrow.Author.Rules.{rules}
use Rattle.sheet_writer.proofs.Written.{actions-more}
use Rattle.sheet_writer.proofs.sheets.write_actions.Goals as goal

pub loop-a-preserved : goal.loop-a-preserved
loop-a-preserved c =
    let l = c.loop-a in (
      search rules,
      rw (c.put_word.ensures, c.from.ensures, l.invariant.1) (actions-more c.args.out.now c.args.from c.args.actions.now l.a),
    )
