-- `machine_tables::write_rows` meets its contract: the part of the work area at the front of the slot, written as a table.
use Rattle.machine_tables.proofs.Written.{written}
use Rattle.machine_tables.proofs.write_rows.Goals as goal

pub returns : goal.returns
returns c = written c.requires _ _ c.write_table.ensures
