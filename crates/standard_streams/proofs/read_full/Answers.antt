-- `standard_streams::read_full` meets its contract.
use Rattle.std.proofs.Common.{arith}
use Rattle.standard_streams.proofs.Counting.{prefix_len_of_le}
use Rattle.standard_streams.proofs.read_full.Goals as goal

pub returns : goal.returns
returns g c = prefix_len_of_le _ _ (omega arith)
