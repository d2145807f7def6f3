use Rattle.code.proofs.Pairing.{paired}
use Rattle.code.proofs.rows_pair.Goals as goal

pub returns : goal.returns
returns c = paired
