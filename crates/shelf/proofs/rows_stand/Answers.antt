use Rattle.shelf.proofs.Rows.{laws}
use Rattle.shelf.proofs.rows_stand.Goals as goal

pub returns : goal.returns
returns g c = laws _
