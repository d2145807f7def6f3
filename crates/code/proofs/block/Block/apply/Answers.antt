use Rattle.code.proofs.Eigens.{eigen_of}
use Rattle.code.proofs.block.Block.apply.Goals as goal

pub returns : goal.returns
returns g c =
    let made = c.rows.ensures in
    record { lower = made.lower; upper = made.upper; eigen = eigen_of _ _ _ _ _ _ _ _ made.lower made.upper }
