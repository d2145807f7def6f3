use Rattle.std.proofs.Common.{arith}
use Rattle.code.specs.Codes.{full}
use Rattle.decoding.proofs.Filled.{by_first}
use Rattle.decoding.proofs.filling.by_first.Goals as goal

pub returns : goal.returns
returns g c =
    let size = c.args.cabinet.now.size in
    by_first (full g.F.Sums.symbols size.m) size.some c.args.x _ _ _ c.requires.data (omega (arith, c.boxes.ensures)) c.take_others.ensures
