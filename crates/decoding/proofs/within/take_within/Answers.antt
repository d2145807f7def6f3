use Rattle.code.specs.Codes.{full}
use Rattle.columns.proofs.Shares.{share_same}
use Rattle.decoding.proofs.Filled.{taken}
use Rattle.decoding.proofs.within.take_within.Goals as goal

pub returns : goal.returns
returns g c =
    let size = c.args.cabinet.now.size in
    let code = full g.F.Sums.symbols size.m in
    taken code size.some c.args.x _ _ _ _ _ _ c.negate_within.ensures c.add_within.ensures c.negate_within-2.ensures
    (share_same c.args.which code c.args.b _ _ size.some (c.negate_within.ensures.others c.args.b c.requires.two))
