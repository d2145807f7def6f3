use Rattle.code.specs.Codes.{full}
use Rattle.decoding.proofs.Filled.{taken, others_kept}
use Rattle.decoding.proofs.within.take_others.Goals as goal

pub returns : goal.returns
returns g c =
    let size = c.args.cabinet.now.size in
    let code = full g.F.Sums.symbols size.m in
    taken code size.some c.args.into _ _ _ _ _ _ c.negate_within.ensures c.add_others.ensures c.negate_within-2.ensures
    (others_kept code size.some c.args.which c.args.x c.args.y c.args.into _ c.requires.one _ c.negate_within.ensures.others)
