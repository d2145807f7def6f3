use Rattle.code.specs.Codes.{full}
use Rattle.decoding.proofs.Filled.{by_both}
use Rattle.decoding.proofs.filling.by_both.Goals as goal

pub returns : goal.returns
returns g c =
    let size = c.args.cabinet.now.size in
    by_both (full g.F.Sums.symbols size.m) size.some c.args.x c.args.y c.requires.first c.requires.second c.requires.two _ _ _ _ _ _
    c.take_others.ensures c.take_others-2.ensures c.take_within.ensures c.solve_within.ensures.others c.solve_within.ensures.difference c.take_within-2.ensures
