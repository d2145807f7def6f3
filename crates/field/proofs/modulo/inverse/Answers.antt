use Rattle.std.proofs.Common.{arith}
use Rattle.field.proofs.Inverses.{halvings_more}
use Rattle.field.proofs.modulo.inverse.Goals as goal

pub loop-preserved : goal.loop-preserved
loop-preserved g c =
    let h = c.halve.ensures in
    let inv = c.loop.invariant in
    (h.some, omega (arith, h.half, inv.1), h.below, h.takes c.args.x inv.3, halvings_more c.loop.counter c.loop.a _ c.args.x h.half inv.4)
