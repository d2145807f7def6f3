use Rattle.std.proofs.Common.{arith, pow_mono, pow_pos}
use Rattle.boxes.proofs.Weights.{power_is}
use Rattle.boxes.proofs.rows.small_power.Goals as goal

pub returns : goal.returns
returns c =
    let is = power_is c.args.k c.power.result c.requires c.power.ensures in
    record { value = is; bound = omega (arith, is, pow_mono c.requires); positive = omega (arith, is, pow_pos c.args.k) }
