use Rattle.std.proofs.Common.{arith}
use Rattle.std.proofs.lemmas.Grind.{common_steps}
use Rattle.frame.proofs.Cuts.{filled_more}
use Rattle.flat.proofs.fill.Goals as goal

pub loop-i-preserved : goal.loop-i-preserved
loop-i-preserved g c = (grind (arith, common_steps, filled_more), grind (arith, common_steps), grind (arith, common_steps), grind (arith, common_steps))
