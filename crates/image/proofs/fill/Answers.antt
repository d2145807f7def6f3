use Rattle.std.proofs.Common.{arith}
use Rattle.std.proofs.lemmas.Grind.{common_steps}
use Rattle.frame.proofs.Cuts.{filled_more}
use Rattle.image.proofs.Triples.{length_words}
use Rattle.image.proofs.fill.Goals as goal

pub loop-i-preserved : goal.loop-i-preserved
loop-i-preserved c = (grind (arith, common_steps, filled_more, length_words), grind (arith, common_steps), grind (arith, common_steps), grind (arith, common_steps))
