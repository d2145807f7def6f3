use Rattle.std.proofs.Common.{length, arith}
use Rattle.byte_field.proofs.Steps.{listed_more}
use Rattle.byte_field.proofs.list_doublings.Goals as goal

pub loop-double-preserved : goal.loop-double-preserved
loop-double-preserved c = listed_more (length c.args.doubles.now) c.args.a c.loop-double.double-index c.loop-double.d _ c.loop-double.doubles (omega arith) c.twice-d.ensures c.loop-double.invariant
