use Rattle.byte_field.proofs.Steps.{Added}
use Rattle.byte_field.proofs.times.Given as goal

abbrev pub invariant-loop-double : goal.invariant-loop-double
invariant-loop-double l = Added l.double-items l.b l.double-index l.sum l.rest
