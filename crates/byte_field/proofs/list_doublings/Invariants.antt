use Rattle.std.proofs.Common.{length}
use Rattle.byte_field.proofs.Steps.{Listed}
use Rattle.byte_field.proofs.list_doublings.Given as goal

abbrev pub invariant-loop-double : goal.invariant-loop-double
invariant-loop-double l = Listed (length l.initial.doubles) l.a l.double-index l.d l.doubles
