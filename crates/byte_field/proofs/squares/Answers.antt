use Rattle.std.proofs.Common.{arith}
use Rattle.byte_field.proofs.Steps.{squares_more, squares_all}
use Rattle.byte_field.proofs.squares.Goals as goal

pub loop-preserved : goal.loop-preserved
loop-preserved c = squares_more c.args.count c.loop.counter c.loop.square c.loop.found _ _ _ (omega arith) c.times-square.ensures c.times-found.ensures c.loop.invariant

pub returns : goal.returns
returns c = squares_all c.args.count c.loop.counter c.loop.square c.loop.found _ (omega arith) c.loop.invariant
