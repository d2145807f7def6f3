use Rattle.std.proofs.Common.{ap, ◌∙◌, arith}
use Rattle.byte_field.specs.Product.{product, picked}
use Rattle.byte_field.proofs.Steps.{added_all}
use Rattle.byte_field.proofs.times.Goals as goal

pub returns : goal.returns
unfolding product
returns c =
    added_all c.doublings-double-items.result c.args.b c.loop-double.double-index c.loop-double.sum c.loop-double.rest (omega arith) c.loop-double.invariant
    ∙ ap (λ ds. picked ds c.args.b) c.doublings-double-items.ensures
