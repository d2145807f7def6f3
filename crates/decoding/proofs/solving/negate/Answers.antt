use Rattle.std.proofs.Common.{◌∙◌, ap, arith}
use Rattle.columns.proofs.Slices.{rowwise_more, element}
use Rattle.decoding.proofs.solving.negate.Goals as goal

pub loop-symbol-preserved : goal.loop-symbol-preserved
loop-symbol-preserved g c =
    let f = g.F.Sums in
    let a = c.loop-symbol.symbol-index in
    rowwise_more f.symbols f.value _ _ a c.loop-symbol.column c.negative.result (omega arith)
    (c.negative.ensures ∙ ap f.symbols.ring.negative (element f.symbols f.value c.loop-symbol.column a _ (omega arith) ∙ c.loop-symbol.invariant.left a (omega arith)))
    c.loop-symbol.invariant
