use Rattle.std.proofs.Common.{arith}
use Rattle.columns.proofs.Slices.{rowwise_more}
use Rattle.columns.proofs.column.clear.Goals as goal

pub loop-symbol-preserved : goal.loop-symbol-preserved
loop-symbol-preserved g c =
    let f = g.F.Sums in
    rowwise_more f.symbols f.value _ _ c.loop-symbol.symbol-index c.loop-symbol.column c.zero.result (omega arith) c.zero.ensures c.loop-symbol.invariant
