use Rattle.std.proofs.Common.{◌∙◌, ap₂, arith}
use Rattle.columns.proofs.Slices.{rowwise_more, element, read}
use Rattle.columns.proofs.column.add_rows.Goals as goal

pub loop-a-preserved : goal.loop-a-preserved
loop-a-preserved g c =
    let f = g.F.Sums in
    let a = c.loop-a.a in
    rowwise_more f.symbols f.value _ _ a c.loop-a.sum c.sum.result (omega arith)
    (c.sum.ensures ∙ ap₂ f.symbols.ring.plus (element f.symbols f.value c.loop-a.sum a _ (omega arith) ∙ c.loop-a.invariant.left a (omega arith)) (read f.symbols f.value c.args.column.now a _ (omega arith) c.index-column-a.is))
    c.loop-a.invariant
