use Rattle.std.proofs.Common.{◌≡◌, ◌+◌, ◌*◌, ◌<◌, true, false, length, ◌∙◌, ap₂, arith, length-set}
use Rattle.code.specs.Blocks.{block as blocked}
use Rattle.columns.proofs.Runs.{halves_more}
use Rattle.columns.proofs.Slices.{read, written_else}
use Rattle.columns.proofs.column.add_side_by_side.Goals as goal

pub loop-i-preserved : goal.loop-i-preserved
loop-i-preserved g c =
    let Y = g.F.Sums.symbols in
    let v = g.F.Sums.value in
    let block = c.args.block in
    let w = c.args.weight in
    let i = c.loop-i.i in
    let sum = c.loop-i.sum in
    let column = c.args.column.now in
    let inv = c.loop-i.invariant in
    let long : length sum ≡ 2 * w = omega arith in
    let upper : i + w < length sum = omega arith in
    let es = read Y v column i _ (omega arith) c.index-column-i.is in
    let et = read Y v column (i + w) _ (omega arith) c.index-column-i-in-loop-i.is in
    halves_more Y v w i (omega arith) sum c.sum.result c.sum-in-loop-i.result long _ _ _
    (c.sum.ensures
    ∙ ap₂ Y.ring.plus (read Y v sum i _ (omega arith) c.index-sum-i.is ∙ inv.low_left i (omega arith) (omega arith))
    (c.apply.ensures.lower ∙ ap₂ (λ s t. blocked Y.ring block.kind (v block.p) (v block.q) s t false) es et))
    (c.sum-in-loop-i.ensures
    ∙ ap₂ Y.ring.plus (read Y v _ (i + w) _ (simp length-set upper) c.index-sum-i-in-loop-i.is ∙ written_else Y v sum i (i + w) c.sum.result (λ e. omega arith) ∙ inv.high_left i (omega arith))
    (c.apply.ensures.upper ∙ ap₂ (λ s t. blocked Y.ring block.kind (v block.p) (v block.q) s t true) es et))
    inv

pub returns-clause-lower : goal.returns-clause-lower
returns-clause-lower g c = λ i l. c.loop-i.invariant.low i (omega arith)

pub returns-clause-upper : goal.returns-clause-upper
returns-clause-upper g c = λ i l. c.loop-i.invariant.high i (omega arith)
