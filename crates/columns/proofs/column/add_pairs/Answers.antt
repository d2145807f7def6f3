use Rattle.std.proofs.Common.{rules, ◌≡◌, ℕ, ◌+◌, ◌-◌, ◌*◌, ◌^◌, ◌≤◌, refl, ap, ap₂, ◌∙◌, arith}
use Rattle.code.specs.Codes.{full, image, shift}
use Rattle.code.specs.Contents.{added, at}
use Rattle.code.proofs.Theory.{shift_below}
use Rattle.columns.proofs.Runs.{image_high, image_low, run_inside, run_more, runs_all}
use Rattle.columns.proofs.Slices.{part}
use Rattle.columns.proofs.column.add_pairs.Goals as goal

pub offset_bounds-sum-start : goal.offset_bounds-sum-start
offset_bounds-sum-start g c =
    let inside = run_inside c.loop-r.r c.rows-rows.result (2 * c.weight-weight.result) c.loop-r-test.true in
    search rules

pub loop-r-preserved : goal.loop-r-preserved
loop-r-preserved g c =
    let Y = g.F.Sums.symbols in
    let v = g.F.Sums.value in
    let code = full Y c.args.cabinet.now.size.m in
    let b = c.args.b in
    let w = c.weight-weight.result in
    let r = c.loop-r.r in
    let start : ℕ = r * (2 * w) in
    let run : ℕ = start + 2 * w - start in
    let size : run ≡ 2 * w = omega arith in
    let sum = c.loop-r.sum in
    let old = c.args.sum.now in
    let column = c.args.column.now in
    let block = c.block-block.ensures in
    let is : w ≡ 2 ^ shift code b = c.weight-weight.ensures.value ∙ ap (λ n. 2 ^ n) c.digit.ensures.place in
    let inside = run_inside r c.rows-rows.result (2 * w) c.loop-r-test.true in
    let before : (i : ℕ) → start ≤ i → at Y v sum i ≡ at Y v old i = λ i h. c.loop-r.invariant.left i h in
    run_more Y v w start run size sum c.add_run.new.sum (omega (arith, inside)) (omega (arith, inside))
    (added Y (at Y v old) (image code b (at Y v column)))
    (λ i l. c.add_run.ensures.lower i l
    ∙ ap₂ Y.ring.plus (part Y v sum (2 * w) r start run refl size i (omega arith) ∙ before (start + i) (omega arith))
    (image_low code b r w i is l (at Y v column) _ _ _ _ _ block.is_kind block.first block.second
    (part Y v column (2 * w) r start run refl size i (omega arith))
    (part Y v column (2 * w) r start run refl size (i + w) (omega arith) ∙ ap (at Y v column) (omega arith))))
    (λ i l. c.add_run.ensures.upper i l
    ∙ ap₂ Y.ring.plus (part Y v sum (2 * w) r start run refl size (i + w) (omega arith) ∙ before (start + (i + w)) (omega arith) ∙ ap (at Y v old) (omega arith))
    (image_high code b r w i is l (at Y v column) _ _ _ _ _ block.is_kind block.first block.second
    (part Y v column (2 * w) r start run refl size i (omega arith))
    (part Y v column (2 * w) r start run refl size (i + w) (omega arith) ∙ ap (at Y v column) (omega arith))))
    old ((r + 1) * (2 * w)) (omega arith) c.loop-r.invariant

pub returns : goal.returns
returns g c =
    let size = c.args.cabinet.now.size in
    let code = full g.F.Sums.symbols size.m in
    let b = c.args.b in
    let all = runs_all size.m (shift code b) c.weight-weight.result c.rows-rows.result c.loop-r.r (shift_below code b size.some) (c.weight-weight.ensures.value ∙ ap (λ n. 2 ^ n) c.digit.ensures.place) c.rows-rows.ensures.value c.loop-r-test.false in
    λ a l. c.loop-r.invariant.done a (omega (arith, all)) (omega arith)
