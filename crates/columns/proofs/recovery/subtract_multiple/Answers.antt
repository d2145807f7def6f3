use Rattle.std.proofs.Common.{◌≡◌, ℕ, ◌+◌, ◌<◌, length, sym, ap, ◌∙◌, arith}
use Rattle.code.specs.Blocks.{◌∸◌}
use Rattle.code.specs.Contents.{at}
use Rattle.boxes.proofs.Weights.{rows_named}
use Rattle.columns.specs.Sides.{sides}
use Rattle.columns.proofs.Sides.{sides_low, sides_high}
use Rattle.columns.proofs.Slices.{pairwise_less, pairwise_all, read}
use Rattle.columns.proofs.recovery.subtract_multiple.Goals as goal

pub loop-j-preserved : goal.loop-j-preserved
loop-j-preserved g c =
    let Y = g.F.Sums.symbols in
    let R = Y.ring in
    let v = g.F.Sums.value in
    let k = c.args.along.now.place in
    let half = at Y v c.args.half.now in
    let multiple = λ (j : ℕ). R.times (v c.args.eigenvalue) (half j) in
    let j = c.loop-j.j-iterator.iter.next in
    let low = c.in-Some.low in
    let high = c.in-Some.high in
    let inv = c.loop-j.invariant in
    let steps = c.in-Some.ensures.steps in
    let rows = rows_named inv.0 inv.1 steps.0.1.0 in
    let turn : c.in-Some.j ≡ j = steps.1 ∙ inv.2 in
    let inside : c.in-Some.j < length c.args.half.now = omega (arith, c.requires.pairs, rows.pair, turn) in
    let off = c.subtract_pair.ensures in (
      ap (λ d. d.digits) steps.0.0 ∙ inv.0,
      ap (λ d. d.place) steps.0.0 ∙ inv.1,
      steps.2 ∙ ap (λ n. n + 1) inv.2 ∙ sym steps.0.1.1,
      pairwise_less Y v k j low high rows.is_low rows.is_high (sides k half multiple) c.args.column.now c.loop-j.column _
          (off.low ∙ ap (◌∸◌ R (at Y v c.loop-j.column low)) (read Y v c.args.half.now c.in-Some.j _ inside c.index-half-j.is ∙ ap half turn ∙ sym (sides_low k half multiple j low rows.is_low)))
          (off.high
          ∙ ap (◌∸◌ R (at Y v c.loop-j.column high)) (c.product.ensures ∙ ap (R.times (v c.args.eigenvalue)) (read Y v c.args.half.now c.in-Some.j _ inside c.index-half-j-in-loop-j.is ∙ ap half turn) ∙ sym (sides_high k half multiple j high rows.is_high)))
          off.rest _ steps.0.1.1 inv.3,
    )

pub returns : goal.returns
returns g c =
    let along = c.args.along.now in
    let inv = c.loop-j.invariant in
    pairwise_all g.F.Sums.symbols g.F.Sums.value along.digits along.place _ _ _ _ _ inv.0 c.in-None.ensures.steps.0.1.0 along.inside (omega arith) inv.3
