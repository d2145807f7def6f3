use Rattle.std.proofs.Common.{false, true, if◌then◌else◌, ap, ◌∙◌, arith}
use Rattle.code.specs.Blocks.{block, ◌∸◌}
use Rattle.code.specs.Codes.{full, shift}
use Rattle.code.specs.Contents.{at}
use Rattle.code.specs.Rows.{odd, digit, pair_of}
use Rattle.code.proofs.Theory.{shift_below}
use Rattle.boxes.proofs.Weights.{rows_named}
use Rattle.columns.specs.Sides.{sides}
use Rattle.columns.proofs.Sides.{across, across_low, across_high}
use Rattle.columns.proofs.Slices.{pairwise_less, pairwise_all}
use Rattle.columns.proofs.recovery.Halves.subtract_image.Goals as goal

pub loop-low-preserved : goal.loop-low-preserved
loop-low-preserved g c =
    let Y = g.F.Sums.symbols in
    let R = Y.ring in
    let v = g.F.Sums.value in
    let code = full Y c.args.self.now.cabinet.size.m in
    let x = c.args.self.now.lost in
    let b = c.args.b in
    let k = shift code x in
    let half = at Y v c.args.half.now in
    let j = c.loop-low.low-iterator.next in
    let low = c.in-Some.low in
    let high = c.in-Some.high in
    let made = c.block-block.result in
    let block_is = c.block-block.ensures in
    let place = c.args.self.now.place in
    let inv = c.loop-low.invariant in
    let steps = c.in-Some.ensures.steps in
    let rows = rows_named inv.0 inv.1 steps.1.0 in
    let off = c.subtract_pair.ensures in (
      ap (λ d. d.digits) steps.0 ∙ inv.0,
      ap (λ d. d.place) steps.0 ∙ inv.1,
      pairwise_less Y v (shift code b) j low high rows.is_low rows.is_high (sides k half (across code x b c.requires.across half)) c.args.column.now c.loop-low.column _
          (off.low
          ∙ ap (◌∸◌ R (at Y v c.loop-low.column low))
          (c.share.ensures.lower
          ∙ (λ i. if odd (digit (place i) low) then block R made.kind (v made.p) (v made.q) (half (pair_of (place i) low)) (half (pair_of (place i) high)) false else half (pair_of (place i) low))
          ∙ across_low code x b c.requires.across half j low high rows.is_low rows.is_high made.kind (v made.p) (v made.q) block_is.is_kind block_is.first block_is.second))
          (off.high
          ∙ ap (◌∸◌ R (at Y v c.loop-low.column high))
          (c.share.ensures.upper
          ∙ (λ i. if odd (digit (place i) low) then block R made.kind (v made.p) (v made.q) (half (pair_of (place i) low)) (half (pair_of (place i) high)) true else half (pair_of (place i) high))
          ∙ across_high code x b c.requires.across half j low high rows.is_low rows.is_high made.kind (v made.p) (v made.q) block_is.is_kind block_is.first block_is.second))
          off.rest _ steps.1.1 inv.2,
    )

pub returns : goal.returns
returns g c =
    let m = c.args.self.now.cabinet.size.m in
    let l = shift (full g.F.Sums.symbols m) c.args.b in
    let inv = c.loop-low.invariant in
    pairwise_all g.F.Sums.symbols g.F.Sums.value m l _ _ _ _ _ inv.0 c.in-None.ensures.steps.1.0 (shift_below (full g.F.Sums.symbols m) c.args.b c.args.self.now.cabinet.size.some) (omega arith) inv.2
