use Rattle.std.proofs.Common.{◌<◌, length, sym, ap, ◌∙◌, arith}
use Rattle.code.specs.Contents.{at}
use Rattle.code.specs.Recovery.{recover}
use Rattle.code.specs.Rows.{pair_of}
use Rattle.code.proofs.Pairing.{pair_lower, pair_upper}
use Rattle.boxes.proofs.Weights.{rows_named}
use Rattle.columns.proofs.Sides.{low_lower, low_upper, low_digit, high_lower, high_upper, high_digit}
use Rattle.columns.proofs.Slices.{pairwise_more, pairwise_all, read}
use Rattle.columns.proofs.recovery.recover_pairs.Goals as goal

pub loop-low-preserved : goal.loop-low-preserved
loop-low-preserved g c =
    let Y = g.F.Sums.symbols in
    let v = g.F.Sums.value in
    let k = c.args.along.now.place in
    let made = c.args.block in
    let j = c.loop-low.low-iterator.next in
    let low = c.in-Some.low in
    let high = c.in-Some.high in
    let column = c.loop-low.column in
    let before = at Y v c.args.column.now in
    let inv = c.loop-low.invariant in
    let steps = c.in-Some.ensures.steps in
    let rows = rows_named inv.0 inv.1 steps.1.0 in
    let hs : high < length column = omega (arith, rows.bound) in
    let eg = read Y v column low _ (omega (arith, rows.rising)) c.index-column-low.is ∙ inv.2.left low (omega (arith, ap (pair_of k) rows.is_low ∙ pair_lower k j)) in
    let eh = read Y v column high _ hs c.index-column-high.is ∙ inv.2.left high (omega (arith, ap (pair_of k) rows.is_high ∙ pair_upper k j)) in (
      ap (λ d. d.digits) steps.0 ∙ inv.0,
      ap (λ d. d.place) steps.0 ∙ inv.1,
      pairwise_more Y v k j low high rows.is_low rows.is_high rows.rising column c.recover.result.0 c.recover.result.1 hs _ steps.1.1 _ _
          (c.recover.ensures.lower
          ∙ (λ i. recover Y.ring made.kind (v made.p) (v made.q) (v c.args.d) ((eg ∙ ap before (sym (low_lower k j low high rows.is_low rows.is_high))) i) ((eh ∙ ap before (sym (low_upper k j low high rows.is_low rows.is_high))) i) (sym (low_digit k j low high rows.is_low rows.is_high) i)))
          (c.recover.ensures.upper
          ∙ (λ i. recover Y.ring made.kind (v made.p) (v made.q) (v c.args.d) ((eg ∙ ap before (sym (high_lower k j low high rows.is_low rows.is_high))) i) ((eh ∙ ap before (sym (high_upper k j low high rows.is_low rows.is_high))) i) (sym (high_digit k j low high rows.is_low rows.is_high) i)))
          inv.2,
    )

pub returns : goal.returns
returns g c =
    let along = c.args.along.now in
    let inv = c.loop-low.invariant in
    pairwise_all g.F.Sums.symbols g.F.Sums.value along.digits along.place _ _ _ _ _ inv.0 c.in-None.ensures.steps.1.0 along.inside (omega arith) inv.2
