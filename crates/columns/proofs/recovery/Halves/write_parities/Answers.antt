use Rattle.std.proofs.Common.{◌≡◌, suc, ◌+◌, ◌-◌, ◌*◌, ◌^◌, sym, ap, ◌∙◌, arith}
use Rattle.code.specs.Codes.{full, shift}
use Rattle.code.specs.Contents.{parts}
use Rattle.code.specs.Recovery.{seat}
use Rattle.code.proofs.Theory.{shift_below}
use Rattle.boxes.proofs.Weights.{rows_named}
use Rattle.columns.proofs.Sides.{sides_low, sides_high}
use Rattle.columns.proofs.Slices.{pairwise_more, pairwise_all, read}
use Rattle.columns.proofs.recovery.Halves.write_parities.Goals as goal

pub loop-j-preserved : goal.loop-j-preserved
loop-j-preserved g c =
    let Y = g.F.Sums.symbols in
    let v = g.F.Sums.value in
    let m = c.args.self.now.cabinet.size.m in
    let x = c.args.self.now.lost in
    let k = shift (full Y m) x in
    let j = c.loop-j.j-iterator.iter.next in
    let halves = parts Y v (2 ^ (m - 1)) c.args.self.now.numbers.now in
    let first = halves (seat x (3 * m)) in
    let second = halves (seat x (suc (3 * m))) in
    let low = c.in-Some.low in
    let high = c.in-Some.high in
    let inv = c.loop-j.invariant in
    let steps = c.in-Some.ensures.steps in
    let rows = rows_named inv.0 inv.1 steps.0.1.0 in
    let turn : c.in-Some.j ≡ j = steps.1 ∙ inv.2 in
    let boxes = c.boxes-boxes.ensures in
    let next : c.boxes-boxes.result + 1 ≡ suc (3 * m) = omega (arith, boxes) in
    let sent_first = c.half-first.ensures in
    let sent_second = c.half-second.ensures in
    let es = read Y v c.half-first.result.now c.in-Some.j _ (omega (arith, sent_first.pairs, rows.pair, turn)) c.index-first-j.is ∙ sent_first.numbers c.in-Some.j (omega (arith, rows.pair, turn)) in
    let et = read Y v c.half-second.result.now c.in-Some.j _ (omega (arith, sent_second.pairs, rows.pair, turn)) c.index-second-j.is ∙ sent_second.numbers c.in-Some.j (omega (arith, rows.pair, turn)) in (
      ap (λ d. d.digits) steps.0.0 ∙ inv.0,
      ap (λ d. d.place) steps.0.0 ∙ inv.1,
      steps.2 ∙ ap (λ n. n + 1) inv.2 ∙ sym steps.0.1.1,
      pairwise_more Y v k j low high rows.is_low rows.is_high rows.rising c.loop-j.column c.index-first-j.result c.index-second-j.result (omega (arith, rows.bound)) _ steps.0.1.1 _ _
          (es ∙ (λ i. halves (seat x (boxes i)) (turn i)) ∙ sym (sides_low k first second j low rows.is_low))
          (et ∙ (λ i. halves (seat x (next i)) (turn i)) ∙ sym (sides_high k first second j high rows.is_high))
          inv.3,
    )

pub returns : goal.returns
returns g c =
    let m = c.args.self.now.cabinet.size.m in
    let k = shift (full g.F.Sums.symbols m) c.args.self.now.lost in
    let inv = c.loop-j.invariant in
    pairwise_all g.F.Sums.symbols g.F.Sums.value m k _ _ _ _ _ inv.0 c.in-None.ensures.steps.0.1.0 (shift_below (full g.F.Sums.symbols m) c.args.self.now.lost c.args.self.now.cabinet.size.some) (omega arith) inv.3
