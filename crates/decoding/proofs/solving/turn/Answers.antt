use Rattle.std.proofs.Common.{◌≡◌, ℕ, Bool, true, false, if◌then◌else◌, sym, ap, ◌∙◌, arith}
use Rattle.code.specs.Contents.{at}
use Rattle.code.specs.Rows.{odd, digit, pair_of}
use Rattle.code.proofs.Pairing.{pair_lower, pair_upper}
use Rattle.boxes.proofs.Weights.{rows_named}
use Rattle.columns.proofs.Slices.{pairwise_more, pairwise_all, read}
use Rattle.decoding.specs.Matrices.{entries}
use Rattle.decoding.proofs.Turns.{chosen_alike, turned_low, turned_high}
use Rattle.decoding.proofs.solving.turn.Goals.{then-is_upper, else-is_upper}
use Rattle.decoding.proofs.solving.turn.Goals as goal

pub loop-low-preserved : goal.loop-low-preserved
loop-low-preserved g c =
    let Y = g.F.Sums.symbols in
    let v = g.F.Sums.value in
    let k = c.args.along.now.place in
    let l = c.args.by.now.place in
    let column = c.loop-low.column in
    let before = at Y v c.args.column.now in
    let j = c.loop-low.low-iterator.next in
    let low = c.in-Some.low in
    let high = c.in-Some.high in
    let inv = c.loop-low.invariant in
    let steps = c.in-Some.ensures.steps in
    let rows = rows_named inv.0 inv.1 steps.1.0 in
    let N = entries v c.if-is_upper.matrix in
    let M = λ (r : Bool). if r then entries v c.args.upper else entries v c.args.lower in
    let at_low : N ≡ M (odd (digit l low)) = elim c.if-is_upper.branch [
      | then-is_upper w ↦ ap (entries v) w.matrix-is ∙ ap M (sym w.if-is_upper.true ∙ c.is_upper.ensures)
      | else-is_upper w ↦ ap (entries v) w.matrix-is ∙ ap M (sym w.if-is_upper.false ∙ c.is_upper.ensures)
    ] in
    let choose = λ (row : ℕ). M (odd (digit l row)) in
    let at_high : N ≡ M (odd (digit l high)) = at_low ∙ ap choose rows.is_low ∙ sym (chosen_alike k l j (M false) (M true) (λ e. ap (entries v) (c.requires.choice e))) ∙ ap choose (sym rows.is_high) in
    let es = read Y v column low _ (omega (arith, rows.rising, rows.bound)) c.index-column-low.is ∙ inv.2.left low (omega (arith, ap (pair_of k) rows.is_low ∙ pair_lower k j)) in
    let et = read Y v column high _ (omega (arith, rows.bound)) c.index-column-high.is ∙ inv.2.left high (omega (arith, ap (pair_of k) rows.is_high ∙ pair_upper k j)) in (
      ap (λ d. d.digits) steps.0 ∙ inv.0,
      ap (λ d. d.place) steps.0 ∙ inv.1,
      pairwise_more Y v k j low high rows.is_low rows.is_high rows.rising column c.apply.result.0 c.apply.result.1 (omega (arith, rows.bound)) _ steps.1.1 _ _
          (c.apply.ensures.lower ∙ turned_low Y.ring k l M before j low high rows.is_low rows.is_high N at_low _ _ es et)
          (c.apply.ensures.upper ∙ turned_high Y.ring k l M before j low high rows.is_low rows.is_high N at_high _ _ es et)
          inv.2,
    )

pub returns : goal.returns
returns g c =
    let inv = c.loop-low.invariant in
    pairwise_all g.F.Sums.symbols g.F.Sums.value c.args.along.now.digits c.args.along.now.place _ _ _ _ _ inv.0 c.in-None.ensures.steps.1.0 c.args.along.now.inside (omega arith) inv.2
