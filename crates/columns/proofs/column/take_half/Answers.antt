use Rattle.std.proofs.Common.{◌≡◌, ℕ, ◌+◌, ◌-◌, ◌%◌, ◌^◌, ◌<◌, ◌≤◌, ap, ◌∙◌, arith}
use Rattle.field.specs.Symbols.{Symbols}
use Rattle.boxes.specs.Pairs.{RowsOfPair}
use Rattle.code.specs.Blocks.{half}
use Rattle.code.specs.Codes.{full, shift}
use Rattle.code.specs.Contents.{at}
use Rattle.code.proofs.Theory.{shift_below}
use Rattle.boxes.proofs.Weights.{rows_of_pair}
use Rattle.columns.proofs.Slices.{rowwise_more, read}
use Rattle.columns.proofs.column.take_half.Goals as goal

-- the rows of pair j, by the digit and its weight
rows_at : (Y : Symbols) (m x j k w : ℕ) → 1 ≤ m → m ≤ 6 → j < 2 ^ (m - 1) → k ≡ shift (full Y m) x → w ≡ 2 ^ k → 1 ≤ w → RowsOfPair m (shift (full Y m) x) j (j + (j - j % w)) (j + (j - j % w) + w)
rows_at Y m x j k w some most below place is positive =
    rows_of_pair m (shift (full Y m) x) j w most (shift_below (full Y m) x some) below (is ∙ ap (λ n. 2 ^ n) place) positive

pub bounds-column-low-in-loop-j : goal.bounds-column-low-in-loop-j
bounds-column-low-in-loop-j g c =
    let size = c.args.size.now in
    let digit = c.digit-digit.ensures in
    let weight = c.weight-weight.ensures in
    let rows = rows_at g.F.Sums.symbols size.m c.args.x c.loop-j.j _ _ size.some size.most (omega arith) digit.place weight.value weight.positive in
    omega (arith, rows.bound)

pub offset_bounds-column-low-in-loop-j : goal.offset_bounds-column-low-in-loop-j
offset_bounds-column-low-in-loop-j g c =
    let size = c.args.size.now in
    let digit = c.digit-digit.ensures in
    let weight = c.weight-weight.ensures in
    let rows = rows_at g.F.Sums.symbols size.m c.args.x c.loop-j.j _ _ size.some size.most (omega arith) digit.place weight.value weight.positive in
    omega (arith, rows.bound)

pub loop-j-preserved : goal.loop-j-preserved
loop-j-preserved g c =
    let Y = g.F.Sums.symbols in
    let v = g.F.Sums.value in
    let size = c.args.size.now in
    let digit = c.digit-digit.ensures in
    let weight = c.weight-weight.ensures in
    let column = c.args.column.now in
    let j = c.loop-j.j in
    let rows = rows_at Y size.m c.args.x j _ _ size.some size.most (omega arith) digit.place weight.value weight.positive in
    let es = read Y v column _ _ (omega (arith, rows.rising, rows.bound)) c.index-column-low.is ∙ ap (at Y v column) rows.is_low in
    let et = read Y v column _ _ (omega (arith, rows.bound)) c.index-column-low-in-loop-j.is ∙ ap (at Y v column) rows.is_high in
    rowwise_more Y v _ _ j c.loop-j.half c.half.result (omega arith)
    (c.half.ensures ∙ (λ i. half Y.ring (c.kind_at-kind.ensures i) (es i) (et i)))
    c.loop-j.invariant
