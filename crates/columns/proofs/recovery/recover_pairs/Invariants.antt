use Rattle.std.proofs.Common.{◌≡◌, true, false}
use Rattle.code.specs.Contents.{at}
use Rattle.code.specs.Recovery.{recover}
use Rattle.code.specs.Rows.{odd, digit, partner}
use Rattle.columns.proofs.Slices.{Pairwise}
use Rattle.columns.proofs.recovery.recover_pairs.Given as goal

abbrev pub invariant-loop-low : goal.invariant-loop-low
invariant-loop-low g l =
    let f = g.F.Sums in
    let k = l.along.place in
    let before = at f.symbols f.value l.initial.column in
    (l.low-iterator.digit.now.digits ≡ l.along.digits) × (l.low-iterator.digit.now.place ≡ k)
    × Pairwise f.symbols f.value k
    (λ a. recover f.symbols.ring l.block.kind (f.value l.block.p) (f.value l.block.q) (f.value l.d) (before (partner k false a)) (before (partner k true a)) (odd (digit k a))) l.initial.column l.low-iterator.next l.column
