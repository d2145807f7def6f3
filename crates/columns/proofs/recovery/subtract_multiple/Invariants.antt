use Rattle.std.proofs.Common.{◌≡◌}
use Rattle.code.specs.Contents.{at}
use Rattle.columns.specs.Sides.{less, sides}
use Rattle.columns.proofs.Slices.{Pairwise}
use Rattle.columns.proofs.recovery.subtract_multiple.Given as goal

abbrev pub invariant-loop-j : goal.invariant-loop-j
invariant-loop-j g l =
    let f = g.F.Sums in
    let k = l.along.place in
    let half = at f.symbols f.value l.half in
    let pairs = l.j-iterator.iter in
    (pairs.digit.now.digits ≡ l.along.digits) × (pairs.digit.now.place ≡ k) × (l.j-iterator.count ≡ pairs.next)
    × Pairwise f.symbols f.value k (less f.symbols (at f.symbols f.value l.initial.column) (sides k half (λ j. f.symbols.ring.times (f.value l.eigenvalue) (half j)))) l.initial.column pairs.next l.column
