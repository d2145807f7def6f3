use Rattle.std.proofs.Common.{◌≡◌, if◌then◌else◌}
use Rattle.code.specs.Contents.{at}
use Rattle.code.specs.Decoding.{turn as turned}
use Rattle.columns.proofs.Slices.{Pairwise}
use Rattle.decoding.specs.Matrices.{entries}
use Rattle.decoding.proofs.solving.turn.Given as goal

abbrev pub invariant-loop-low : goal.invariant-loop-low
invariant-loop-low g l =
    let f = g.F.Sums in
    (l.low-iterator.digit.now.digits ≡ l.along.digits) × (l.low-iterator.digit.now.place ≡ l.along.place)
    × Pairwise f.symbols f.value l.along.place
    (turned f.symbols.ring l.along.place l.by.place (λ r. if r then entries f.value l.upper else entries f.value l.lower) (at f.symbols f.value l.initial.column)) l.initial.column l.low-iterator.next l.column
