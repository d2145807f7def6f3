use Rattle.std.proofs.Common.{◌≡◌}
use Rattle.code.specs.Codes.{full, image, shift}
use Rattle.code.specs.Contents.{at}
use Rattle.code.specs.Rows.{lower, pair_of}
use Rattle.columns.specs.Sides.{less, sides}
use Rattle.columns.proofs.Slices.{Pairwise}
use Rattle.columns.proofs.recovery.Halves.subtract_image.Given as goal

abbrev pub invariant-loop-low : goal.invariant-loop-low
invariant-loop-low g l =
    let f = g.F.Sums in
    let c = full f.symbols l.self.cabinet.size.m in
    let k = shift c l.self.lost in
    let half = at f.symbols f.value l.half in
    (l.low-iterator.digit.now.digits ≡ c.size) × (l.low-iterator.digit.now.place ≡ shift c l.b)
    × Pairwise f.symbols f.value (shift c l.b)
    (less f.symbols (at f.symbols f.value l.initial.column) (sides k half (λ j. image c l.b (λ a. half (pair_of k a)) (lower k j)))) l.initial.column l.low-iterator.next l.column
