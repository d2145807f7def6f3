use Rattle.std.proofs.Common.{◌≡◌, ◌≤◌}
use Rattle.code.specs.Standing.{standing}
use Rattle.stripe.specs.Stripes.{stands}
use Rattle.renewing.proofs.counting.count_standing.Given as goal

abbrev pub invariant-loop-b : goal.invariant-loop-b
invariant-loop-b g l =
    let s = g.S.Shelf in
    (s.meaning l.shelf ≡ s.meaning l.initial.shelf) × (s.buffers l.shelf ≡ s.buffers l.initial.shelf)
    × (l.count ≡ standing (stands (s.meaning l.initial.shelf)) l.b) × (l.count ≤ l.b)
