use Rattle.std.proofs.Common.{◌≡◌, ◌-◌}
use Rattle.renewing.specs.Renewals.{others_stand}
use Rattle.stripe.specs.Stripes.{stands}
use Rattle.renewing.proofs.counting.others_stand.Given as goal

abbrev pub invariant-loop-b : goal.invariant-loop-b
invariant-loop-b g l =
    let s = g.S.Shelf in
    (s.meaning l.shelf ≡ s.meaning l.initial.shelf) × (s.buffers l.shelf ≡ s.buffers l.initial.shelf)
    × (l.all ≡ others_stand (stands (s.meaning l.initial.shelf)) (l.lost - 1) l.b)
