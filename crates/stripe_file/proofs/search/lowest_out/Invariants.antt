use Rattle.std.proofs.Common.{◌≡◌, ◌-◌, ◌≤◌}
use Rattle.missing.specs.Missing.{AllStand}
use Rattle.stripe.specs.Stripes.{stands}
use Rattle.stripe_file.proofs.search.lowest_out.Given as goal

abbrev pub invariant-loop-b : goal.invariant-loop-b
invariant-loop-b g l =
    let s = g.S.Shelf in
    (l.from ≤ l.b) × (l.b ≤ l.n) × (s.meaning l.shelf ≡ s.meaning l.initial.shelf) × (s.buffers l.shelf ≡ s.buffers l.initial.shelf)
    × AllStand (stands (s.meaning l.initial.shelf)) l.from l.b

abbrev pub decreases-loop-b : goal.decreases-loop-b
decreases-loop-b g l = l.n - l.b
