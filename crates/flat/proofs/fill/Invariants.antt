use Rattle.std.proofs.Common.{◌≡◌, ◌≤◌}
use Rattle.frame.specs.Layouts.{filled}
use Rattle.flat.proofs.fill.Given as goal

abbrev pub invariant-loop-i : goal.invariant-loop-i
invariant-loop-i g l =
    (l.s ≡ filled l.initial.s l.fn.places.start l.i-iterator.start l.x) × (l.fn.places.start ≤ l.i-iterator.start) × (l.i-iterator.start ≤ l.i-iterator.end) × (l.i-iterator.end ≡ l.fn.places.end)
