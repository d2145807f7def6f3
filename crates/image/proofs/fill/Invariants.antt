use Rattle.std.proofs.Common.{◌≡◌, ◌≤◌}
use Rattle.frame.specs.Layouts.{filled}
use Rattle.image.specs.Triples.{words}
use Rattle.image.proofs.fill.Given as goal

abbrev pub invariant-loop-i : goal.invariant-loop-i
invariant-loop-i l =
    (words l.s ≡ filled (words l.initial.s) l.fn.places.start l.i-iterator.start l.x) × (l.fn.places.start ≤ l.i-iterator.start) × (l.i-iterator.start ≤ l.i-iterator.end) × (l.i-iterator.end ≡ l.fn.places.end)
