use Rattle.std.proofs.Common.{◌≡◌, take}
use Rattle.shelf.specs.Rows.{overwritten}
use Rattle.image.specs.Triples.{words}
use Rattle.image.proofs.copy_in.Given as goal

abbrev pub invariant-loop-i : goal.invariant-loop-i
invariant-loop-i l = words l.s ≡ overwritten l.places.start (take l.i l.symbols) (words l.initial.s)
