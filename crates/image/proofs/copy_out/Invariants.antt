use Rattle.std.proofs.Common.{◌≡◌, take, slice_range}
use Rattle.shelf.specs.Rows.{overwritten}
use Rattle.image.specs.Triples.{words}
use Rattle.image.proofs.copy_out.Given as goal

abbrev pub invariant-loop-i : goal.invariant-loop-i
invariant-loop-i l =
    let out = l.initial.out in
    l.out ≡ overwritten 0 (take l.i (slice_range (words l.s) l.places.start l.places.end)) out
