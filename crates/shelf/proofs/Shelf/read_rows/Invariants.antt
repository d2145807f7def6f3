use Rattle.std.proofs.Common.{◌≡◌, length, take}
use Rattle.shelf.specs.Rows.{overwritten, rows_at}
use Rattle.shelf.proofs.Shelf.read_rows.Given as goal

abbrev pub invariant-loop-i : goal.invariant-loop-i
invariant-loop-i g l =
    let s = g.Self.Shelf in
    let m = s.meaning l.initial.self in
    let out = l.initial.out in
    (s.meaning l.self ≡ m) × (s.buffers l.self ≡ s.buffers l.initial.self)
    × (l.out ≡ overwritten 0 (take l.i (rows_at m l.b l.from (length out))) out)
