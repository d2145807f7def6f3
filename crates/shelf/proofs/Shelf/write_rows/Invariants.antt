use Rattle.std.proofs.Common.{◌≡◌, true, length, take}
use Rattle.shelf.specs.Meaning.{IsShelf}
use Rattle.shelf.specs.Rows.{has_rows, with_rows}
use Rattle.shelf.proofs.Shelf.write_rows.Given as goal

abbrev pub invariant-loop-i : goal.invariant-loop-i
invariant-loop-i g l =
    let s = g.Self.Shelf in
    let m = s.meaning l.initial.self in
    (s.meaning l.self ≡ with_rows m l.b l.from (take l.i l.symbols)) × (s.buffers l.self ≡ s.buffers l.initial.self)
    × IsShelf m × (has_rows m l.b l.from (length l.symbols) ≡ true)
