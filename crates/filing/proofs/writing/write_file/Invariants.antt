use Rattle.std.proofs.Common.{◌≡◌, ◌^◌}
use Rattle.code.specs.Contents.{parts}
use Rattle.filing.proofs.Rewrites.{Below}
use Rattle.filing.proofs.writing.write_file.Given as goal

-- those in the places below b that stand have been written
abbrev pub invariant-loop-b : goal.invariant-loop-b
invariant-loop-b g l =
    let f = g.F.Sums in
    let s = g.S.Shelf in
    let m = l.stripe.cabinet.size.m in
    Below f.symbols f.value m l.stripe.from (parts f.symbols f.value (2 ^ m) l.file) l.b (s.meaning l.fn.shelf) (s.meaning l.shelf)
    × (s.buffers l.shelf ≡ s.buffers l.fn.shelf)
