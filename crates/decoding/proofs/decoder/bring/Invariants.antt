use Rattle.std.proofs.Common.{◌≡◌, ◌*◌, ◌^◌, length}
use Rattle.code.specs.Codes.{full}
use Rattle.code.specs.Contents.{at, parts}
use Rattle.decoding.proofs.Fills.{Brought}
use Rattle.decoding.proofs.decoder.bring.Given as goal

-- the places below b have the columns that tell them, and the others are as they were
abbrev pub invariant-loop-b : goal.invariant-loop-b
invariant-loop-b g l =
    let Y = g.F.Sums.symbols in
    let v = g.F.Sums.value in
    let m = l.cabinet.size.m in
    (length l.file ≡ 3 * m * 2 ^ m)
    × Brought (full Y m) (parts Y v (2 ^ m) l.fn.file) (at Y v l.first) (at Y v l.second) l.missing l.b (parts Y v (2 ^ m) l.file)
