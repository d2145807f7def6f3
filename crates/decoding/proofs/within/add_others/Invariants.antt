use Rattle.std.proofs.Common.{◌^◌}
use Rattle.code.specs.Codes.{full}
use Rattle.code.specs.Contents.{parts}
use Rattle.decoding.proofs.Filled.{Upto}
use Rattle.decoding.proofs.within.add_others.Given as goal

abbrev pub invariant-loop-b : goal.invariant-loop-b
invariant-loop-b g l =
    let f = g.F.Sums in
    let size = l.cabinet.size in
    Upto (full f.symbols size.m) size.some l.which l.x l.y l.into (parts f.symbols f.value (2 ^ size.m) l.initial.file) l.b (parts f.symbols f.value (2 ^ size.m) l.file)
