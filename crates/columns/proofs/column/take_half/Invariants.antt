use Rattle.code.specs.Codes.{full, half_for}
use Rattle.code.specs.Contents.{at}
use Rattle.columns.proofs.Slices.{Rowwise}
use Rattle.columns.proofs.column.take_half.Given as goal

abbrev pub invariant-loop-j : goal.invariant-loop-j
invariant-loop-j g l =
    let f = g.F.Sums in
    Rowwise f.symbols f.value (half_for (full f.symbols l.size.m) l.x (at f.symbols f.value l.column)) l.initial.half l.j l.half
