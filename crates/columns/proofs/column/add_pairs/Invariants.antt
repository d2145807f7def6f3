use Rattle.std.proofs.Common.{◌*◌}
use Rattle.code.specs.Codes.{full, image}
use Rattle.code.specs.Contents.{added, at}
use Rattle.columns.proofs.Slices.{Rowwise}
use Rattle.columns.proofs.column.add_pairs.Given as goal

abbrev pub invariant-loop-r : goal.invariant-loop-r
invariant-loop-r g l =
    let f = g.F.Sums in
    Rowwise f.symbols f.value (added f.symbols (at f.symbols f.value l.initial.sum) (image (full f.symbols l.cabinet.size.m) l.b (at f.symbols f.value l.column))) l.initial.sum (l.r * l.run) l.sum
