use Rattle.code.specs.Contents.{at}
use Rattle.columns.proofs.Slices.{Rowwise}
use Rattle.columns.proofs.column.add_rows.Given as goal

abbrev pub invariant-loop-a : goal.invariant-loop-a
invariant-loop-a g l =
    let f = g.F.Sums in
    Rowwise f.symbols f.value (λ a. f.symbols.ring.plus (at f.symbols f.value l.initial.sum a) (at f.symbols f.value l.column a)) l.initial.sum l.a l.sum
