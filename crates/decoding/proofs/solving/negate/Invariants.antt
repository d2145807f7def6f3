use Rattle.code.specs.Contents.{at}
use Rattle.columns.proofs.Slices.{Rowwise}
use Rattle.decoding.proofs.solving.negate.Given as goal

abbrev pub invariant-loop-symbol : goal.invariant-loop-symbol
invariant-loop-symbol g l =
    let f = g.F.Sums in Rowwise f.symbols f.value (λ a. f.symbols.ring.negative (at f.symbols f.value l.initial.column a)) l.initial.column l.symbol-index l.column
