use Rattle.columns.proofs.Slices.{Rowwise}
use Rattle.columns.proofs.column.clear.Given as goal

abbrev pub invariant-loop-symbol : goal.invariant-loop-symbol
invariant-loop-symbol g l = let f = g.F.Sums in Rowwise f.symbols f.value (λ a. f.symbols.ring.zero) l.initial.column l.symbol-index l.column
