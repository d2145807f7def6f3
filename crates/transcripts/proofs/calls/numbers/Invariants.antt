use Rattle.std.proofs.Common.{◌≡◌, map, take}
use Rattle.transcripts.proofs.calls.numbers.Given as goal

abbrev pub invariant-loop-symbol : goal.invariant-loop-symbol
invariant-loop-symbol g l = let f = g.F.Sums in l.numbers.items ≡ map f.symbols.number (map f.value (take l.symbol-index l.symbols))
