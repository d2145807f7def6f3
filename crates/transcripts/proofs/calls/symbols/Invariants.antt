use Rattle.std.proofs.Common.{◌≡◌, map, take}
use Rattle.transcripts.proofs.calls.symbols.Given as goal

abbrev pub invariant-loop-number : goal.invariant-loop-number
invariant-loop-number g l = let f = g.F.Sums in map f.symbols.number (map f.value l.symbols.items) ≡ take l.number-index l.numbers
