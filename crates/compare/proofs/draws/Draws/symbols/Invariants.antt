use Rattle.std.proofs.Common.{◌≡◌, vec_len}
use Rattle.compare.proofs.draws.Draws.symbols.Given as goal

abbrev pub invariant-loop : goal.invariant-loop
invariant-loop g l = vec_len l.symbols ≡ l.counter
