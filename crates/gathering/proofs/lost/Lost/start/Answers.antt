use Rattle.std.proofs.Common.{◌+◌, ◌*◌}
use Rattle.gathering.proofs.Stores.{below}
use Rattle.gathering.proofs.lost.Lost.start.Goals as goal

pub returns-clause-inside : goal.returns-clause-inside
returns-clause-inside g c = rw c.pairs.ensures.value (below _ (3 * c.args.self.now.cabinet.size.m + 1) _ c.seat.ensures.inside)
