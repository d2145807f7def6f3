use Rattle.code.proofs.Theory.{renews}
use Rattle.code.proofs.halves_suffice.Goals as goal

pub returns : goal.returns
returns g c = renews g.F.Sums.symbols.ring c.divides.ensures
