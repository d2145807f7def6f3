use Rattle.std.proofs.Common.{refl, arith}
use Rattle.columns.proofs.Slices.{part}
use Rattle.decoding.proofs.within.part.Goals as goal

pub returns-clause-column : goal.returns-clause-column
returns-clause-column g c = part g.F.Sums.symbols g.F.Sums.value c.args.columns.now c.args.rows c.args.b _ _ refl (omega arith)
