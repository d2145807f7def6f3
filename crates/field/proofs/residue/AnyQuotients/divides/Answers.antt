use Rattle.field.proofs.Residues.{inverts}
use Rattle.field.proofs.residue.AnyQuotients.divides.Goals as goal

pub returns : goal.returns
returns g c = inverts g.R.Residue.SIZE g.R.Residue.above_one g.met.R.Residue.prime
