use Rattle.ledger.proofs.Lengths.{same_reasons}
use Rattle.ledger.proofs.Runs.{stands}
use Rattle.ledger.proofs.ledger_stands.Goals as goal

pub returns-clause-laws : goal.returns-clause-laws
returns-clause-laws g c = stands g.F.Sums.symbols

pub returns-clause-lengths : goal.returns-clause-lengths
returns-clause-lengths g c = same_reasons g.F.Sums.value g.F.Sums.symbols
