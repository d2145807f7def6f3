use Rattle.vault_laws.proofs.Determined.{one_outcome}
use Rattle.vault_laws.proofs.Law.{law}
use Rattle.vault_laws.proofs.vaults_stand.Goals as goal

pub returns : goal.returns
returns g c =
    let Y = g.F.Sums.symbols in
    let value = g.F.Sums.value in
    let cabinets = c.code_stands.ensures.cabinets in
    record { laws = law Y value cabinets; determined = one_outcome Y value cabinets }
