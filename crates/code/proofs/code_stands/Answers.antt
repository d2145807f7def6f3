use Rattle.code.proofs.Stands.{laws}
use Rattle.code.proofs.Theory.{proper}
use Rattle.code.proofs.code_stands.Goals as goal

pub returns : goal.returns
returns g c =
    let Y = g.F.Sums.symbols in
    let divides = c.divides.ensures in
    record {
      laws = λ m kinds mark ok. laws (record { ring = Y.ring; size = m; kinds = kinds; mark = mark }) ok divides;
      cabinets = λ m h k. laws _ (proper Y m h k) divides;
    }
