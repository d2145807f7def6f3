use Rattle.std.proofs.Common.{arith}
use Rattle.boxes.proofs.Weights.{rows_of_pair}
use Rattle.boxes.proofs.rows.Digit.pair.Goals as goal

pub returns : goal.returns
returns c =
    let digit = c.args.self.now in
    let weight = c.weight-weight.ensures in
    rows_of_pair digit.digits digit.place c.args.j _ digit.most digit.inside (omega arith) weight.value weight.positive
