use Rattle.std.proofs.Common.{◌∙◌}
use Rattle.code.specs.Contents.{at}
use Rattle.columns.proofs.Names.{given_by}
use Rattle.columns.proofs.recovery.restore.Goals as goal

pub returns-clause-column : goal.returns-clause-column
returns-clause-column g c =
    let Y = g.F.Sums.symbols in
    let v = g.F.Sums.value in
    let made = c.new-halves.ensures in
    given_by Y v (at Y v c.write_column.new.column) _ _ _ _ _ _ (made.size ∙ c.in_ok-cabinet.ensures.size) made.place made.numbers c.write_column.ensures
