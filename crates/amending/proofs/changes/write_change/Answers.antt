use Rattle.amending.proofs.Singles.{change_written}
use Rattle.amending.proofs.changes.write_change.Goals as goal

pub returns-clause-moved : goal.returns-clause-moved
returns-clause-moved g c =
    change_written g.F.Sums.symbols _ _ _ _ g.F.Sums.value _ _ _ _ _ _ c.requires.data c.boxes.ensures c.add_at.ensures.moved c.add_at-2.ensures.moved c.add_image.ensures.moved
