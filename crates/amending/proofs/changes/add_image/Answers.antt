use Rattle.std.proofs.Common.{add-one, ap, ◌+◌, ◌∙◌}
use Rattle.amending.proofs.Singles.{image_written}
use Rattle.amending.proofs.changes.add_image.Goals as goal

pub returns-clause-moved : goal.returns-clause-moved
returns-clause-moved g c =
    image_written g.F.Sums.symbols _ _ _ _ g.F.Sums.value _ _ _ _ _ _ c.image_of-own.ensures.own c.image_of-own.ensures.across _ _ _ _ _ _ (ap (λ n. n + 1) c.boxes-second.ensures ∙ add-one _)
    c.other_row-other.ensures.row c.carries-carried.ensures c.kind_at.ensures c.is_upper.ensures c.digit.ensures.place c.add_at.ensures.moved c.add_where.ensures.moved c.add_where.ensures.stays
