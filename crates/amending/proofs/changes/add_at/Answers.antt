use Rattle.std.proofs.Common.{add-one}
use Rattle.amending.proofs.Moves.{moved_told}
use Rattle.amending.proofs.changes.add_at.Goals as goal

pub returns-clause-moved : goal.returns-clause-moved
returns-clause-moved g c =
    let s = g.met.S.Shelf.sound c.args.shelf.now in
    moved_told g.F.Sums.symbols g.F.Sums.value _ _ _ _ _ _ _ s c.requires.there c.requires.row _ (add-one _) _ c.add_to.ensures.sum c.add_to.ensures.after
    (c.shelves_stand.ensures.laws.stored _ s _ _)
