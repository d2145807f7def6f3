use Rattle.filing.proofs.Restores.{box_put_in}
use Rattle.filing.proofs.restoring.put_in_box.Goals as goal

pub returns-clause-after : goal.returns-clause-after
returns-clause-after g c =
    let f = g.F.Sums in
    box_put_in f.symbols f.value c.args.b (g.S.Shelf.meaning c.args.shelf.now) _ c.zero.result c.shelves_stand.ensures.laws c.requires c.zero.ensures c.insert.ensures.after
