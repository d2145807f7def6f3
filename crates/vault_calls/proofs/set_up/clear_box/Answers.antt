use Rattle.vault_calls.proofs.Clearing.{box_cleared}
use Rattle.vault_calls.proofs.set_up.clear_box.Goals as goal

pub returns-clause-after : goal.returns-clause-after
returns-clause-after g c =
    let f = g.F.Sums in
    box_cleared f.symbols f.value c.shelves_stand.ensures.laws c.args.b (g.S.Shelf.meaning c.args.shelf.now) _ _ c.zero.result c.zero.ensures c.withdraw.ensures.after c.insert.ensures.after
