use Rattle.stripe_file.proofs.Loads.{file_read}
use Rattle.stripe_file.proofs.file.read_file.Goals as goal

pub returns-clause-file : goal.returns-clause-file
returns-clause-file g c =
    let f = g.F.Sums in
    let of = g.S.Shelf.meaning in
    let stripe = c.args.stripe.now in
    file_read f.symbols f.value stripe.cabinet.size.m stripe.from (of c.args.shelf.now) _ _ c.on_shelf.ensures.stays c.find.ensures.stays c.in_ok-missing.missing _ c.boxes-boxes.ensures c.in_ok-missing.ensures.boxes _ c.load.ensures.file
