use Rattle.std.proofs.Common.{◌*◌, ap}
use Rattle.code.specs.Contents.{at}
use Rattle.decoding.proofs.Parts.{lent_replaced}
use Rattle.decoding.proofs.decoder.place.Goals as goal

pub returns : goal.returns
returns g c =
    let f = g.F.Sums in
    lent_replaced f.symbols f.value _ (3 * c.args.cabinet.now.size.m) c.args.x _ c.rows-rows.ensures.value c.args.file.now c.requires.whole c.requires.data c.copy_from_slice.new.self _ c.copy_from_slice.auto.self
    (λ a l. ap (λ ys. at f.symbols f.value ys a) c.copy_from_slice.ensures.after)
