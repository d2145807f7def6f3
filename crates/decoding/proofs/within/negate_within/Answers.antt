use Rattle.std.proofs.Common.{◌*◌, ap, ◌∙◌, arith}
use Rattle.decoding.proofs.Parts.{lent_long, lent_at, lent_replaced}
use Rattle.decoding.proofs.within.negate_within.Goals as goal

pub returns : goal.returns
returns g c =
    let f = g.F.Sums in
    let m = c.args.cabinet.now.size.m in
    let rows = c.rows-rows.ensures.value in
    let whole = c.requires.whole in
    lent_replaced f.symbols f.value _ (3 * m) c.args.x _ rows c.args.file.now whole c.requires.data c.negate.new.column _ c.negate.auto.column
    λ a l. c.negate.ensures a (omega (arith, l, lent_long f.symbols f.value _ (3 * m) c.args.x _ rows c.args.file.now whole c.requires.data)) ∙ ap f.symbols.ring.negative (lent_at f.symbols f.value _ (3 * m) c.args.x _ rows c.args.file.now whole c.requires.data a l)
