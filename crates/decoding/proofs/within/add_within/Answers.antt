use Rattle.std.proofs.Common.{◌≡◌, ◌+◌, ◌-◌, ◌*◌, sym, ap, ◌∙◌, arith, mul-le-mul_right}
use Rattle.decoding.proofs.Parts.{split_before, split_after, split_added}
use Rattle.decoding.proofs.within.add_within.Goals as goal

pub part-requires-else-b-x : goal.part-requires-else-b-x
part-requires-else-b-x g c =
    let rows = c.rows-rows.result in
    let m = c.args.cabinet.now.size.m in
    let between : c.args.x + 1 + (c.args.b - c.args.x - 1) ≡ c.args.b = omega (arith, c.if-b-x.false, c.requires.two) in
    let whole = c.requires.whole ∙ ap (λ r. 3 * m * r) (sym c.rows-rows.ensures.value) in
    omega (arith, ap (λ k. k * rows) between, mul-le-mul_right rows c.requires.other, whole, c.split_at_mut-before.ensures.back_len, c.split_at_mut-column.ensures.back_len)

pub returns-then-b-x : goal.returns-then-b-x
returns-then-b-x g c =
    let Y = g.F.Sums.symbols in
    let v = g.F.Sums.value in
    let size = c.args.cabinet.now.size in
    let rows = c.rows-rows.ensures.value in
    let file = c.args.file.now in
    let cut = c.split_at_mut-before.ensures in
    let again = c.split_at_mut-column.ensures in
    let r = c.requires in
    let part = c.part.ensures in
    split_added Y v size.m c.args.x _ rows file r.whole r.data _ _ _ _ cut.front cut.back again.front again.back size.some c.args.which c.args.b _ _ (c.add_share.auto.sum ∙ again.front_len ∙ rows)
    (λ a l. part.column a (omega (arith, rows)) ∙ split_before Y v size.m c.args.x _ rows file r.whole r.data _ _ _ _ cut.front cut.back again.front again.back c.args.b c.if-b-x.true a l)
    c.add_share.ensures

pub returns-else-b-x : goal.returns-else-b-x
returns-else-b-x g c =
    let Y = g.F.Sums.symbols in
    let v = g.F.Sums.value in
    let size = c.args.cabinet.now.size in
    let rows = c.rows-rows.ensures.value in
    let file = c.args.file.now in
    let cut = c.split_at_mut-before.ensures in
    let again = c.split_at_mut-column.ensures in
    let r = c.requires in
    let part = c.part-else-b-x.ensures in
    split_added Y v size.m c.args.x _ rows file r.whole r.data _ _ _ _ cut.front cut.back again.front again.back size.some c.args.which c.args.b _ _ (c.add_share-else-b-x.auto.sum ∙ again.front_len ∙ rows)
    (λ a l. part.column a (omega (arith, rows)) ∙ split_after Y v size.m c.args.x _ rows file r.whole r.data _ _ _ _ cut.front cut.back again.front again.back c.args.b (omega (arith, c.if-b-x.false, r.two)) a l)
    c.add_share-else-b-x.ensures
