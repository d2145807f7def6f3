use Rattle.std.proofs.Common.{◌*◌, ◌^◌, ◌<◌, sym, ap, ◌∙◌, arith}
use Rattle.code.specs.Contents.{parts}
use Rattle.code.proofs.Columns.{column_data}
use Rattle.code.specs.Codes.{full}
use Rattle.decoding.proofs.Parts.{lent_at, lent_long}
use Rattle.filing.proofs.Rewrites.{box_written}
use Rattle.filing.proofs.writing.write_box.Goals as goal

pub returns-then-b-boxes-clause-after : goal.returns-then-b-boxes-clause-after
returns-then-b-boxes-clause-after g c =
    let Y = g.F.Sums.symbols in
    let v = g.F.Sums.value in
    let m = c.args.stripe.now.cabinet.size.m in
    let b = c.args.b in
    let file = c.args.file.now in
    let inside : b < 3 * m = omega (arith, c.if-b-boxes.true) in
    box_written Y v m _ (parts Y v (2 ^ m) file) b _ _ _ _ c.stands.ensures.stays (g.met.S.Shelf.sound c.args.shelf.now) c.requires.there (sym c.stands.ensures.answer ∙ c.if-not-stands.false)
    (lent_long Y v (2 ^ m) (3 * m) b _ c.rows-rows.ensures.value file c.requires.whole inside)
    (λ a l. lent_at Y v (2 ^ m) (3 * m) b _ c.rows-rows.ensures.value file c.requires.whole inside a l ∙ ap (λ C. C a) (sym (column_data (full Y m) (parts Y v (2 ^ m) file) b inside)))
    c.write_rows.ensures.after

pub returns-else-b-boxes-clause-after : goal.returns-else-b-boxes-clause-after
returns-else-b-boxes-clause-after g c =
    let m = c.args.stripe.now.cabinet.size.m in
    let b = c.args.b in
    box_written g.F.Sums.symbols g.F.Sums.value m _ (parts g.F.Sums.symbols g.F.Sums.value (2 ^ m) c.args.file.now) b _ _ _ _ c.stands.ensures.stays (g.met.S.Shelf.sound c.args.shelf.now) c.requires.there (sym c.stands.ensures.answer ∙ c.if-not-stands.false)
    (omega arith) c.parity_at.ensures c.write_rows-else-b-boxes.ensures.after
