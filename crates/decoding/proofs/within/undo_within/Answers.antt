use Rattle.std.proofs.Common.{◌*◌, sym, ◌∙◌}
use Rattle.code.specs.Codes.{full}
use Rattle.code.proofs.Images.{image_same}
use Rattle.code.proofs.Theory.{shift_below}
use Rattle.decoding.proofs.Parts.{lent_at, lent_here, lent_kept}
use Rattle.decoding.proofs.within.undo_within.Goals as goal

pub returns-clause-others : goal.returns-clause-others
returns-clause-others g c =
    let f = g.F.Sums in
    lent_kept f.symbols f.value _ (3 * c.args.cabinet.now.size.m) c.args.x _ c.rows-rows.ensures.value c.args.file.now c.requires.whole c.requires.data c.undo_blocks.new.column c.undo_blocks.auto.column

pub returns-clause-blocks : goal.returns-clause-blocks
returns-clause-blocks g c =
    let f = g.F.Sums in
    let size = c.args.cabinet.now.size in
    let code = full f.symbols size.m in
    let x = c.args.x in
    let rows = c.rows-rows.ensures.value in
    let r = c.requires in
    let here = lent_here f.symbols f.value _ (3 * size.m) x _ rows c.args.file.now r.whole r.data c.undo_blocks.new.column c.undo_blocks.auto.column in
    λ a l.
    sym (lent_at f.symbols f.value _ (3 * size.m) x _ rows c.args.file.now r.whole r.data a l) ∙ c.undo_blocks.ensures a l ∙ sym (image_same code x _ _ (shift_below code x size.some) here a l)
