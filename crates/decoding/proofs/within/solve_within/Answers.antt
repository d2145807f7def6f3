use Rattle.std.proofs.Common.{◌*◌, sym, ap₂, ◌∙◌}
use Rattle.code.specs.Blocks.{◌∸◌}
use Rattle.code.specs.Codes.{full}
use Rattle.code.proofs.Images.{image_same}
use Rattle.code.proofs.Theory.{shift_below}
use Rattle.decoding.proofs.Parts.{lent_at, lent_here, lent_kept}
use Rattle.decoding.proofs.within.solve_within.Goals as goal

pub returns-clause-others : goal.returns-clause-others
returns-clause-others g c =
    let f = g.F.Sums in
    lent_kept f.symbols f.value _ (3 * c.args.cabinet.now.size.m) c.args.x _ c.rows-rows.ensures.value c.args.file.now c.requires.whole c.requires.first c.solve_difference.new.column c.solve_difference.auto.column

pub returns-clause-difference : goal.returns-clause-difference
returns-clause-difference g c =
    let f = g.F.Sums in
    let size = c.args.cabinet.now.size in
    let code = full f.symbols size.m in
    let x = c.args.x in
    let y = c.args.y in
    let rows = c.rows-rows.ensures.value in
    let r = c.requires in
    let here = lent_here f.symbols f.value _ (3 * size.m) x _ rows c.args.file.now r.whole r.first c.solve_difference.new.column c.solve_difference.auto.column in
    λ a l.
    sym (lent_at f.symbols f.value _ (3 * size.m) x _ rows c.args.file.now r.whole r.first a l) ∙ c.solve_difference.ensures a l
    ∙ sym (ap₂ (◌∸◌ f.symbols.ring) (image_same code x _ _ (shift_below code x size.some) here a l) (image_same code y _ _ (shift_below code y size.some) here a l))
