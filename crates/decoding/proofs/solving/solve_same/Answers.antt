use Rattle.std.proofs.Common.{sym, ◌∙◌, ap₂, arith}
use Rattle.code.specs.Blocks.{◌∸◌}
use Rattle.code.specs.Codes.{full}
use Rattle.code.specs.Contents.{at}
use Rattle.code.proofs.Theory.{apart, gap, proper}
use Rattle.decoding.proofs.Solutions.{difference_named, turned_named, same_solved}
use Rattle.decoding.proofs.solving.solve_same.Goals as goal

pub unreachable-requires : goal.unreachable-requires
unreachable-requires g c =
    let Y = g.F.Sums.symbols in
    let cabinet = c.args.cabinet.now in
    let block = c.block.ensures in
    gap (full Y cabinet.size.m) (proper Y cabinet.size.m cabinet.size.some cabinet.marks) c.args.x (ap₂ (◌∸◌ Y.ring) (sym block.second) (sym block.first) ∙ c.in_default.ensures)

pub returns : goal.returns
returns g c =
    let Y = g.F.Sums.symbols in
    let cabinet = c.args.cabinet.now in
    let size = cabinet.size in
    let code = full Y size.m in
    let digit = c.digit-digit.ensures in
    let block = c.block.ensures in
    let r = c.requires in
    let some = size.some in
    same_solved code some c.args.x _ _ c.args.y (omega (arith, r.same)) (apart code (proper Y size.m some cabinet.marks) c.args.x c.args.y r.first r.second r.two r.same) _
    (difference_named Y.ring _ block.is_kind c.block-kind.ensures.is_kind block.first block.second c.in-Some.ensures)
    (turned_named code some _ _ (at Y g.F.Sums.value c.args.column.now) _ digit.digits digit.place digit.place c.turn.ensures)
