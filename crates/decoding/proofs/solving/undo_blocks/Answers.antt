use Rattle.code.specs.Codes.{full}
use Rattle.code.specs.Contents.{at}
use Rattle.code.proofs.Theory.{proper}
use Rattle.decoding.proofs.Gaps.{regular_alone}
use Rattle.decoding.proofs.Solutions.{shift_named, turned_named, blocks_undone}
use Rattle.decoding.proofs.solving.undo_blocks.Goals as goal

pub unreachable-requires : goal.unreachable-requires
unreachable-requires g c =
    let Y = g.F.Sums.symbols in
    let cabinet = c.args.cabinet.now in
    let block = c.block.ensures in
    regular_alone (full Y cabinet.size.m) (proper Y cabinet.size.m cabinet.size.some cabinet.marks) c.divides.ensures c.args.x _ _ _ block.first block.second c.zero.ensures c.in_default.ensures

pub returns : goal.returns
returns g c =
    let Y = g.F.Sums.symbols in
    let size = c.args.cabinet.now.size in
    let code = full Y size.m in
    let digit = c.digit-digit.ensures in
    let block = c.block.ensures in
    blocks_undone code size.some c.args.x _ _ _ (shift_named Y.ring _ block.is_kind block.first block.second c.zero.ensures c.in-Some.ensures)
    (turned_named code size.some _ _ (at Y g.F.Sums.value c.args.column.now) _ digit.digits digit.place digit.place c.turn.ensures)
