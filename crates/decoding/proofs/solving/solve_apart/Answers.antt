use Rattle.std.proofs.Common.{ap, ◌∙◌}
use Rattle.code.specs.Codes.{full}
use Rattle.code.specs.Contents.{at}
use Rattle.code.specs.Decoding.{to_eigen, from_eigen}
use Rattle.code.proofs.Theory.{proper}
use Rattle.decoding.proofs.Gaps.{regular_first, regular_second}
use Rattle.decoding.proofs.Solutions.{shift_named, turned_named, apart_solved}
use Rattle.decoding.proofs.solving.solve_apart.Goals as goal

pub unreachable-requires : goal.unreachable-requires
unreachable-requires g c =
    let Y = g.F.Sums.symbols in
    let cabinet = c.args.cabinet.now in
    let block = c.block-block.ensures in
    regular_first (full Y cabinet.size.m) (proper Y cabinet.size.m cabinet.size.some cabinet.marks) c.divides.ensures c.args.x c.args.y c.requires.apart _ _ _ block.first block.second c.block-other.ensures.first c.in_default.ensures

pub unreachable-requires-in_default-undo_shift : goal.unreachable-requires-in_default-undo_shift
unreachable-requires-in_default-undo_shift g c =
    let Y = g.F.Sums.symbols in
    let cabinet = c.args.cabinet.now in
    let block = c.block-block.ensures in
    regular_second (full Y cabinet.size.m) (proper Y cabinet.size.m cabinet.size.some cabinet.marks) c.divides.ensures c.args.x c.args.y c.requires.apart _ _ _ block.first block.second c.block-other.ensures.second c.in_default-undo_shift.ensures

pub returns : goal.returns
returns g c =
    let Y = g.F.Sums.symbols in
    let v = g.F.Sums.value in
    let size = c.args.cabinet.now.size in
    let code = full Y size.m in
    let along = c.digit-along.ensures in
    let by = c.digit-by.ensures in
    let block = c.block-block.ensures in
    let other = c.block-other.ensures in
    apart_solved code size.some c.args.x _ _ c.args.y _ _ _ _ _ _ c.requires.apart
    (λ i j. c.into_eigen-into.ensures i j ∙ ap (λ u. to_eigen Y.ring u i j) other.is_kind)
    (shift_named Y.ring _ block.is_kind block.first block.second other.first c.in-Some.ensures)
    (shift_named Y.ring _ block.is_kind block.first block.second other.second c.in-Some-undo_shift.ensures)
    (λ i j. c.out_of_eigen-out.ensures i j ∙ ap (λ u. from_eigen Y.ring u i j) other.is_kind)
    (turned_named code size.some _ _ (at Y v c.args.column.now) _ by.digits by.place by.place c.turn.ensures)
    (turned_named code size.some _ _ (at Y v c.turn.new.column) _ along.digits along.place by.place c.turn-2.ensures)
    (turned_named code size.some _ _ (at Y v c.turn-2.new.column) _ by.digits by.place by.place c.turn-3.ensures)
