use Rattle.std.proofs.Common.{◌-◌, ◌^◌}
use Rattle.code.specs.Codes.{full, shift}
use Rattle.code.specs.Contents.{at, parts}
use Rattle.code.specs.Rows.{odd, digit, pair_of}
use Rattle.columns.proofs.Sides.{box_off, box_left}
use Rattle.columns.proofs.recovery.Halves.subtract_boxes.Goals as goal

pub loop-b-preserved-then-b-self : goal.loop-b-preserved-then-b-self
loop-b-preserved-then-b-self g c =
    let Y = g.F.Sums.symbols in
    let v = g.F.Sums.value in
    let m = c.args.self.now.cabinet.size.m in
    let x = c.args.self.now.lost in
    let k = shift (full Y m) x in
    λ a l. box_left (full Y m) x (parts Y v (2 ^ (m - 1)) c.args.self.now.numbers.now) c.loop-b.b (pair_of k a) (at Y v c.loop-b.column a) (at Y v c.args.column.now a) c.if-b-self.true (odd (digit k a)) (c.loop-b.invariant a l)

pub loop-b-preserved : goal.loop-b-preserved
loop-b-preserved g c =
    let Y = g.F.Sums.symbols in
    let v = g.F.Sums.value in
    let m = c.args.self.now.cabinet.size.m in
    let x = c.args.self.now.lost in
    let k = shift (full Y m) x in
    λ a l. box_off (full Y m) x (parts Y v (2 ^ (m - 1)) c.args.self.now.numbers.now) c.loop-b.b (pair_of k a) (at Y v c.loop-b.column a) (at Y v c.args.column.now a) _ c.if-b-self.false (odd (digit k a)) (c.subtract_box.ensures a l) (c.loop-b.invariant a l)
