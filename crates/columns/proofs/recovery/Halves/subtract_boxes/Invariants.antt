use Rattle.std.proofs.Common.{◌-◌, ◌^◌}
use Rattle.code.specs.Codes.{full, shift}
use Rattle.code.specs.Contents.{Holds, at, parts}
use Rattle.code.specs.Recovery.{taken, taken_image}
use Rattle.columns.specs.Sides.{less, sides}
use Rattle.columns.proofs.recovery.Halves.subtract_boxes.Given as goal

-- the boxes below b are taken off
abbrev pub invariant-loop-b : goal.invariant-loop-b
invariant-loop-b g l =
    let f = g.F.Sums in
    let m = l.self.cabinet.size.m in
    let c = full f.symbols m in
    let x = l.self.lost in
    let halves = parts f.symbols f.value (2 ^ (m - 1)) l.self.numbers.now in
    Holds f.symbols f.value (2 ^ m) l.column (less f.symbols (at f.symbols f.value l.initial.column) (sides (shift c x) (taken c x l.b halves) (taken_image c x l.b halves)))
