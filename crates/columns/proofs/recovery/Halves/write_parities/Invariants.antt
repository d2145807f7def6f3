use Rattle.std.proofs.Common.{◌≡◌, suc, ◌-◌, ◌*◌, ◌^◌}
use Rattle.code.specs.Codes.{full, shift}
use Rattle.code.specs.Contents.{parts}
use Rattle.code.specs.Recovery.{seat}
use Rattle.columns.specs.Sides.{sides}
use Rattle.columns.proofs.Slices.{Pairwise}
use Rattle.columns.proofs.recovery.Halves.write_parities.Given as goal

abbrev pub invariant-loop-j : goal.invariant-loop-j
invariant-loop-j g l =
    let f = g.F.Sums in
    let m = l.self.cabinet.size.m in
    let x = l.self.lost in
    let k = shift (full f.symbols m) x in
    let halves = parts f.symbols f.value (2 ^ (m - 1)) l.self.numbers.now in
    let pairs = l.j-iterator.iter in
    (pairs.digit.now.digits ≡ m) × (pairs.digit.now.place ≡ k) × (l.j-iterator.count ≡ pairs.next)
    × Pairwise f.symbols f.value k (sides k (halves (seat x (3 * m))) (halves (seat x (suc (3 * m))))) l.initial.column pairs.next l.column
