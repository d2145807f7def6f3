use Rattle.std.proofs.Common.{◌-◌, ◌≤◌}
use Rattle.missing.specs.Missing.{AllStand, stands}
use Rattle.missing.proofs.lowest_out.Given as goal

abbrev pub invariant-loop-b : goal.invariant-loop-b
invariant-loop-b l = (l.from ≤ l.b) × (l.b ≤ l.n) × AllStand (stands l.out) l.from l.b

abbrev pub decreases-loop-b : goal.decreases-loop-b
decreases-loop-b l = l.n - l.b
