use Rattle.std.proofs.Common.{◌≡◌, ◌*◌, ◌%◌, ◌^◌, ◌<◌, ◌≤◌}
use Rattle.field.proofs.modulo.inverse.Given as goal

-- factor takes x to a, and a has been halved once a turn
abbrev pub invariant-loop : goal.invariant-loop
invariant-loop g l = (0 < l.a) × (l.a < g.R.Residue.SIZE) × (l.factor < g.R.Residue.SIZE) × ((l.factor * l.x) % g.R.Residue.SIZE ≡ l.a) × (l.a * 2 ^ l.counter ≤ l.x)
