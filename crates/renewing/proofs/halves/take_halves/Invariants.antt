use Rattle.std.proofs.Common.{◌≡◌, ◌-◌, ◌*◌, ◌^◌}
use Rattle.renewing.proofs.Numbers.{Taken}
use Rattle.renewing.proofs.halves.take_halves.Given as goal

abbrev pub invariant-loop-h : goal.invariant-loop-h
invariant-loop-h g l =
    let f = g.F.Sums in
    let s = g.S.Shelf in
    let m = l.stripe.cabinet.size.m in
    (s.meaning l.shelf ≡ s.meaning l.initial.shelf) × (s.buffers l.shelf ≡ s.buffers l.initial.shelf)
    × (l.taken ≡ l.h * 2 ^ (m - 1))
    × Taken f.symbols f.value m l.stripe.from (l.lost - 1) (s.meaning l.initial.shelf) l.h l.halves
