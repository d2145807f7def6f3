use Rattle.std.proofs.Common.{rules, ◌≡◌, suc, ◌+◌, ◌-◌, ◌*◌, ◌^◌, ◌≤◌, length, sym, ap, ap₂, ◌∙◌, arith, mul-le-mul_right}
use Rattle.code.specs.Recovery.{seat}
use Rattle.columns.proofs.Slices.{part}
use Rattle.columns.proofs.recovery.Halves.half.Goals as goal

pub slice_bounds-result-end : goal.slice_bounds-result-end
slice_bounds-result-end g c =
    let halves = c.args.self.now in
    let pairs = c.pairs-pairs.result in
    let below : suc c.seat.result ≤ 3 * halves.cabinet.size.m + 1 = grind arith in
    let inside : suc c.seat.result * pairs ≤ (3 * halves.cabinet.size.m + 1) * pairs = mul-le-mul_right pairs below in
    let long : length halves.numbers.now ≡ (3 * halves.cabinet.size.m + 1) * pairs = halves.whole ∙ ap (λ n. (3 * halves.cabinet.size.m + 1) * n) (sym c.pairs-pairs.ensures.value) in
    let fits : c.seat.result * pairs + pairs ≤ length halves.numbers.now = omega (arith, inside, long) in
    search rules

pub returns-clause-numbers : goal.returns-clause-numbers
returns-clause-numbers g c =
    let halves = c.args.self.now in
    let pairs = c.pairs-pairs.result in
    let start = c.seat.result * pairs in
    part g.F.Sums.symbols g.F.Sums.value halves.numbers.now (2 ^ (halves.cabinet.size.m - 1)) (seat halves.lost c.args.b) start (start + pairs - start) (ap₂ ◌*◌ c.seat.ensures c.pairs-pairs.ensures.value) (omega (arith, c.pairs-pairs.ensures.value))
