use Rattle.std.proofs.Common.{◌≡◌, ℕ, ◌^◌, ◌<◌}
use Rattle.code.specs.Codes.{full, sum}
use Rattle.code.specs.Contents.{at, parts}
use Rattle.columns.specs.Parities.{share}
use Rattle.columns.proofs.Slices.{Left}
use Rattle.columns.proofs.parity.Parity.write.Given as goal

-- the sums over the boxes whose columns came, and the columns that are still to come
abbrev pub invariant-loop-b : goal.invariant-loop-b
invariant-loop-b g l =
    let f = g.F.Sums in
    let m = l.cabinet.size.m in
    let code = full f.symbols m in
    let came = l.b-iterator.count in
    (l.b-iterator.iter.size ≡ 2 ^ m) × Left f.symbols f.value (2 ^ m) came l.file l.b-iterator.iter.rest.now
    × ((a : ℕ) → a < 2 ^ m → at f.symbols f.value l.into a ≡ sum f.symbols.ring came (λ b. share l.self code b (parts f.symbols f.value (2 ^ m) l.file b) a))
