use Rattle.std.proofs.Common.{ℕ, ◌+◌, Bool, true, false}
use Rattle.code.specs.Blocks.{block as blocked}
use Rattle.code.specs.Contents.{at}
use Rattle.columns.proofs.Runs.{Halves}
use Rattle.columns.proofs.column.add_side_by_side.Given as goal

abbrev pub invariant-loop-i : goal.invariant-loop-i
invariant-loop-i g l =
    let f = g.F.Sums in
    let old = at f.symbols f.value l.initial.sum in
    let C = at f.symbols f.value l.column in
    let row : ℕ → Bool → f.symbols.Symbol = λ i. blocked f.symbols.ring l.block.kind (f.value l.block.p) (f.value l.block.q) (C i) (C (i + l.weight)) in
    Halves f.symbols f.value l.weight (λ i. f.symbols.ring.plus (old i) (row i false)) (λ i. f.symbols.ring.plus (old (i + l.weight)) (row i true)) l.initial.sum l.i l.sum
