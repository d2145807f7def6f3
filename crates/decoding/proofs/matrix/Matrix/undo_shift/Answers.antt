use Rattle.std.proofs.Common.{sym, ◌∙◌, refl}
use Rattle.decoding.proofs.matrix.Matrix.undo_shift.Goals as goal

pub returns : goal.returns
returns g c = (
  g.F.Sums.value c.in_ok-e.e,
  rw (sym c.determinant.ensures) (g.F.Sums.symbols.ring.times_comm _ _ ∙ c.in_ok-e.ensures),
  λ i j. simp (c.scaled_difference.ensures, c.multiple-all.ensures, c.into.ensures, c.minus.ensures, c.sum.ensures) refl,
)
