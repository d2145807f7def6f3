use Rattle.std.proofs.Common.{sym, ◌∙◌, refl}
use Rattle.decoding.proofs.matrix.Matrix.undo_difference.Goals as goal

pub returns : goal.returns
returns g c = (
  g.F.Sums.value c.in_ok-d.d,
  rw (sym c.gap.ensures) (g.F.Sums.symbols.ring.times_comm _ _ ∙ c.in_ok-d.ensures),
  λ i j. simp (c.scaled_difference.ensures, c.product.ensures, c.from.ensures, c.into.ensures) refl,
)
