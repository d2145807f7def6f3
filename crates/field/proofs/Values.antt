-- From the numbers that a program computes to the symbols that they stand for. Assumes nothing.
use Rattle.std.proofs.Common.{◌≡◌, ℕ, ◌<◌, sym, ◌∙◌, inl, inr, eq-zero-or-pos}
use Rattle.std.proofs.Math.Nat.{zero-mod}
use Rattle.field.specs.Below.{Below, same_below}
use Rattle.field.specs.Numbers.{residue}
use Rattle.field.specs.Ring.{Ring, Divides}

module _ (p : ℕ) (big : 1 < p) where
  -- every symbol but zero has an inverse, if each with a number above 0 has one
  pub divides : (R : Ring (Below p)) → R.zero ≡ residue p big 0 → ((x : Below p) → 0 < x.0 → (y : Below p) × (R.times x y ≡ R.one)) → Divides R
  divides R none inverse x other =
      elim (eq-zero-or-pos x.0) [
        | inl e ↦ absurd (other (same_below x (residue p big 0) (e ∙ sym (zero-mod p)) ∙ sym none))
        | inr l ↦ inverse x l
      ]
