-- The larger row of a block by one product fewer: of the sum of its two symbols, less the other row. Assumes nothing.
use Rattle.std.proofs.Common.{◌≡◌, true, false, [], ◌∷◌, refl}
use Rattle.field.specs.Ring.{Ring}
use Rattle.field.proofs.Solver.{ring, ◌⊕◌, ◌⊗◌, ◌⊖◌, ◌≐◌}
use Rattle.code.specs.Blocks.{block}
use Rattle.code.specs.declared.Kind.TheVariants.{Lower, Upper}

module _ {A : Type 0} (R : Ring A) where
  pub lower_row : (p q s t : A) → R.plus (R.times q (R.plus s t)) (R.negative (R.times p t)) ≡ block R Lower p q s t false
  lower_row p q s t = ring R (p ∷ q ∷ s ∷ t ∷ []) (λ p q s t. q ⊗ (s ⊕ t) ⊖ p ⊗ t ≐ q ⊗ s ⊕ (q ⊖ p) ⊗ t) refl

  pub upper_row : (p q s t : A) → R.plus (R.times p (R.plus s t)) (R.negative (R.times q s)) ≡ block R Upper p q s t true
  upper_row p q s t = ring R (p ∷ q ∷ s ∷ t ∷ []) (λ p q s t. p ⊗ (s ⊕ t) ⊖ q ⊗ s ≐ (p ⊖ q) ⊗ s ⊕ p ⊗ t) refl
