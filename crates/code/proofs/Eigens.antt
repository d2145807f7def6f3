-- The eigenvalues of the blocks. Assumes nothing.
use Rattle.std.proofs.Common.{◌≡◌, ◌+◌, true, false, [], ◌∷◌, refl, ◌∙◌, ap₂}
use Rattle.field.specs.Ring.{Ring}
use Rattle.field.proofs.Solver.{ring, ◌⊕◌, ◌⊗◌, ◌⊖◌, ◌≐◌}
use Rattle.code.specs.Blocks.{block, functional, kind_number, Eigen}
use Rattle.code.specs.declared.Kind.{Kind}
use Rattle.code.specs.declared.Kind.TheVariants.{Lower, Upper, Sum}

module _ {A : Type 0} (R : Ring A) where
  eigen : (u : Kind) (p q s t : A) → Eigen R u p q s t (block R u p q s t false) (block R u p q s t true)
  eigen Lower p q s t = record { first = refl; second = ring R (p ∷ q ∷ s ∷ t ∷ []) (λ p q s t. (q ⊗ s ⊕ (q ⊖ p) ⊗ t) ⊕ p ⊗ t ≐ q ⊗ (s ⊕ t)) refl }
  eigen Upper p q s t = record { first = ring R (p ∷ q ∷ s ∷ t ∷ []) (λ p q s t. q ⊗ s ⊕ ((p ⊖ q) ⊗ s ⊕ p ⊗ t) ≐ p ⊗ (s ⊕ t)) refl; second = refl }
  eigen Sum p q s t = record { first = refl; second = refl }

  pub eigen_of : (u : Kind) (p q s t v w : A) → v ≡ block R u p q s t false → w ≡ block R u p q s t true → Eigen R u p q s t v w
  eigen_of u p q s t v w lower upper = record {
    first = ap₂ (functional R (kind_number u + 1)) lower upper ∙ (eigen u p q s t).first;
    second = ap₂ (functional R (kind_number u + 2)) lower upper ∙ (eigen u p q s t).second;
  }
