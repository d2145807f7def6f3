-- What blocks are undone by is there: the marks are not zero, and they differ. Assumes nothing.
use Rattle.std.proofs.Common.{◌≡◌, ℕ, ◌-◌, ◌*◌, ◌≤◌, ◌≢◌, [], ◌∷◌, sym, refl, ap, ◌∙◌, arith}
use Rattle.field.specs.Ring.{Ring, Divides}
use Rattle.field.proofs.Solver.{o, i, ◌⊗◌, ⊝◌, ◌≐◌, ◌⟸◌, ◌·◌, ring_by}
use Rattle.code.specs.Blocks.{◌∸◌}
use Rattle.code.specs.Codes.{Code, Proper, direction, shift, eigen_p, eigen_q}
use Rattle.code.proofs.Theory.{same_if}
use Rattle.code.proofs.Stands.{marks_apart}
use Rattle.decoding.specs.Matrices.{determinant}

module _ {A : Type 0} (c : Code A) (ok : Proper c) (divides : Divides c.ring) where
  abbrev R : Ring A
  R = c.ring

  -- no block has a determinant of zero, less a number that is none of its eigenvalues
  regular : (x : ℕ) (p q z w : A) → p ≡ eigen_p c x → q ≡ eigen_q c x → z ≡ w → eigen_p c x ≢ w → eigen_q c x ≢ w → determinant R p q z ≡ R.zero → ⊥
  regular x p q z w ep eq ez h k e =
      let r = divides (◌∸◌ R p z) (λ n. h (same_if c ok _ _ (sym (λ i. ◌∸◌ R (ep i) (ez i)) ∙ n))) in
      k (same_if c ok _ _ (sym (λ i. ◌∸◌ R (eq i) (ez i))
      ∙ ring_by R (◌∸◌ R p z ∷ ◌∸◌ R q z ∷ r.0 ∷ []) (λ s t b. t ≐ o ⟸ (b · s ⊗ t ≐ o) ∷ (⊝ t · s ⊗ b ≐ i) ∷ []) refl e r.1))

  pub regular_alone : (x : ℕ) (p q z : A) → p ≡ eigen_p c x → q ≡ eigen_q c x → z ≡ R.zero → determinant R p q z ≡ R.zero → ⊥
  regular_alone x p q z ep eq ez =
      let some : 1 ≤ c.size = ok.some in
      regular x p q z R.zero ep eq ez (ok.mark_not_zero (2 * direction c x - 1) (omega arith) (omega arith)) (ok.mark_not_zero (2 * direction c x) (omega arith) (omega arith))

  -- nor has it less an eigenvalue of another direction
  module _ (x y : ℕ) (n : shift c x ≢ shift c y) (p q z : A) (ep : p ≡ eigen_p c x) (eq : q ≡ eigen_q c x) where
    other : direction c x ≢ direction c y
    other e = n (ap (λ d. c.size - d) e)

    pub regular_first : z ≡ eigen_p c y → determinant R p q z ≡ R.zero → ⊥
    regular_first ez = regular x p q z (eigen_p c y) ep eq ez (marks_apart c ok x y other _ _ (omega arith) (omega arith)) (marks_apart c ok x y other _ _ (omega arith) (omega arith))

    pub regular_second : z ≡ eigen_q c y → determinant R p q z ≡ R.zero → ⊥
    regular_second ez = regular x p q z (eigen_q c y) ep eq ez (marks_apart c ok x y other _ _ (omega arith) (omega arith)) (marks_apart c ok x y other _ _ (omega arith) (omega arith))
