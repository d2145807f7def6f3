-- Inverse matrices: of a block less a number, of the difference of two blocks of one direction, and of the change to eigenvectors. Assumes nothing.
use Rattle.std.proofs.Common.{◌≡◌, Bool, true, false, if◌then◌else◌, ◌≢◌, [], ◌∷◌, refl, ◌∙◌, ap₂}
use Rattle.field.specs.Ring.{Ring}
use Rattle.code.specs.Decoding.{unit, block_matrix, to_eigen, from_eigen, undo_shift, undo_difference}
use Rattle.code.specs.declared.Kind.{Kind}
use Rattle.code.specs.declared.Kind.TheVariants.{Lower, Upper, Sum}
use Rattle.field.proofs.Solver.{o, i, ◌⊕◌, ◌⊗◌, ◌⊖◌, ⊝◌, ◌≐◌, ◌⟸◌, ◌·◌, ring, ring_by}
use Rattle.code.proofs.Operators.{Mat, mix, times}
use Rattle.code.proofs.Matrices.{mat, block_is}

module _ {A : Type 0} (R : Ring A) where
  infixl 60 ◌+◌
  infixl 60 ◌∸◌
  infixl 70 ◌*◌
  open R use {zero as nil, one, plus as ◌+◌, times as ◌*◌, negative as neg}

  abbrev ◌∸◌ : A → A → A
  a ∸ b = a + neg b

  -- one undoes the other, in either order
  pub record Inverse (M N : Mat A) : Type 0 where
    pub right : (b c : Bool) → times R M N b c ≡ unit R b c
    pub left : (b c : Bool) → times R N M b c ≡ unit R b c

  abbrev trace : Mat A → A
  trace M = M false false + M true true

  abbrev determinant : Mat A → A
  determinant M = M false false * M true true ∸ M false true * M true false

  -- a matrix of two by two is undone by its trace less itself, over its determinant
  module _ (M : Mat A) (e : A) (h : e * determinant M ≡ one) where
    abbrev undo : Mat A
    undo b c = e * (trace M * unit R b c ∸ M b c)

    undo_right : (b c : Bool) → times R M undo b c ≡ unit R b c
    undo_right false false = ring_by R (M false false ∷ M false true ∷ M true false ∷ M true true ∷ e ∷ []) (λ a b c d e. a ⊗ (e ⊗ ((a ⊕ d) ⊗ i ⊖ a)) ⊕ b ⊗ (e ⊗ ((a ⊕ d) ⊗ o ⊖ c)) ≐ i ⟸ (i · e ⊗ (a ⊗ d ⊖ b ⊗ c) ≐ i) ∷ []) refl h
    undo_right false true = ring R (M false false ∷ M false true ∷ M true false ∷ M true true ∷ e ∷ []) (λ a b c d e. a ⊗ (e ⊗ ((a ⊕ d) ⊗ o ⊖ b)) ⊕ b ⊗ (e ⊗ ((a ⊕ d) ⊗ i ⊖ d)) ≐ o) refl
    undo_right true false = ring R (M false false ∷ M false true ∷ M true false ∷ M true true ∷ e ∷ []) (λ a b c d e. c ⊗ (e ⊗ ((a ⊕ d) ⊗ i ⊖ a)) ⊕ d ⊗ (e ⊗ ((a ⊕ d) ⊗ o ⊖ c)) ≐ o) refl
    undo_right true true = ring_by R (M false false ∷ M false true ∷ M true false ∷ M true true ∷ e ∷ []) (λ a b c d e. c ⊗ (e ⊗ ((a ⊕ d) ⊗ o ⊖ b)) ⊕ d ⊗ (e ⊗ ((a ⊕ d) ⊗ i ⊖ d)) ≐ i ⟸ (i · e ⊗ (a ⊗ d ⊖ b ⊗ c) ≐ i) ∷ []) refl h

    undo_left : (b c : Bool) → times R undo M b c ≡ unit R b c
    undo_left false false = ring_by R (M false false ∷ M false true ∷ M true false ∷ M true true ∷ e ∷ []) (λ a b c d e. (e ⊗ ((a ⊕ d) ⊗ i ⊖ a)) ⊗ a ⊕ (e ⊗ ((a ⊕ d) ⊗ o ⊖ b)) ⊗ c ≐ i ⟸ (i · e ⊗ (a ⊗ d ⊖ b ⊗ c) ≐ i) ∷ []) refl h
    undo_left false true = ring R (M false false ∷ M false true ∷ M true false ∷ M true true ∷ e ∷ []) (λ a b c d e. (e ⊗ ((a ⊕ d) ⊗ i ⊖ a)) ⊗ b ⊕ (e ⊗ ((a ⊕ d) ⊗ o ⊖ b)) ⊗ d ≐ o) refl
    undo_left true false = ring R (M false false ∷ M false true ∷ M true false ∷ M true true ∷ e ∷ []) (λ a b c d e. (e ⊗ ((a ⊕ d) ⊗ o ⊖ c)) ⊗ a ⊕ (e ⊗ ((a ⊕ d) ⊗ i ⊖ d)) ⊗ c ≐ o) refl
    undo_left true true = ring_by R (M false false ∷ M false true ∷ M true false ∷ M true true ∷ e ∷ []) (λ a b c d e. (e ⊗ ((a ⊕ d) ⊗ o ⊖ c)) ⊗ b ⊕ (e ⊗ ((a ⊕ d) ⊗ i ⊖ d)) ⊗ d ≐ i ⟸ (i · e ⊗ (a ⊗ d ⊖ b ⊗ c) ≐ i) ∷ []) refl h

    inverse_by : (N : Mat A) → ((b c : Bool) → N b c ≡ undo b c) → Inverse M N
    inverse_by N is = record {
      right = λ b c. ap₂ (mix R M b) (is false c) (is true c) ∙ undo_right b c;
      left = λ b c. ap₂ (λ x y. x * M false c + y * M true c) (is b false) (is b true) ∙ undo_left b c;
    }

  -- the blocks again
  block_matrix_is : (u : Kind) (p q : A) (b c : Bool) → block_matrix R u p q b c ≡ mat R u p q b c
  block_matrix_is u p q b false = block_is R u p q one nil b ∙ ring R (mat R u p q b false ∷ mat R u p q b true ∷ []) (λ s t. s ⊗ i ⊕ t ⊗ o ≐ s) refl
  block_matrix_is u p q b true = block_is R u p q nil one b ∙ ring R (mat R u p q b false ∷ mat R u p q b true ∷ []) (λ s t. s ⊗ o ⊕ t ⊗ i ≐ t) refl

  mat_trace : (u : Kind) (p q : A) → trace (mat R u p q) ≡ p + q
  mat_trace Lower p q = R.plus_comm q p
  mat_trace Upper p q = R.plus_comm q p
  mat_trace Sum p q = refl

  mat_determinant : (u : Kind) (p q : A) → determinant (mat R u p q) ≡ p * q
  mat_determinant Lower p q = ring R (p ∷ q ∷ []) (λ p q. q ⊗ p ⊖ (q ⊖ p) ⊗ o ≐ p ⊗ q) refl
  mat_determinant Upper p q = ring R (p ∷ q ∷ []) (λ p q. q ⊗ p ⊖ o ⊗ (p ⊖ q) ≐ p ⊗ q) refl
  mat_determinant Sum p q = ring R (p ∷ q ∷ []) (λ p q. p ⊗ q ⊖ o ⊗ o ≐ p ⊗ q) refl

  -- a block less z
  abbrev pub less : Mat A → A → Mat A
  less M z b c = M b c ∸ z * unit R b c

  pub shift_inverse : (u : Kind) (p q z e : A) → e * ((p ∸ z) * (q ∸ z)) ≡ one → Inverse (less (mat R u p q) z) (undo_shift R u p q z e)
  shift_inverse u p q z e h =
      let M = mat R u p q in
      inverse_by (less M z) e
      (ring_by R (M false false ∷ M false true ∷ M true false ∷ M true true ∷ p ∷ q ∷ z ∷ e ∷ [])
      (λ a b c d p q z e. e ⊗ ((a ⊖ z ⊗ i) ⊗ (d ⊖ z ⊗ i) ⊖ (b ⊖ z ⊗ o) ⊗ (c ⊖ z ⊗ o)) ≐ i
      ⟸ (e · a ⊗ d ⊖ b ⊗ c ≐ p ⊗ q) ∷ (⊝ (e ⊗ z) · a ⊕ d ≐ p ⊕ q) ∷ (i · e ⊗ ((p ⊖ z) ⊗ (q ⊖ z)) ≐ i) ∷ []) refl
      (mat_determinant u p q) (mat_trace u p q) h)
      (undo_shift R u p q z e) λ b c.
      ring_by R (M false false ∷ M true true ∷ M b c ∷ block_matrix R u p q b c ∷ unit R b c ∷ p ∷ q ∷ z ∷ e ∷ [])
      (λ a d m n s p q z e. e ⊗ ((p ⊕ q ⊖ z) ⊗ s ⊖ n) ≐ e ⊗ (((a ⊖ z ⊗ i) ⊕ (d ⊖ z ⊗ i)) ⊗ s ⊖ (m ⊖ z ⊗ s))
      ⟸ (⊝ e · n ≐ m) ∷ (⊝ (e ⊗ s) · a ⊕ d ≐ p ⊕ q) ∷ []) refl
      (block_matrix_is u p q b c) (mat_trace u p q)

  -- the difference of two blocks of one direction
  abbrev pub gap : Kind → Kind → A → A → Mat A
  gap u v p q b c = mat R u p q b c ∸ mat R v p q b c

  gap_determinant : (u v : Kind) → u ≢ v → (p q : A) → determinant (gap u v p q) ≡ neg ((q ∸ p) * (q ∸ p))
  gap_determinant Lower Lower h p q = absurd (h refl)
  gap_determinant Lower Upper h p q = ring R (p ∷ q ∷ []) (λ p q. (q ⊖ q) ⊗ (p ⊖ p) ⊖ (q ⊖ p ⊖ o) ⊗ (o ⊖ (p ⊖ q)) ≐ ⊝ ((q ⊖ p) ⊗ (q ⊖ p))) refl
  gap_determinant Lower Sum h p q = ring R (p ∷ q ∷ []) (λ p q. (q ⊖ p) ⊗ (p ⊖ q) ⊖ (q ⊖ p ⊖ o) ⊗ (o ⊖ o) ≐ ⊝ ((q ⊖ p) ⊗ (q ⊖ p))) refl
  gap_determinant Upper Lower h p q = ring R (p ∷ q ∷ []) (λ p q. (q ⊖ q) ⊗ (p ⊖ p) ⊖ (o ⊖ (q ⊖ p)) ⊗ (p ⊖ q ⊖ o) ≐ ⊝ ((q ⊖ p) ⊗ (q ⊖ p))) refl
  gap_determinant Upper Upper h p q = absurd (h refl)
  gap_determinant Upper Sum h p q = ring R (p ∷ q ∷ []) (λ p q. (q ⊖ p) ⊗ (p ⊖ q) ⊖ (o ⊖ o) ⊗ (p ⊖ q ⊖ o) ≐ ⊝ ((q ⊖ p) ⊗ (q ⊖ p))) refl
  gap_determinant Sum Lower h p q = ring R (p ∷ q ∷ []) (λ p q. (p ⊖ q) ⊗ (q ⊖ p) ⊖ (o ⊖ (q ⊖ p)) ⊗ (o ⊖ o) ≐ ⊝ ((q ⊖ p) ⊗ (q ⊖ p))) refl
  gap_determinant Sum Upper h p q = ring R (p ∷ q ∷ []) (λ p q. (p ⊖ q) ⊗ (q ⊖ p) ⊖ (o ⊖ o) ⊗ (o ⊖ (p ⊖ q)) ≐ ⊝ ((q ⊖ p) ⊗ (q ⊖ p))) refl
  gap_determinant Sum Sum h p q = absurd (h refl)

  pub difference_inverse : (u v : Kind) → u ≢ v → (p q d : A) → d * (q ∸ p) ≡ one → Inverse (gap u v p q) (undo_difference R u v p q d)
  difference_inverse u v n p q d h =
      let M = mat R u p q in
      let N = mat R v p q in
      inverse_by (gap u v p q) (neg (d * d))
      (ring_by R (determinant (gap u v p q) ∷ p ∷ q ∷ d ∷ [])
      (λ w p q d. (⊝ (d ⊗ d)) ⊗ w ≐ i ⟸ (⊝ (d ⊗ d) · w ≐ ⊝ ((q ⊖ p) ⊗ (q ⊖ p))) ∷ (d ⊗ (q ⊖ p) ⊕ i · d ⊗ (q ⊖ p) ≐ i) ∷ []) refl
      (gap_determinant u v n p q) h)
      (undo_difference R u v p q d) λ b c.
      ring_by R (M false false ∷ M true true ∷ N false false ∷ N true true ∷ M b c ∷ N b c ∷ block_matrix R u p q b c ∷ block_matrix R v p q b c ∷ unit R b c ∷ p ∷ q ∷ d ∷ [])
      (λ f t f' t' m n x y s p q d. d ⊗ d ⊗ (x ⊖ y) ≐ (⊝ (d ⊗ d)) ⊗ (((f ⊖ f') ⊕ (t ⊖ t')) ⊗ s ⊖ (m ⊖ n))
      ⟸ (d ⊗ d · x ≐ m) ∷ (⊝ (d ⊗ d) · y ≐ n) ∷ (d ⊗ d ⊗ s · f ⊕ t ≐ p ⊕ q) ∷ (⊝ (d ⊗ d ⊗ s) · f' ⊕ t' ≐ p ⊕ q) ∷ []) refl
      (block_matrix_is u p q b c) (block_matrix_is v p q b c) (mat_trace u p q) (mat_trace v p q)

  -- to the eigenvectors and back
  sign : Kind → A
  sign Lower = neg one
  sign Upper = neg one
  sign Sum = one

  to_eigen_determinant : (v : Kind) → sign v * determinant (to_eigen R v) ≡ one
  unfolding sign
  to_eigen_determinant Lower = ring R [] ((⊝ i) ⊗ (o ⊗ i ⊖ i ⊗ i) ≐ i) refl
  to_eigen_determinant Upper = ring R [] ((⊝ i) ⊗ (i ⊗ o ⊖ i ⊗ i) ≐ i) refl
  to_eigen_determinant Sum = ring R [] (i ⊗ (i ⊗ i ⊖ o ⊗ o) ≐ i) refl

  from_eigen_is : (v : Kind) (b c : Bool) → from_eigen R v b c ≡ sign v * (trace (to_eigen R v) * unit R b c ∸ to_eigen R v b c)
  unfolding sign
  from_eigen_is Lower false false = ring R [] (⊝ i ≐ (⊝ i) ⊗ ((o ⊕ i) ⊗ i ⊖ o)) refl
  from_eigen_is Lower false true = ring R [] (i ≐ (⊝ i) ⊗ ((o ⊕ i) ⊗ o ⊖ i)) refl
  from_eigen_is Lower true false = ring R [] (i ≐ (⊝ i) ⊗ ((o ⊕ i) ⊗ o ⊖ i)) refl
  from_eigen_is Lower true true = ring R [] (o ≐ (⊝ i) ⊗ ((o ⊕ i) ⊗ i ⊖ i)) refl
  from_eigen_is Upper false false = ring R [] (o ≐ (⊝ i) ⊗ ((i ⊕ o) ⊗ i ⊖ i)) refl
  from_eigen_is Upper false true = ring R [] (i ≐ (⊝ i) ⊗ ((i ⊕ o) ⊗ o ⊖ i)) refl
  from_eigen_is Upper true false = ring R [] (i ≐ (⊝ i) ⊗ ((i ⊕ o) ⊗ o ⊖ i)) refl
  from_eigen_is Upper true true = ring R [] (⊝ i ≐ (⊝ i) ⊗ ((i ⊕ o) ⊗ i ⊖ o)) refl
  from_eigen_is Sum false false = ring R [] (i ≐ i ⊗ ((i ⊕ i) ⊗ i ⊖ i)) refl
  from_eigen_is Sum false true = ring R [] (o ≐ i ⊗ ((i ⊕ i) ⊗ o ⊖ o)) refl
  from_eigen_is Sum true false = ring R [] (o ≐ i ⊗ ((i ⊕ i) ⊗ o ⊖ o)) refl
  from_eigen_is Sum true true = ring R [] (i ≐ i ⊗ ((i ⊕ i) ⊗ i ⊖ i)) refl

  pub eigen_inverse : (v : Kind) → Inverse (to_eigen R v) (from_eigen R v)
  eigen_inverse v = inverse_by (to_eigen R v) (sign v) (to_eigen_determinant v) (from_eigen R v) (from_eigen_is v)

  -- row false of to_eigen has the eigenvalue p, row true q
  pub eigen_rows : (v : Kind) (p q : A) (b c : Bool) → times R (to_eigen R v) (mat R v p q) b c ≡ (if b then q else p) * to_eigen R v b c
  eigen_rows Lower p q false false = ring R (p ∷ q ∷ []) (λ p q. o ⊗ q ⊕ i ⊗ o ≐ p ⊗ o) refl
  eigen_rows Lower p q false true = ring R (p ∷ q ∷ []) (λ p q. o ⊗ (q ⊖ p) ⊕ i ⊗ p ≐ p ⊗ i) refl
  eigen_rows Lower p q true false = ring R (p ∷ q ∷ []) (λ p q. i ⊗ q ⊕ i ⊗ o ≐ q ⊗ i) refl
  eigen_rows Lower p q true true = ring R (p ∷ q ∷ []) (λ p q. i ⊗ (q ⊖ p) ⊕ i ⊗ p ≐ q ⊗ i) refl
  eigen_rows Upper p q false false = ring R (p ∷ q ∷ []) (λ p q. i ⊗ q ⊕ i ⊗ (p ⊖ q) ≐ p ⊗ i) refl
  eigen_rows Upper p q false true = ring R (p ∷ q ∷ []) (λ p q. i ⊗ o ⊕ i ⊗ p ≐ p ⊗ i) refl
  eigen_rows Upper p q true false = ring R (p ∷ q ∷ []) (λ p q. i ⊗ q ⊕ o ⊗ (p ⊖ q) ≐ q ⊗ i) refl
  eigen_rows Upper p q true true = ring R (p ∷ q ∷ []) (λ p q. i ⊗ o ⊕ o ⊗ p ≐ q ⊗ o) refl
  eigen_rows Sum p q false false = ring R (p ∷ q ∷ []) (λ p q. i ⊗ p ⊕ o ⊗ o ≐ p ⊗ i) refl
  eigen_rows Sum p q false true = ring R (p ∷ q ∷ []) (λ p q. i ⊗ o ⊕ o ⊗ q ≐ p ⊗ o) refl
  eigen_rows Sum p q true false = ring R (p ∷ q ∷ []) (λ p q. o ⊗ p ⊕ i ⊗ o ≐ q ⊗ o) refl
  eigen_rows Sum p q true true = ring R (p ∷ q ∷ []) (λ p q. o ⊗ o ⊕ i ⊗ q ≐ q ⊗ i) refl
