-- Maps of columns that undo a box's blocks, or the difference of two boxes' blocks. Assumes nothing.
use Rattle.std.proofs.Common.{◌≡◌, ℕ, Bool, true, false, if◌then◌else◌, ◌≢◌, [], ◌∷◌, sym, refl, ap, ◌∙◌, ap₂}
use mathlib.Core.Path.{fun_ext}
use Rattle.field.specs.Ring.{Ring}
use Rattle.field.proofs.Solver.{o, i, ◌⊕◌, ◌⊗◌, ◌⊖◌, ◌≐◌, ring}
use Rattle.code.specs.Decoding.{unit, to_eigen, from_eigen, undo_shift, undo_difference}
use Rattle.code.specs.declared.Kind.{Kind}
use Rattle.code.proofs.Digits.{Digits}
use Rattle.code.proofs.Operators.{Mat, mix, Op, times, ◌⊟◌, op_sub, op_op, op_comm, op_same}
use Rattle.code.proofs.Matrices.{mat}
use Rattle.code.proofs.Halves.{after, after_op}
use Rattle.code.proofs.Inverses.{Inverse, less, gap, shift_inverse, difference_inverse, eigen_inverse, eigen_rows}

module _ {A Row : Type 0} (R : Ring A) (D : Digits Row) where
  infixl 60 ◌+◌
  infixl 60 ◌∸◌
  infixl 70 ◌*◌
  open R use {zero as nil, one, plus as ◌+◌, times as ◌*◌, negative as neg}
  open D use {bit, to}

  abbrev ◌∸◌ : A → A → A
  a ∸ b = a + neg b

  abbrev Map : Type 0
  Map = (Row → A) → Row → A

  -- one map undoes another, in either order
  pub record Undone (L S : Map) : Type 0 where
    pub solves : (C : Row → A) → L (S C) ≡ C
    pub again : (C : Row → A) → S (L C) ≡ C

  unit_picks : (C : Bool → A) (b : Bool) → unit R b false * C false + unit R b true * C true ≡ C b
  unit_picks C false = ring R (C false ∷ C true ∷ []) (λ s t. i ⊗ s ⊕ o ⊗ t ≐ s) refl
  unit_picks C true = ring R (C false ∷ C true ∷ []) (λ s t. o ⊗ s ⊕ i ⊗ t ≐ t) refl

  op_unit : (k : ℕ) (C : Row → A) (a : Row) → Op R D k (unit R) C a ≡ C a
  op_unit k C a = unit_picks (λ b. C (to k b a)) (bit k a) ∙ ap C (D.to_bit k a)

  -- a matrix less z
  op_less : (k : ℕ) (M : Mat A) (z : A) (C : Row → A) (a : Row) → Op R D k (less R M z) C a ≡ Op R D k M C a ∸ z * C a
  op_less k M z C a =
      ring R (M (bit k a) false ∷ M (bit k a) true ∷ unit R (bit k a) false ∷ unit R (bit k a) true ∷ z ∷ C (to k false a) ∷ C (to k true a) ∷ [])
      (λ m n x y z s t. (m ⊖ z ⊗ x) ⊗ s ⊕ (n ⊖ z ⊗ y) ⊗ t ≐ (m ⊗ s ⊕ n ⊗ t) ⊖ z ⊗ (x ⊗ s ⊕ y ⊗ t)) refl
      ∙ ap (λ v. Op R D k M C a ∸ z * v) (op_unit k C a)

  -- a matrix for each row, along the digit k
  abbrev each : ℕ → (Row → Mat A) → Map
  each k M C a = Op R D k (M a) C a

  -- where two partners along k have the same matrices, these undo as matrices do
  each_each : (k : ℕ) (M N : Row → Mat A) → ((b : Bool) (a : Row) → N (to k b a) ≡ N a) → ((a : Row) (b c : Bool) → times R (M a) (N a) b c ≡ unit R b c)
      → (C : Row → A) → each k M (each k N C) ≡ C
  each_each k M N flat h C = fun_ext λ a.
      ap₂ (mix R (M a) (bit k a)) (ap (λ K. Op R D k K C (to k false a)) (flat false a)) (ap (λ K. Op R D k K C (to k true a)) (flat true a))
      ∙ ap (λ X. X a) (op_op R D k (M a) (N a) C ∙ op_same R D k _ (unit R) (h a) C) ∙ op_unit k C a

  each_undone : (k : ℕ) (M N : Row → Mat A) → ((b : Bool) (a : Row) → M (to k b a) ≡ M a) → ((b : Bool) (a : Row) → N (to k b a) ≡ N a)
      → ((a : Row) → Inverse R (M a) (N a)) → Undone (each k M) (each k N)
  each_undone k M N m n h = record { solves = each_each k M N n (λ a. (h a).right); again = each_each k N M m (λ a. (h a).left) }

  op_undone : (k : ℕ) (M N : Mat A) → Inverse R M N → Undone (Op R D k M) (Op R D k N)
  op_undone k M N h = each_undone k (λ a. M) (λ a. N) (λ b a. refl) (λ b a. refl) (λ a. h)

  undone_as : (L M S : Map) → ((C : Row → A) → L C ≡ M C) → Undone M S → Undone L S
  undone_as L M S e h = record { solves = λ C. e (S C) ∙ h.solves C; again = λ C. ap S (e C) ∙ h.again C }

  -- the blocks of one box
  pub block_undone : (u : Kind) (k : ℕ) (p q e : A) → e * ((p ∸ nil) * (q ∸ nil)) ≡ one → Undone (after R D u k p q) (Op R D k (undo_shift R u p q nil e))
  block_undone u k p q e h =
      undone_as (after R D u k p q) (Op R D k (less R (mat R u p q) nil)) (Op R D k (undo_shift R u p q nil e))
      (λ C. after_op R D u k p q C ∙ fun_ext λ a. ring R (Op R D k (mat R u p q) C a ∷ C a ∷ []) (λ y x. y ≐ y ⊖ o ⊗ x) refl ∙ sym (op_less k (mat R u p q) nil C a))
      (op_undone k _ _ (shift_inverse R u p q nil e h))

  -- those of two boxes of one direction
  op_gap : (u v : Kind) (k : ℕ) (p q : A) (C : Row → A) → ◌⊟◌ R D (after R D u k p q C) (after R D v k p q C) ≡ Op R D k (gap R u v p q) C
  op_gap u v k p q C =
      ap₂ (◌⊟◌ R D) (after_op R D u k p q C) (after_op R D v k p q C)
      ∙ fun_ext λ a.
      let M = mat R u p q in
      let N = mat R v p q in
      ring R (M (bit k a) false ∷ M (bit k a) true ∷ N (bit k a) false ∷ N (bit k a) true ∷ C (to k false a) ∷ C (to k true a) ∷ [])
      (λ m n x y s t. (m ⊗ s ⊕ n ⊗ t) ⊖ (x ⊗ s ⊕ y ⊗ t) ≐ (m ⊖ x) ⊗ s ⊕ (n ⊖ y) ⊗ t) refl

  pub same_undone : (u v : Kind) → u ≢ v → (k : ℕ) (p q d : A) → d * (q ∸ p) ≡ one
      → Undone (λ C. ◌⊟◌ R D (after R D u k p q C) (after R D v k p q C)) (Op R D k (undo_difference R u v p q d))
  same_undone u v n k p q d h = undone_as _ _ _ (op_gap u v k p q) (op_undone k _ _ (difference_inverse R u v n p q d h))

  -- and of two directions: in the eigenvectors of the second box its blocks are the eigenvalues of the rows
  module _ (u v : Kind) (k l : ℕ) (n : k ≢ l) (p q p' q' e f : A) (he : e * ((p ∸ p') * (q ∸ p')) ≡ one) (hf : f * ((p ∸ q') * (q ∸ q')) ≡ one) where
    abbrev there : Map
    there = Op R D l (to_eigen R v)

    abbrev back : Map
    back = Op R D l (from_eigen R v)

    abbrev shifted : Bool → Mat A
    shifted r = less R (mat R u p q) (if r then q' else p')

    abbrev unshifted : Bool → Mat A
    unshifted r = if r then undo_shift R u p q q' f else undo_shift R u p q p' e

    abbrev middle : (Bool → Mat A) → Map
    middle M = each k (λ a. M (bit l a))

    abbrev difference : Map
    difference C = ◌⊟◌ R D (after R D u k p q C) (after R D v l p' q' C)

    row_inverse : (r : Bool) → Inverse R (shifted r) (unshifted r)
    row_inverse false = shift_inverse R u p q p' e he
    row_inverse true = shift_inverse R u p q q' f hf

    flat : (M : Bool → Mat A) (b : Bool) (a : Row) → M (bit l (to k b a)) ≡ M (bit l a)
    flat M b a = ap M (D.bit_else l k (λ e. n (sym e)) b a)

    middle_undone : Undone (middle shifted) (middle unshifted)
    middle_undone = each_undone k (λ a. shifted (bit l a)) (λ a. unshifted (bit l a)) (flat shifted) (flat unshifted) (λ a. row_inverse (bit l a))

    there_undone : Undone there back
    there_undone = op_undone l _ _ (eigen_inverse R v)

    there_block : (C : Row → A) (a : Row) → there (Op R D l (mat R v p' q') C) a ≡ (if bit l a then q' else p') * there C a
    there_block C a =
        ap (λ X. X a) (op_op R D l (to_eigen R v) (mat R v p' q') C)
        ∙ ap₂ (λ x y. x * C (to l false a) + y * C (to l true a)) (eigen_rows R v p' q' (bit l a) false) (eigen_rows R v p' q' (bit l a) true)
        ∙ ring R ((if bit l a then q' else p') ∷ to_eigen R v (bit l a) false ∷ to_eigen R v (bit l a) true ∷ C (to l false a) ∷ C (to l true a) ∷ [])
        (λ z m n s t. (z ⊗ m) ⊗ s ⊕ (z ⊗ n) ⊗ t ≐ z ⊗ (m ⊗ s ⊕ n ⊗ t)) refl

    there_difference : (C : Row → A) → there (difference C) ≡ middle shifted (there C)
    there_difference C =
        let T = Op R D k (mat R u p q) in
        let S = Op R D l (mat R v p' q') in
        ap there (ap₂ (◌⊟◌ R D) (after_op R D u k p q C) (after_op R D v l p' q' C))
        ∙ op_sub R D l (to_eigen R v) (T C) (S C)
        ∙ fun_ext λ a.
        ap₂ ◌∸◌ (ap (λ X. X a) (op_comm R D l k (λ e. n (sym e)) (to_eigen R v) (mat R u p q) C)) (there_block C a)
        ∙ sym (op_less k (mat R u p q) (if bit l a then q' else p') (there C) a)

    pub apart_undone : Undone difference (λ C. back (middle unshifted (there C)))
    apart_undone = record {
      solves = λ C.
          let X = back (middle unshifted (there C)) in
          sym (there_undone.again (difference X))
          ∙ ap back (there_difference X ∙ ap (middle shifted) (there_undone.solves (middle unshifted (there C))) ∙ middle_undone.solves (there C))
          ∙ there_undone.again C;
      again = λ C. ap (λ X. back (middle unshifted X)) (there_difference C) ∙ ap back (middle_undone.again (there C)) ∙ there_undone.again C;
    }
