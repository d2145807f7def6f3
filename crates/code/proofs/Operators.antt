-- Columns over rows with digits, and what a matrix of two by two does to them along one digit. Assumes nothing.
use Rattle.std.proofs.Common.{◌≡◌, ℕ, Bool, true, false, ◌≢◌, [], ◌∷◌, sym, refl, ◌∙◌, ap₂}
use mathlib.Core.Path.{fun_ext}
use Rattle.field.specs.Ring.{Ring}
use Rattle.field.proofs.Solver.{◌⊕◌, ◌⊗◌, ◌⊖◌, ◌≐◌, ring}
use Rattle.code.proofs.Digits.{Digits}

-- a matrix: which row of it, then which column
abbrev pub Mat : Type 0 → Type 0
Mat A = Bool → Bool → A

-- what its row b makes of two symbols
abbrev pub mix : {A : Type 0} → Ring A → Mat A → Bool → A → A → A
mix R M b s t = R.plus (R.times (M b false) s) (R.times (M b true) t)

abbrev pub times : {A : Type 0} → Ring A → Mat A → Mat A → Mat A
times R M N b c = mix R M b (N false c) (N true c)

module _ {A Row : Type 0} (R : Ring A) (D : Digits Row) where
  infixl 60 ◌+◌
  infixl 70 ◌*◌
  infixl 60 ◌⊞◌
  infixl 60 ◌⊟◌
  open R use {zero as nil, one, plus as ◌+◌, times as ◌*◌, negative as neg}
  open D use {bit, to}

  -- the symbols s and t of two partners, the lower and the upper, become M 0 0 s + M 0 1 t and M 1 0 s + M 1 1 t
  abbrev pub Op : ℕ → Mat A → (Row → A) → Row → A
  Op k M C a = mix R M (bit k a) (C (to k false a)) (C (to k true a))

  abbrev pub ◌⊞◌ : (Row → A) → (Row → A) → Row → A
  (C ⊞ E) a = C a + E a

  abbrev pub ◌⊟◌ : (Row → A) → (Row → A) → Row → A
  (C ⊟ E) a = C a + neg (E a)

  abbrev pub scale : A → (Row → A) → Row → A
  scale x C a = x * C a

  pub op_add : (k : ℕ) (M : Mat A) (C E : Row → A) → Op k M (C ⊞ E) ≡ Op k M C ⊞ Op k M E
  op_add k M C E = fun_ext λ a.
      ring R (M (bit k a) false ∷ M (bit k a) true ∷ C (to k false a) ∷ C (to k true a) ∷ E (to k false a) ∷ E (to k true a) ∷ [])
      (λ m n c d e f. m ⊗ (c ⊕ e) ⊕ n ⊗ (d ⊕ f) ≐ (m ⊗ c ⊕ n ⊗ d) ⊕ (m ⊗ e ⊕ n ⊗ f)) refl

  pub op_sub : (k : ℕ) (M : Mat A) (C E : Row → A) → Op k M (C ⊟ E) ≡ Op k M C ⊟ Op k M E
  op_sub k M C E = fun_ext λ a.
      ring R (M (bit k a) false ∷ M (bit k a) true ∷ C (to k false a) ∷ C (to k true a) ∷ E (to k false a) ∷ E (to k true a) ∷ [])
      (λ m n c d e f. m ⊗ (c ⊖ e) ⊕ n ⊗ (d ⊖ f) ≐ (m ⊗ c ⊕ n ⊗ d) ⊖ (m ⊗ e ⊕ n ⊗ f)) refl

  -- along one digit, one after the other is the product
  op_at_to : (k : ℕ) (N : Mat A) (C : Row → A) (b : Bool) (a : Row) → Op k N C (to k b a) ≡ mix R N b (C (to k false a)) (C (to k true a))
  op_at_to k N C b a = rw (Op, D.bit_to k b a, D.to_to k false b a, D.to_to k true b a)

  pub op_op : (k : ℕ) (M N : Mat A) (C : Row → A) → Op k M (Op k N C) ≡ Op k (times R M N) C
  op_op k M N C = fun_ext λ a.
      ap₂ (mix R M (bit k a)) (op_at_to k N C false a) (op_at_to k N C true a)
      ∙ ring R (M (bit k a) false ∷ M (bit k a) true ∷ N false false ∷ N false true ∷ N true false ∷ N true true ∷ C (to k false a) ∷ C (to k true a) ∷ [])
      (λ m n p q r s c d. m ⊗ (p ⊗ c ⊕ q ⊗ d) ⊕ n ⊗ (r ⊗ c ⊕ s ⊗ d) ≐ (m ⊗ p ⊕ n ⊗ r) ⊗ c ⊕ (m ⊗ q ⊕ n ⊗ s) ⊗ d) refl

  -- along two digits, in either order
  op_at_else : (k l : ℕ) → k ≢ l → (N : Mat A) (C : Row → A) (b : Bool) (a : Row)
      → Op k N C (to l b a) ≡ mix R N (bit k a) (C (to k false (to l b a))) (C (to k true (to l b a)))
  op_at_else k l h N C b a = rw (Op, D.bit_else k l h b a)

  pub op_comm : (k l : ℕ) → k ≢ l → (M N : Mat A) (C : Row → A) → Op k M (Op l N C) ≡ Op l N (Op k M C)
  op_comm k l h M N C = fun_ext λ a.
      let n : l ≢ k = λ e. h (sym e) in
      ap₂ (mix R M (bit k a)) (op_at_else l k n N C false a) (op_at_else l k n N C true a)
      ∙ rw (D.to_else l k n false false a, D.to_else l k n false true a, D.to_else l k n true false a, D.to_else l k n true true a)
      (ring R (M (bit k a) false ∷ M (bit k a) true ∷ N (bit l a) false ∷ N (bit l a) true
      ∷ C (to k false (to l false a)) ∷ C (to k false (to l true a)) ∷ C (to k true (to l false a)) ∷ C (to k true (to l true a)) ∷ [])
      (λ m n p q c d e f. m ⊗ (p ⊗ c ⊕ q ⊗ d) ⊕ n ⊗ (p ⊗ e ⊕ q ⊗ f) ≐ p ⊗ (m ⊗ c ⊕ n ⊗ e) ⊕ q ⊗ (m ⊗ d ⊕ n ⊗ f)) refl)
      ∙ sym (ap₂ (mix R N (bit l a)) (op_at_else k l h M C false a) (op_at_else k l h M C true a))

  -- a matrix along a digit where the two columns agree as matrices
  pub op_same : (k : ℕ) (M N : Mat A) → ((b c : Bool) → M b c ≡ N b c) → (C : Row → A) → Op k M C ≡ Op k N C
  op_same k M N h C = fun_ext λ a. ap₂ (λ x y. x * C (to k false a) + y * C (to k true a)) (h (bit k a) false) (h (bit k a) true)
