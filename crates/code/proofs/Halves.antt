-- What the halves of columns know. Assumes nothing.
use Rattle.std.proofs.Common.{◌≡◌, ℕ, Bool, true, false, ◌≢◌, [], ◌∷◌, sym, refl, ap, ◌∙◌, ap₂}
use mathlib.Core.Path.{fun_ext}
use Rattle.field.specs.Ring.{Ring}
use Rattle.field.proofs.Solver.{◌⊕◌, ◌⊗◌, ◌≐◌, ring}
use Rattle.code.proofs.Digits.{Digits}
use Rattle.code.proofs.Operators.{Mat, mix, Op, times, scale, op_op, op_comm, op_same}
use Rattle.code.specs.Blocks.{block, half}
use Rattle.code.specs.Recovery.{eigenvalue, recover}
use Rattle.code.specs.declared.Kind.{Kind}
use Rattle.code.proofs.Matrices.{mat, half_m, half_block, pair, recover_is, recover_half, recover_block, block_is, half_is}

module _ {A Row : Type 0} (R : Ring A) (D : Digits Row) where
  infixl 60 ◌+◌
  infixl 70 ◌*◌
  open R use {zero as nil, one, plus as ◌+◌, times as ◌*◌, negative as neg}
  open D use {bit, to}

  -- the column after its blocks, and its half, as the rule has them
  abbrev pub after : Kind → ℕ → A → A → (Row → A) → Row → A
  after u k p q C a = block R u p q (C (to k false a)) (C (to k true a)) (bit k a)

  abbrev pub halved : Kind → ℕ → (Row → A) → Row → A
  halved u k C a = half R u (C (to k false a)) (C (to k true a))

  pub after_op : (u : Kind) (k : ℕ) (p q : A) (C : Row → A) → after u k p q C ≡ Op R D k (mat R u p q) C
  after_op u k p q C = fun_ext λ a. block_is R u p q (C (to k false a)) (C (to k true a)) (bit k a)

  pub halved_op : (u : Kind) (k : ℕ) (C : Row → A) → halved u k C ≡ Op R D k (half_m R u) C
  halved_op u k C = fun_ext λ a. half_is R u (C (to k false a)) (C (to k true a)) (bit k a)

  halved_after : (u v : Kind) (k : ℕ) (p q : A) (C : Row → A) → halved u k (after v k p q C) ≡ Op R D k (times R (half_m R u) (mat R v p q)) C
  halved_after u v k p q C = halved_op u k (after v k p q C) ∙ ap (Op R D k (half_m R u)) (after_op v k p q C) ∙ op_op R D k (half_m R u) (mat R v p q) C

  -- (1) the half of a column after the blocks of another kind of the same direction is a multiple of its half
  op_times : (k : ℕ) (x : A) (M : Mat A) (C : Row → A) → Op R D k (λ b c. x * M b c) C ≡ scale R D x (Op R D k M C)
  op_times k x M C = fun_ext λ a.
      ring R (x ∷ M (bit k a) false ∷ M (bit k a) true ∷ C (to k false a) ∷ C (to k true a) ∷ []) (λ x m n c d. (x ⊗ m) ⊗ c ⊕ (x ⊗ n) ⊗ d ≐ x ⊗ (m ⊗ c ⊕ n ⊗ d)) refl

  pub half_same : (u v : Kind) → u ≢ v → (k : ℕ) (p q : A) (C : Row → A)
      → halved u k (after v k p q C) ≡ scale R D (eigenvalue R u v p q) (halved u k C)
  half_same u v h k p q C =
      halved_after u v k p q C
      ∙ op_same R D k _ (λ b c. R.times (eigenvalue R u v p q) (half_m R u b c)) (half_block R u v h p q) C ∙ op_times k (eigenvalue R u v p q) (half_m R u) C
      ∙ ap (scale R D (eigenvalue R u v p q)) (sym (halved_op u k C))

  -- and after blocks of another direction it is its half after those blocks
  pub half_else : (u v : Kind) (k l : ℕ) → k ≢ l → (p q : A) (C : Row → A)
      → halved u k (after v l p q C) ≡ after v l p q (halved u k C)
  half_else u v k l h p q C =
      halved_op u k (after v l p q C) ∙ ap (Op R D k (half_m R u)) (after_op v l p q C) ∙ op_comm R D k l h (half_m R u) (mat R v p q) C
      ∙ ap (Op R D l (mat R v p q)) (sym (halved_op u k C)) ∙ sym (after_op v l p q (halved u k C))

  -- (2) a column from its half and the half of what its blocks make of it
  abbrev pub restore : Kind → ℕ → A → A → A → (Row → A) → (Row → A) → Row → A
  restore u k p q d G H a = recover R u p q d (G a) (H a) (bit k a)

  at_pair : (k : ℕ) (C : Row → A) (a : Row) (b : Bool) → pair R (C (to k false a)) (C (to k true a)) b ≡ C (to k b a)
  at_pair k C a false = refl
  at_pair k C a true = refl

  pub restored : (u : Kind) (k : ℕ) (p q d : A) → d * (q + neg p) ≡ one → (C : Row → A)
      → restore u k p q d (halved u k C) (halved u k (after u k p q C)) ≡ C
  restored u k p q d h C =
      ap₂ (restore u k p q d) (halved_op u k C) (halved_after u u k p q C)
      ∙ fun_ext λ a. recover_is R u p q d (C (to k false a)) (C (to k true a)) (bit k a) (bit k a) h ∙ at_pair k C a (bit k a) ∙ ap C (D.to_bit k a)

  -- a half is one number for each pair
  abbrev pub Flat : ℕ → (Row → A) → Type 0
  Flat k G = (b : Bool) (a : Row) → G (to k b a) ≡ G a

  pub restore_at : (u : Kind) (k : ℕ) (p q d : A) (G H : Row → A) → Flat k G → Flat k H → (b : Bool) (a : Row)
      → restore u k p q d G H (to k b a) ≡ recover R u p q d (G a) (H a) b
  restore_at u k p q d G H g h b a = rw (g b a, h b a, D.bit_to k b a)

  op_restore : (u : Kind) (k : ℕ) (p q d : A) (G H : Row → A) → Flat k G → Flat k H → (M : Mat A) (a : Row)
      → Op R D k M (restore u k p q d G H) a ≡ mix R M (bit k a) (recover R u p q d (G a) (H a) false) (recover R u p q d (G a) (H a) true)
  op_restore u k p q d G H g h M a =
      ap₂ (mix R M (bit k a)) (restore_at u k p q d G H g h false a) (restore_at u k p q d G H g h true a)

  pub restore_half : (u : Kind) (k : ℕ) (p q d : A) → d * (q + neg p) ≡ one → (G H : Row → A) → Flat k G → Flat k H
      → halved u k (restore u k p q d G H) ≡ G
  restore_half u k p q d e G H g h =
      halved_op u k (restore u k p q d G H) ∙ fun_ext λ a. op_restore u k p q d G H g h (half_m R u) a ∙ recover_half R u p q d (G a) (H a) (bit k a) e

  pub restore_block : (u : Kind) (k : ℕ) (p q d : A) → d * (q + neg p) ≡ one → (G H : Row → A) → Flat k G → Flat k H
      → halved u k (after u k p q (restore u k p q d G H)) ≡ H
  restore_block u k p q d e G H g h =
      halved_after u u k p q (restore u k p q d G H)
      ∙ fun_ext λ a. op_restore u k p q d G H g h (times R (half_m R u) (mat R u p q)) a ∙ recover_block R u p q d (G a) (H a) (bit k a) e
