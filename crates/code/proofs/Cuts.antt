-- Columns cut to the rows below 2 ^ m: what a matrix does along a digit below m stays below. Assumes nothing.
use Rattle.std.proofs.Common.{◌≡◌, ℕ, zero, suc, ◌^◌, ◌<◌, ◌≤◌, Bool, true, false, if◌then◌else◌, nat_lt, [], ◌∷◌, sym, refl, ap, ◌∙◌, ap₂, inl, inr, le-ltb, lt-ltb, arith}
use mathlib.Core.Path.{fun_ext}
use Rattle.std.proofs.lemmas.Bool.{cases_lt, cond-true, cond-false}
use Rattle.field.specs.Ring.{Ring}
use Rattle.code.specs.Codes.{sum}
use Rattle.code.specs.Rows.{odd, digit, partner}
use Rattle.code.specs.declared.Kind.{Kind}
use Rattle.field.proofs.Solver.{o, ◌⊕◌, ◌⊗◌, ◌≐◌, ring}
use Rattle.code.proofs.Digits.{rows, partner_lt, to_to_c, to_bit_c}
use Rattle.code.proofs.Operators.{Mat, mix, Op}
use Rattle.code.proofs.Matrices.{mat, half_m}
use Rattle.code.proofs.Halves.{after, halved, after_op, halved_op}
use Rattle.code.proofs.Sums.{sum_ext}

partner_above : (m k : ℕ) (b : Bool) (a : ℕ) → k < m → 2 ^ m ≤ a → 2 ^ m ≤ partner k b a
partner_above m k b a h l =
    elim (cases_lt (partner k b a) (2 ^ m)) [
      | inl w ↦ let back : partner k (odd (digit k a)) (partner k b a) ≡ a = to_to_c k (odd (digit k a)) b a ∙ to_bit_c k a in absurd (omega (arith, partner_lt m k (odd (digit k a)) (partner k b a) h w))
      | inr w ↦ w
    ]

module _ {A : Type 0} (R : Ring A) (m : ℕ) where
  abbrev pub cut : (ℕ → A) → ℕ → A
  cut C a = if nat_lt a (2 ^ m) then C a else R.zero

  pub cut_in : (C : ℕ → A) (a : ℕ) → a < 2 ^ m → cut C a ≡ C a
  cut_in C a h = cond-true (nat_lt a (2 ^ m)) (C a) R.zero (lt-ltb a (2 ^ m) h)

  cut_out : (C : ℕ → A) (a : ℕ) → 2 ^ m ≤ a → cut C a ≡ R.zero
  cut_out C a h = cond-false (nat_lt a (2 ^ m)) (C a) R.zero (le-ltb a (2 ^ m) h)

  -- a column that is nothing above is its own cut
  pub cut_own : (C E : ℕ → A) → ((a : ℕ) → a < 2 ^ m → C a ≡ E a) → ((a : ℕ) → 2 ^ m ≤ a → C a ≡ R.zero) → C ≡ cut E
  cut_own C E h k = fun_ext λ a.
      elim (cases_lt a (2 ^ m)) [
        | inl l ↦ h a l ∙ sym (cut_in E a l)
        | inr l ↦ k a l ∙ sym (cut_out E a l)
      ]

  -- columns that agree below are the same once cut
  pub cut_same : (C E : ℕ → A) → ((a : ℕ) → a < 2 ^ m → C a ≡ E a) → cut C ≡ cut E
  cut_same C E h = cut_own (cut C) E (λ a l. cut_in C a l ∙ h a l) (cut_out C)

  cut_op : (k : ℕ) → k < m → (M : Mat A) (C : ℕ → A) → Op R rows k M (cut C) ≡ cut (Op R rows k M C)
  cut_op k h M C =
      cut_own (Op R rows k M (cut C)) (Op R rows k M C)
      (λ a l. ap₂ (mix R M (odd (digit k a))) (cut_in C (partner k false a) (partner_lt m k false a h l)) (cut_in C (partner k true a) (partner_lt m k true a h l)))
      (λ a l. ap₂ (mix R M (odd (digit k a))) (cut_out C (partner k false a) (partner_above m k false a h l)) (cut_out C (partner k true a) (partner_above m k true a h l))
      ∙ ring R (M (odd (digit k a)) false ∷ M (odd (digit k a)) true ∷ []) (λ x y. x ⊗ o ⊕ y ⊗ o ≐ o) refl)

  pub cut_after : (u : Kind) (k : ℕ) → k < m → (p q : A) (C : ℕ → A) → after R rows u k p q (cut C) ≡ cut (after R rows u k p q C)
  cut_after u k h p q C = after_op R rows u k p q (cut C) ∙ cut_op k h (mat R u p q) C ∙ ap cut (sym (after_op R rows u k p q C))

  pub cut_halved : (u : Kind) (k : ℕ) → k < m → (C : ℕ → A) → halved R rows u k (cut C) ≡ cut (halved R rows u k C)
  cut_halved u k h C = halved_op R rows u k (cut C) ∙ cut_op k h (half_m R u) C ∙ ap cut (sym (halved_op R rows u k C))

  nothing : (n : ℕ) (f : ℕ → A) → ((b : ℕ) → f b ≡ R.zero) → sum R n f ≡ R.zero
  nothing zero f h = refl
  nothing (suc n) f h = ap₂ R.plus (nothing n f h) (h n) ∙ R.zero_plus R.zero

  pub cut_sum : (n : ℕ) (f : ℕ → ℕ → A) → (λ a. sum R n (λ b. cut (f b) a)) ≡ cut (λ a. sum R n (λ b. f b a))
  cut_sum n f =
      cut_own _ (λ a. sum R n (λ b. f b a))
      (λ a l. sum_ext R n (λ b. cut (f b) a) (λ b. f b a) (λ b k. cut_in (f b) a l))
      (λ a l. nothing n (λ b. cut (f b) a) (λ b. cut_out (f b) a l))
