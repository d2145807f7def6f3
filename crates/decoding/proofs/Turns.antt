-- A matrix along a digit, at the two rows of a pair and on columns that agree. Assumes nothing.
use Rattle.std.proofs.Common.{◌≡◌, ℕ, ◌+◌, ◌^◌, ◌<◌, Bool, true, false, if◌then◌else◌, sym, refl, ap, ◌∙◌, ap₂, inl, inr}
use Rattle.std.proofs.lemmas.Bool.{cases_eq}
use Rattle.field.specs.Ring.{Ring}
use Rattle.code.specs.Decoding.{Matrix, turn}
use Rattle.code.specs.Rows.{odd, digit, partner, lower}
use Rattle.code.proofs.Digits.{partner_lt, bit_to_c, bit_else_c, to_to_c}
use Rattle.code.proofs.Pairing.{lower_partner, upper_partner}
use Rattle.decoding.specs.Matrices.{applied, Entrywise}

-- one of two, chosen by a digit: the two rows of a pair choose alike
pub chosen_alike : {B : Type 0} (k l j : ℕ) (low high : B) → (l ≡ k → low ≡ high)
    → (if odd (digit l (lower k j + 2 ^ k)) then high else low) ≡ (if odd (digit l (lower k j)) then high else low)
chosen_alike k l j low high one =
    elim (cases_eq l k) [
      | inl e ↦ either (odd (digit l (lower k j + 2 ^ k))) (odd (digit l (lower k j))) (one e)
      | inr n ↦ ap (λ d. if d then high else low) (ap (λ a. odd (digit l a)) (sym (upper_partner k j)) ∙ bit_else_c l k n true (lower k j))
    ]
  where
    either : (d e : Bool) → low ≡ high → (if d then high else low) ≡ (if e then high else low)
    either false false h = refl
    either false true h = h
    either true false h = sym h
    either true true h = refl

module _ {A : Type 0} (R : Ring A) (k l : ℕ) where
  module _ (M : Bool → Matrix A) (C : ℕ → A) (j low high : ℕ) (el : low ≡ lower k j) (eh : high ≡ lower k j + 2 ^ k) where
    turned_row : (d : Bool) (row : ℕ) → row ≡ partner k d (lower k j) → turn R k l M C row ≡ applied R (M (odd (digit l row))) (C low) (C high) d
    turned_row d row e = λ i.
        applied R (M (odd (digit l row))) (C ((ap (partner k false) e ∙ to_to_c k false d (lower k j) ∙ lower_partner k j ∙ sym el) i))
        (C ((ap (partner k true) e ∙ to_to_c k true d (lower k j) ∙ upper_partner k j ∙ sym eh) i)) ((ap (λ a. odd (digit k a)) e ∙ bit_to_c k d (lower k j)) i)

    -- what the matrix that the lower row chooses makes of the pair
    pub turned_low : (N : Matrix A) → N ≡ M (odd (digit l low)) → (s t : A) → s ≡ C low → t ≡ C high → applied R N s t false ≡ turn R k l M C low
    turned_low N e s t es et = (λ i. applied R (e i) (es i) (et i) false) ∙ sym (turned_row false low (el ∙ sym (lower_partner k j)))

    pub turned_high : (N : Matrix A) → N ≡ M (odd (digit l high)) → (s t : A) → s ≡ C low → t ≡ C high → applied R N s t true ≡ turn R k l M C high
    turned_high N e s t es et = (λ i. applied R (e i) (es i) (et i) true) ∙ sym (turned_row true high (eh ∙ sym (upper_partner k j)))

  -- a turn depends on the entries of its matrices, and below 2 ^ m on the rows below 2 ^ m alone
  pub turned_same : (m : ℕ) → k < m → (M N : Bool → Matrix A) → ((r : Bool) → Entrywise (M r) (N r)) → (C E : ℕ → A) → ((a : ℕ) → a < 2 ^ m → C a ≡ E a)
      → (a : ℕ) → a < 2 ^ m → turn R k l M C a ≡ turn R k l N E a
  turned_same m h M N entries C E same a b =
      let r = odd (digit l a) in
      let d = odd (digit k a) in
      ap₂ R.plus (ap₂ R.times (entries r d false) (same (partner k false a) (partner_lt m k false a h b)))
      (ap₂ R.times (entries r d true) (same (partner k true a) (partner_lt m k true a h b)))
