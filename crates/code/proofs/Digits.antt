-- Rows with binary digits: each digit can be read and be set by itself. And the natural numbers as such rows. Assumes nothing.
use Rattle.std.proofs.Common.{◌≡◌, ℕ, zero, suc, ◌+◌, ◌-◌, ◌*◌, ◌/◌, ◌%◌, ◌^◌, ◌<◌, Bool, true, false, ◌≢◌, sym, refl, ap, ◌∙◌, subst, inl, inr, pow-suc, pow-add, arith, pow_pos}
use Rattle.std.proofs.lemmas.Bool.{cases_lt, cases_eq}
use Rattle.std.proofs.lemmas.Nat.{shr_split, shr_high, shr_below, mod_below, mul-add-lt}
use Rattle.std.proofs.lemmas.Nat.Bits.{bit_at_cat_low, bit_at_cat_high, bit_at-suc, same_from_bits}
use Rattle.code.specs.Rows.{odd, digit, partner}

pub record Digits (Row : Type 0) : Type 0 where
  pub bit : ℕ → Row → Bool
  pub to : ℕ → Bool → Row → Row
  pub bit_to : (k : ℕ) (b : Bool) (a : Row) → bit k (to k b a) ≡ b
  pub to_to : (k : ℕ) (b c : Bool) (a : Row) → to k b (to k c a) ≡ to k b a
  pub to_bit : (k : ℕ) (a : Row) → to k (bit k a) a ≡ a
  pub bit_else : (k l : ℕ) → k ≢ l → (c : Bool) (a : Row) → bit k (to l c a) ≡ bit k a
  pub to_else : (k l : ℕ) → k ≢ l → (b c : Bool) (a : Row) → to k b (to l c a) ≡ to l c (to k b a)

abbrev pub val : Bool → ℕ
val false = 0
val true = 1

pub val_small : (b : Bool) → val b < 2
val_small false = omega arith
val_small true = omega arith

odd_val : (b : Bool) → odd (val b) ≡ b
odd_val false = refl
odd_val true = refl

val_odd : (n : ℕ) → n < 2 → val (odd n) ≡ n
val_odd zero h = refl
val_odd (suc zero) h = refl
val_odd (suc (suc n)) h = omega arith

pub rest_below : (k a : ℕ) → a % 2 ^ k < 2 ^ k
rest_below k a = mod_below a (2 ^ k) (pow_pos k)

-- rows with m digits: k digits, and the others from digit k on
pub cat_below : (m k j q r : ℕ) → k + j ≡ m → q < 2 ^ j → r < 2 ^ k → q * 2 ^ k + r < 2 ^ m
cat_below m k j q r e h l = subst (λ n. q * 2 ^ k + r < n) (sym (pow-add 2 k j) ∙ ap (λ n. 2 ^ n) e) (mul-add-lt q (2 ^ k) r (2 ^ j) h l)

pub top_below : (m k j a : ℕ) → k + j ≡ m → a < 2 ^ m → a / 2 ^ k < 2 ^ j
top_below m k j a e h = shr_below a j k (subst (λ n. a < 2 ^ n) (omega arith) h)

-- a row is what stands above digit k, that digit, and what stands below it
row_is : (k a : ℕ) → (a / 2 ^ k / 2 * 2 + digit k a) * 2 ^ k + a % 2 ^ k ≡ a
row_is k a = ap (λ n. n * 2 ^ k + a % 2 ^ k) (omega arith) ∙ shr_split a k

pub partner_is : (k : ℕ) (b : Bool) (a : ℕ) → partner k b a ≡ (a / 2 ^ k / 2 * 2 + val b) * 2 ^ k + a % 2 ^ k
partner_is k false a = omega (arith, row_is k a)
partner_is k true a = omega (arith, row_is k a)

digit_partner : (k : ℕ) (b : Bool) (a : ℕ) → digit k (partner k b a) ≡ val b
digit_partner k b a =
    ap (digit k) (partner_is k b a) ∙ ap (λ n. n % 2) (shr_high (a / 2 ^ k / 2 * 2 + val b) k (a % 2 ^ k) (rest_below k a)) ∙ omega (arith, val_small b)

-- the other digits stand above digit k or below it
digit_above : (i q q' : ℕ) → 0 < i → q / 2 ≡ q' / 2 → digit i q ≡ digit i q'
digit_above zero q q' h e = absurd (omega arith)
digit_above (suc i) q q' h e = bit_at-suc q i ∙ ap (digit i) e ∙ sym (bit_at-suc q' i)

cat_else : (i k q q' r : ℕ) → i ≢ k → r < 2 ^ k → q / 2 ≡ q' / 2 → digit i (q * 2 ^ k + r) ≡ digit i (q' * 2 ^ k + r)
cat_else i k q q' r n l e =
    elim (cases_lt i k) [
      | inl h ↦ bit_at_cat_low q k r i h ∙ sym (bit_at_cat_low q' k r i h)
      | inr h ↦ bit_at_cat_high q k r i l h ∙ digit_above (i - k) q q' (omega arith) e ∙ sym (bit_at_cat_high q' k r i l h)
    ]

digit_else : (i k : ℕ) → i ≢ k → (b : Bool) (a : ℕ) → digit i (partner k b a) ≡ digit i a
digit_else i k n b a =
    ap (digit i) (partner_is k b a)
    ∙ cat_else i k (a / 2 ^ k / 2 * 2 + val b) (a / 2 ^ k) (a % 2 ^ k) n (rest_below k a) (omega (arith, val_small b))
    ∙ ap (digit i) (shr_split a k)

-- rows that agree in digit k and in the others are the same
by_digits : (k a c : ℕ) → digit k a ≡ digit k c → ((i : ℕ) → i ≢ k → digit i a ≡ digit i c) → a ≡ c
by_digits k a c own others = same_from_bits a c λ i.
    elim (cases_eq i k) [
      | inl e ↦ subst (λ i. digit i a ≡ digit i c) (sym e) own
      | inr n ↦ others i n
    ]

-- the rows of the code
pub bit_to_c : (k : ℕ) (b : Bool) (a : ℕ) → odd (digit k (partner k b a)) ≡ b
bit_to_c k b a = ap odd (digit_partner k b a) ∙ odd_val b

pub to_to_c : (k : ℕ) (b c : Bool) (a : ℕ) → partner k b (partner k c a) ≡ partner k b a
to_to_c k b c a =
    by_digits k _ _ (digit_partner k b (partner k c a) ∙ sym (digit_partner k b a))
    (λ i n. digit_else i k n b (partner k c a) ∙ digit_else i k n c a ∙ sym (digit_else i k n b a))

pub to_bit_c : (k a : ℕ) → partner k (odd (digit k a)) a ≡ a
to_bit_c k a = by_digits k _ _ (digit_partner k (odd (digit k a)) a ∙ val_odd (digit k a) (omega arith)) (λ i n. digit_else i k n (odd (digit k a)) a)

pub bit_else_c : (k l : ℕ) → k ≢ l → (c : Bool) (a : ℕ) → odd (digit k (partner l c a)) ≡ odd (digit k a)
bit_else_c k l n c a = ap odd (digit_else k l n c a)

pub to_else_c : (k l : ℕ) → k ≢ l → (b c : Bool) (a : ℕ) → partner k b (partner l c a) ≡ partner l c (partner k b a)
to_else_c k l h b c a =
    by_digits k _ _ (digit_partner k b (partner l c a) ∙ sym (digit_else k l h c (partner k b a) ∙ digit_partner k b a))
    (λ i n. digit_else i k n b (partner l c a) ∙ both i n)
  where
    both : (i : ℕ) → i ≢ k → digit i (partner l c a) ≡ digit i (partner l c (partner k b a))
    both i n =
        elim (cases_eq i l) [
          | inl e ↦ subst (λ i. digit i (partner l c a) ≡ digit i (partner l c (partner k b a))) (sym e) (digit_partner l c a ∙ sym (digit_partner l c (partner k b a)))
          | inr o ↦ digit_else i l o c a ∙ sym (digit_else i l o c (partner k b a) ∙ digit_else i k n b a)
        ]

abbrev pub rows : Digits ℕ
rows = record { bit = λ k a. odd (digit k a); to = partner; bit_to = bit_to_c; to_to = to_to_c; to_bit = to_bit_c; bit_else = bit_else_c; to_else = to_else_c }

pub partner_lt : (m k : ℕ) (b : Bool) (a : ℕ) → k < m → a < 2 ^ m → partner k b a < 2 ^ m
partner_lt m k b a l h =
    let j = m - suc k in
    let size : k + suc j ≡ m = omega arith in
    let high : a / 2 ^ k < 2 ^ suc j = top_below m k (suc j) a size h in
    rw (partner_is k b a) (cat_below m k (suc j) _ _ size (omega (arith, val_small b, pow-suc 2 j)) (rest_below k a))
