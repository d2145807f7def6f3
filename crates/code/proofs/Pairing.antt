-- The pairs of partners, counted by their lower rows. Assumes nothing.
use Rattle.std.proofs.Common.{◌≡◌, ℕ, suc, ◌+◌, ◌-◌, ◌*◌, ◌/◌, ◌%◌, ◌^◌, ◌<◌, ◌≤◌, Bool, true, false, ◌⊎◌, sym, ap, ◌∙◌, ap₂, inl, inr, mul_assoc, mul-le-mul_right, pow-suc, add-one, arith, pow_pos}
use Rattle.std.proofs.lemmas.Nat.{shr_split, shr_high, mod_low, shr-shr, le-div}
use Rattle.std.proofs.Math.Nat.{pow-succ'}
use Rattle.code.specs.Rows.{odd, digit, partner, lower, pair_of, Paired}
use Rattle.code.proofs.Digits.{rest_below, cat_below, top_below, partner_is, partner_lt, bit_to_c, bit_else_c, to_to_c, to_bit_c}

doubled : (q k : ℕ) → q * 2 ^ suc k ≡ q * 2 * 2 ^ k
doubled q k = ap (λ n. q * n) (pow-succ' 2 k) ∙ sym (mul_assoc q 2 (2 ^ k))

-- the lower row of pair j is j, and once more what of j stands from digit k on
pub lower_is : (k j : ℕ) → lower k j ≡ j + j / 2 ^ k * 2 ^ k
lower_is k j = omega (arith, doubled (j / 2 ^ k) k, shr_split j k)

-- what stands below digit k of a lower row, and what stands above it
lower_rest : (k j : ℕ) → lower k j % 2 ^ k ≡ j % 2 ^ k
lower_rest k j = ap (λ n. (n + j % 2 ^ k) % 2 ^ k) (doubled (j / 2 ^ k) k) ∙ mod_low (j / 2 ^ k * 2) k (j % 2 ^ k) (rest_below k j)

lower_top : (k j : ℕ) → lower k j / 2 ^ suc k ≡ j / 2 ^ k
lower_top k j = shr_high (j / 2 ^ k) (suc k) (j % 2 ^ k) (omega (arith, rest_below k j, pow-suc 2 k))

pub pair_lower : (k j : ℕ) → pair_of k (lower k j) ≡ j
pair_lower k j = ap₂ (λ q r. q * 2 ^ k + r) (lower_top k j) (lower_rest k j) ∙ shr_split j k

pub lower_pair : (k a : ℕ) → lower k (pair_of k a) ≡ partner k false a
lower_pair k a =
    ap₂ (λ q r. q * 2 ^ suc k + r) (shr_high (a / 2 ^ suc k) k (a % 2 ^ k) (rest_below k a)) (mod_low (a / 2 ^ suc k) k (a % 2 ^ k) (rest_below k a))
    ∙ omega (arith, doubled (a / 2 ^ suc k) k, ap (λ n. n * 2 * 2 ^ k) (shr-shr a k 1 ∙ ap (λ n. a / 2 ^ n) (add-one k)))
    ∙ sym (partner_is k false a)

pair_cleared : (k a : ℕ) → pair_of k (partner k false a) ≡ pair_of k a
pair_cleared k a = ap (pair_of k) (sym (lower_pair k a)) ∙ pair_lower k (pair_of k a)

pub pair_partner : (k : ℕ) (b : Bool) (a : ℕ) → pair_of k (partner k b a) ≡ pair_of k a
pair_partner k b a = sym (pair_cleared k (partner k b a)) ∙ ap (pair_of k) (to_to_c k false b a) ∙ pair_cleared k a

pub lower_partner : (k j : ℕ) → partner k false (lower k j) ≡ lower k j
lower_partner k j = sym (lower_pair k (lower k j)) ∙ ap (lower k) (pair_lower k j)

pub upper_partner : (k j : ℕ) → partner k true (lower k j) ≡ lower k j + 2 ^ k
upper_partner k j = ap (λ n. n + 2 ^ k) (lower_partner k j)

pub pair_upper : (k j : ℕ) → pair_of k (lower k j + 2 ^ k) ≡ j
pair_upper k j = ap (pair_of k) (sym (upper_partner k j)) ∙ pair_partner k true (lower k j) ∙ pair_lower k j

pub row_of_pair : (k a : ℕ) → partner k (odd (digit k a)) (lower k (pair_of k a)) ≡ a
row_of_pair k a = ap (partner k (odd (digit k a))) (lower_pair k a) ∙ to_to_c k (odd (digit k a)) false a ∙ to_bit_c k a

pub row_cases : (k j a : ℕ) → pair_of k a ≡ j → (a ≡ lower k j) ⊎ (a ≡ lower k j + 2 ^ k)
row_cases k j a e = go (odd (digit k a)) (sym (row_of_pair k a) ∙ ap (λ j. partner k (odd (digit k a)) (lower k j)) e)
  where
    go : (b : Bool) → a ≡ partner k b (lower k j) → (a ≡ lower k j) ⊎ (a ≡ lower k j + 2 ^ k)
    go false h = inl (h ∙ lower_partner k j)
    go true h = inr (h ∙ upper_partner k j)

-- their bounds and their order
pub lower_below : (m k j : ℕ) → k < m → j < 2 ^ (m - 1) → lower k j < 2 ^ m
lower_below m k j h l =
    let size : m ≡ suc (m - 1) = omega arith in
    let twice : 2 ^ m ≡ 2 ^ (m - 1) * 2 = ap (λ n. 2 ^ n) size ∙ pow-suc 2 (m - 1) in
    omega (arith, lower_is k j, shr_split j k)

pub upper_below : (m k j : ℕ) → k < m → j < 2 ^ (m - 1) → lower k j + 2 ^ k < 2 ^ m
upper_below m k j h l = rw (← upper_partner k j) (partner_lt m k true (lower k j) h (lower_below m k j h l))

pub pair_below : (m k a : ℕ) → k < m → a < 2 ^ m → pair_of k a < 2 ^ (m - 1)
pair_below m k a h l =
    let j = m - suc k in cat_below (m - 1) k j _ _ (omega arith) (top_below m (suc k) j a (omega arith) l) (rest_below k a)

pub lower_rises : (k i j : ℕ) → i < j → lower k i < lower k j
lower_rises k i j h =
    let top : i / 2 ^ k ≤ j / 2 ^ k = le-div (i / 2 ^ k) j (2 ^ k) (pow_pos k) (omega (arith, shr_split i k)) in
    omega (arith, lower_is k i, lower_is k j, mul-le-mul_right (2 ^ k) top)

pub digit_lower : (k j : ℕ) → odd (digit k (lower k j)) ≡ false
digit_lower k j = ap (λ a. odd (digit k a)) (sym (lower_partner k j)) ∙ bit_to_c k false (lower k j)

pub digit_upper : (k j : ℕ) → odd (digit k (lower k j + 2 ^ k)) ≡ true
digit_upper k j = ap (λ a. odd (digit k a)) (sym (upper_partner k j)) ∙ bit_to_c k true (lower k j)

-- what the definitions of rows mean
lower_all : (k a : ℕ) → odd (digit k a) ≡ false → (j : ℕ) × (lower k j ≡ a)
lower_all k a e = (pair_of k a, lower_pair k a ∙ ap (λ b. partner k b a) (sym e) ∙ to_bit_c k a)

pub paired : Paired
paired = record {
  set_digit = bit_to_c;
  set_others = λ k l n d a. bit_else_c l k n d a;
  set_below = partner_lt;
  lower_digit = digit_lower;
  lower_rises = lower_rises;
  lower_all = lower_all;
  lower_below = lower_below;
  upper = upper_partner;
}
