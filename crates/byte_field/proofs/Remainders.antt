-- The product of bytes is the remainder of the product of polynomials: both are linear in each factor, and so is the
-- quotient, so that a computed test at the powers of two is enough. Assumes nothing.
use Rattle.std.proofs.Common.{◌≡◌, ℕ, zero, suc, ◌*◌, ◌/◌, ◌%◌, ◌<◌, List, [], ◌∷◌, refl, ap, ◌∙◌, ap₂}
use Rattle.std.specs.Int.Bits.{bit_xor}
use Rattle.std.proofs.lemmas.Nat.{xor_shr}
use Rattle.byte_field.specs.Linear.{Linear, Tested, agree_both, after, by_left, by_right, picked_sum, twice_sum, pick_right, xor_swap, xor_twice, xor_odd, product_below}
use Rattle.byte_field.specs.Polynomials.{shifts, times, modulus, Products}
use Rattle.byte_field.specs.Product.{pick, twice, picked, product}

-- what is taken off a, a times x, and so on, as multiples of the modulus
abbrev carries : ℕ → ℕ → ℕ → List ℕ
carries zero a q = []
carries (suc k) a q = q ∷ carries k (twice a) (bit_xor (q * 2) (a / 128 % 2))

quotient : ℕ → ℕ → ℕ
quotient a b = picked (carries 8 a 0) b

shifted_sum : (k a b c : ℕ) → picked (shifts k (bit_xor a b)) c ≡ bit_xor (picked (shifts k a) c) (picked (shifts k b) c)
shifted_sum zero a b c = refl
shifted_sum (suc k) a b c =
    ap₂ bit_xor (pick_right (c % 2) a b) (ap (λ n. picked (shifts k n) (c / 2)) (xor_twice a b) ∙ shifted_sum k (a * 2) (b * 2) (c / 2))
    ∙ xor_swap (pick (c % 2) a) (pick (c % 2) b) (picked (shifts k (a * 2)) (c / 2)) (picked (shifts k (b * 2)) (c / 2))

next_carry : (a b q r : ℕ) → bit_xor (bit_xor q r * 2) (bit_xor a b / 128 % 2) ≡ bit_xor (bit_xor (q * 2) (a / 128 % 2)) (bit_xor (r * 2) (b / 128 % 2))
next_carry a b q r =
    ap₂ bit_xor (xor_twice q r) (ap (λ n. n % 2) (xor_shr a b 7) ∙ xor_odd (a / 128) (b / 128))
    ∙ xor_swap (q * 2) (r * 2) (a / 128 % 2) (b / 128 % 2)

carried_sum : (k a b q r c : ℕ) → picked (carries k (bit_xor a b) (bit_xor q r)) c ≡ bit_xor (picked (carries k a q) c) (picked (carries k b r) c)
carried_sum zero a b q r c = refl
carried_sum (suc k) a b q r c =
    ap₂ bit_xor (pick_right (c % 2) q r) (ap₂ (λ x y. picked (carries k x y) (c / 2)) (twice_sum a b) (next_carry a b q r)
    ∙ carried_sum k (twice a) (twice b) (bit_xor (q * 2) (a / 128 % 2)) (bit_xor (r * 2) (b / 128 % 2)) (c / 2))
    ∙ xor_swap (pick (c % 2) q) (pick (c % 2) r) _ _

quotient_right : (a : ℕ) → Linear (quotient a)
unfolding quotient
quotient_right a x y = picked_sum (carries 8 a 0) x y

quotient_left : (b : ℕ) → Linear (λ a. quotient a b)
unfolding quotient
quotient_left b x y = carried_sum 8 x y 0 0 b

times_right : (a : ℕ) → Linear (times a)
times_right a x y = picked_sum (shifts 8 a) x y

times_left : (b : ℕ) → Linear (λ a. times a b)
times_left b x y = shifted_sum 8 x y b

sum_linear : (f g : ℕ → ℕ) → Linear f → Linear g → Linear (λ x. bit_xor (f x) (g x))
sum_linear f g lf lg x y = ap₂ bit_xor (lf x y) (lg x y) ∙ xor_swap (f x) (f y) (g x) (g y)

-- the remainder, and the multiple of the modulus that was taken off
abbrev whole : ℕ → ℕ → ℕ
whole a b = bit_xor (product a b) (times modulus (quotient a b))

whole_right : (a : ℕ) → Linear (whole a)
whole_right a = sum_linear (product a) (λ b. times modulus (quotient a b)) (by_right a) (after (times modulus) (quotient a) (times_right modulus) (quotient_right a))

whole_left : (b : ℕ) → Linear (λ a. whole a b)
whole_left b = sum_linear (λ a. product a b) (λ a. times modulus (quotient a b)) (by_left b) (after (times modulus) (λ a. quotient a b) (times_right modulus) (quotient_left b))

all_fit : Tested times whole
unfolding product quotient
all_fit = refl

times_whole : (a b : ℕ) → a < 256 → b < 256 → times a b ≡ whole a b
times_whole = agree_both times whole (times_right, times_left) (whole_right, whole_left) all_fit

pub remainders : Products
remainders a b ha hb = record { below = product_below a b ha; multiple = (quotient a b, times_whole a b ha hb) }
