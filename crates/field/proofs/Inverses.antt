-- Inverses modulo a prime. Assumes nothing.
use Rattle.std.proofs.Common.{◌≡◌, ℕ, zero, suc, ◌+◌, ◌-◌, ◌*◌, ◌/◌, ◌%◌, ◌^◌, ◌<◌, ◌≤◌, sym, ap, ◌∙◌, subst, inl, inr, mul-le-mul_right, mod-lt, mod-eq_of_lt, add-mul, eq-or-lt_of_le, pow-suc, mul-one, div-le_self, add-one, arith}
use Rattle.std.proofs.lemmas.Nat.{mul-mod_first, mul-mod_second}
use Rattle.std.proofs.Math.Nat.{add-mod_left, add-mod_right, mul-add-mod_self_left}
use Rattle.field.specs.Residues.{Halved, Prime}

-- p is q·a and a remainder, so the remainder is p − q times a
pub remainder : (p a : ℕ) → 0 < a → a ≤ p → ((p - p / a) * a) % p ≡ p % a
remainder p a pos h =
    let q = p / a in
    let small : q ≤ p = div-le_self p a in
    let sides : (p - q) * a + q * a ≡ p * a = sym (add-mul (p - q) q a) ∙ ap (λ n. n * a) (omega arith) in
    let more : (p - q) * a + p ≡ p * a + p % a = omega arith in
    sym (add-mod_right ((p - q) * a) p) ∙ ap (λ n. n % p) more ∙ mul-add-mod_self_left p a (p % a) ∙ mod-eq_of_lt (omega arith)

-- and what it lacks of a is q + 1 times a
pub lacking : (p a : ℕ) → 0 < a → 0 < p % a → a ≤ p → ((p / a + 1) * a) % p ≡ a - p % a
lacking p a pos some h =
    let more : (p / a + 1) * a ≡ p + (a - p % a) = omega arith in
    ap (λ n. n % p) more ∙ add-mod_left p (a - p % a) ∙ mod-eq_of_lt (omega arith)

-- if f takes x to a, and m takes a to b, then f·m takes x to b
chained : (p f m x a b : ℕ) → (f * x) % p ≡ a → (m * a) % p ≡ b → (((f * m) % p) * x) % p ≡ b
chained p f m x a b e e' =
    let swap : f * m * x ≡ m * (f * x) = omega arith in
    mul-mod_first (f * m) x p ∙ ap (λ n. n % p) swap ∙ sym (mul-mod_second m (f * x) p) ∙ ap (λ n. (m * n) % p) e ∙ e'

-- a prime leaves a remainder
pub remainder_positive : (p a : ℕ) → Prime p → 1 < a → a < p → 0 < p % a
remainder_positive p a prime h k = omega (arith, prime a h k)

-- a turn: m takes a to b, at most half of it
pub halved : (p a f m b g : ℕ) → 0 < b → b + b ≤ a → 0 < p → (m * a) % p ≡ b → g ≡ (f * m) % p → Halved p a f b g
halved p a f m b g some half pos e is = record {
  some = some;
  half = half;
  below = subst (λ (n : ℕ). n < p) (sym is) (mod-lt (f * m) pos);
  takes = λ x h. ap (λ n. (n * x) % p) is ∙ chained p f m x a b h e;
}

-- k halvings of x, and one more
pub halvings_more : (k a b x : ℕ) → b + b ≤ a → a * 2 ^ k ≤ x → b * 2 ^ (k + 1) ≤ x
halvings_more k a b x h e =
    let twice : 2 ^ (k + 1) ≡ 2 ^ k * 2 = ap (λ n. 2 ^ n) (add-one k) ∙ pow-suc 2 k in
    let double : b * 2 ≤ a = omega arith in
    omega (arith, ap (λ n. b * n) twice, mul-le-mul_right (2 ^ k) double)

module _ (p : ℕ) (prime : Prime p) where
  below : (n a : ℕ) → a ≤ n → 0 < a → a < p → (y : ℕ) × ((a * y) % p ≡ 1)
  below zero a h pos lt = absurd (omega arith)
  below (suc n) a h pos lt =
      elim (eq-or-lt_of_le pos) [
        | inl e ↦ (1, ap (λ k. k % p) (mul-one a ∙ sym e) ∙ mod-eq_of_lt (omega arith))
        | inr l ↦
            let r = p % a in
            let m = p - p / a in
            let low : r < a = mod-lt p pos in
            let found = below n r (omega arith) (remainder_positive p a prime l lt) (omega arith) in
            let y = found.0 in
            let swap : a * (m * y) ≡ m * a * y = omega arith in
            (m * y, ap (λ k. k % p) swap ∙ sym (mul-mod_first (m * a) y p) ∙ ap (λ k. (k * y) % p) (remainder p a pos (omega arith)) ∙ found.1)
      ]

  -- every number from 1 below a prime has an inverse
  pub inverse_of : (a : ℕ) → 0 < a → a < p → (y : ℕ) × ((a * y) % p ≡ 1)
  inverse_of a pos lt = below a a (omega arith) pos lt
