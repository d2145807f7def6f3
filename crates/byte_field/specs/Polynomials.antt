-- Bytes as polynomials over two elements: digit i is the coefficient of x^i. Assumes nothing.
use Rattle.std.specs.Prelude.{◌≡◌, ℕ, zero, suc, ◌*◌, ◌<◌, List, [], ◌∷◌, bit_xor}
use Rattle.byte_field.specs.Product.{picked, product}

-- a, a times x, and so on: k polynomials
abbrev pub shifts : ℕ → ℕ → List ℕ
shifts zero a = []
shifts (suc k) a = a ∷ shifts k (a * 2)

-- the product of two polynomials, of which the second has at most eight terms
abbrev pub times : ℕ → ℕ → ℕ
times a b = picked (shifts 8 a) b

-- x^8 + x^4 + x^3 + x + 1
abbrev pub modulus : ℕ
modulus = 0x11b

-- r is the remainder of the product of a and b by the modulus: it has degree below 8, and differs from the product by a
-- multiple of the modulus
pub record Remainder (a b r : ℕ) : Type 0 where
  pub below : r < 256
  pub multiple : (k : ℕ) × (times a b ≡ bit_xor r (times modulus k))

-- the product of bytes is that of FIPS 197
abbrev pub Products : Type 0
Products = (a b : ℕ) → a < 256 → b < 256 → Remainder a b (product a b)
