-- The product of FIPS 197, section 4: of polynomials over two elements, modulo hexadecimal 11b. Assumes nothing.
use Rattle.std.specs.Prelude.{ℕ, zero, suc, ◌*◌, ◌/◌, ◌%◌, List, [], ◌∷◌, bit_xor}

-- d if the digit is not 0
abbrev pub pick : ℕ → ℕ → ℕ
pick zero d = 0
pick (suc s) d = d

-- a times hexadecimal 02: the eighth digit comes back as hexadecimal 1b
abbrev pub twice : ℕ → ℕ
twice a = bit_xor (a * 2 % 256) (pick (a / 128 % 2) 27)

abbrev pub doublings : ℕ → ℕ → List ℕ
doublings zero a = []
doublings (suc k) a = a ∷ doublings k (twice a)

-- the sum of those that the digits of b pick, the lowest digit first
abbrev pub picked : List ℕ → ℕ → ℕ
picked [] b = 0
picked (d ∷ ds) b = bit_xor (pick (b % 2) d) (picked ds (b / 2))

unfoldable pub product : ℕ → ℕ → ℕ
product a b = picked (doublings 8 a) b

-- f times the squares of s, of its square, and so on, k of them
unfoldable pub squares : ℕ → ℕ → ℕ → ℕ
squares zero s f = f
squares (suc k) s f = let t = product s s in squares k t (product f t)

-- the 254th power, as the product of the powers 2, 4, 8, .. 128: the 255th of each byte but 0 is 1
abbrev pub inverse : ℕ → ℕ
inverse a = squares 7 a 1
