-- Rows and their binary digits. Assumes nothing.
use Rattle.std.specs.Prelude.{◌≡◌, ℕ, zero, suc, ◌+◌, ◌-◌, ◌*◌, ◌/◌, ◌%◌, ◌^◌, ◌<◌, Bool, true, false, ◌≢◌}

-- is a digit 1
abbrev pub odd : ℕ → Bool
odd zero = false
odd (suc n) = true

-- the digit of weight 2 ^ k of a row
abbrev pub digit : ℕ → ℕ → ℕ
digit k a = a / 2 ^ k % 2

-- the row with that digit 0 (false) or 1 (true), the others as they are: two partners differ in this digit alone
abbrev pub partner : ℕ → Bool → ℕ → ℕ
partner k false a = a - digit k a * 2 ^ k
partner k true a = a - digit k a * 2 ^ k + 2 ^ k

-- the j-th, from 0 and in rising order, of the rows whose digit of weight 2 ^ k is 0
abbrev pub lower : ℕ → ℕ → ℕ
lower k j = j / 2 ^ k * 2 ^ suc k + j % 2 ^ k

-- which pair, counted so, the row a belongs to: the row with that digit taken out
abbrev pub pair_of : ℕ → ℕ → ℕ
pair_of k a = a / 2 ^ suc k * 2 ^ k + a % 2 ^ k

-- What these definitions mean: the row with digit k set has that digit and all others as they were; the lower rows of
-- the pairs are those with digit 0, each once and in rising order, and the upper row of a pair is the lower's partner.
pub record Paired : Type 0 where
  pub set_digit : (k : ℕ) (d : Bool) (a : ℕ) → odd (digit k (partner k d a)) ≡ d
  pub set_others : (k l : ℕ) → (l ≢ k) → (d : Bool) (a : ℕ) → odd (digit l (partner k d a)) ≡ odd (digit l a)
  pub set_below : (m k : ℕ) (d : Bool) (a : ℕ) → k < m → a < 2 ^ m → partner k d a < 2 ^ m
  pub lower_digit : (k j : ℕ) → odd (digit k (lower k j)) ≡ false
  pub lower_rises : (k i j : ℕ) → i < j → lower k i < lower k j
  pub lower_all : (k a : ℕ) → odd (digit k a) ≡ false → (j : ℕ) × (lower k j ≡ a)
  pub lower_below : (m k j : ℕ) → k < m → j < 2 ^ (m - 1) → lower k j < 2 ^ m
  pub upper : (k j : ℕ) → partner k true (lower k j) ≡ lower k j + 2 ^ k
