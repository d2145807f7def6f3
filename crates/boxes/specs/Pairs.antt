-- The rows of a pair. Assumes nothing.
use Rattle.std.specs.Prelude.{◌≡◌, ℕ, ◌+◌, ◌-◌, ◌^◌, ◌<◌, ◌≤◌, Option, MatchOption}
use Rattle.code.specs.Rows.{lower}

-- low and high are the rows of pair j along the digit k, among the rows of m digits
pub record RowsOfPair (m k j low high : ℕ) : Type 0 where
  pub size : m ≤ 6
  pub digit : k < m
  pub pair : j < 2 ^ (m - 1)
  pub is_low : low ≡ lower k j
  pub is_high : high ≡ lower k j + 2 ^ k
  pub rising : low < high
  pub bound : high < 2 ^ m

-- a turn over the pairs along the digit k: pair i comes and pair i' is next, or none is left
abbrev pub NextPair : (m k i : ℕ) → Option (ℕ × ℕ) → ℕ → Type 0
NextPair m k i r i' = MatchOption r ((2 ^ (m - 1) ≤ i) × (i' ≡ i)) (λ p. RowsOfPair m k i p.0 p.1 × (i' ≡ i + 1))
