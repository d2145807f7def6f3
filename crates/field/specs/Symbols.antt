-- What a field is to a contract: its symbols as mathematics has them, with all that each field owes. Assumes nothing.
use Rattle.std.specs.Prelude.{◌≡◌, ℕ, ◌<◌, ◌≤◌, ◌≢◌}
use Rattle.field.specs.Ring.{Ring}

pub record Symbols : Type 1 where
  pub Symbol : Type 0
  pub ring : Ring Symbol
  pub zero_not_one : ring.zero ≡ ring.one → ⊥
  -- symbols and the numbers below the size: each symbol has one number, and each number one symbol
  pub size : ℕ
  pub number : Symbol → ℕ
  pub number_below : (x : Symbol) → number x < size
  pub number_same : (x y : Symbol) → number x ≡ number y → x ≡ y
  pub numbered : (n : ℕ) → n < size → (x : Symbol) × (number x ≡ n)
  -- the marks from 1 to the mark count are distinct and not zero
  pub marks : ℕ
  pub mark : ℕ → Symbol
  pub mark_not_zero : (j : ℕ) → 1 ≤ j → j ≤ marks → mark j ≢ ring.zero
  pub mark_distinct : (i j : ℕ) → 1 ≤ i → i ≤ marks → 1 ≤ j → j ≤ marks → mark i ≡ mark j → i ≡ j
