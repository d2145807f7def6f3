-- A column as two rows of numbers, one for each pair of its rows along a digit. Assumes nothing.
use Rattle.std.specs.Prelude.{ℕ, if◌then◌else◌}
use Rattle.field.specs.Symbols.{Symbols}
use Rattle.code.specs.Blocks.{◌∸◌}
use Rattle.code.specs.Rows.{odd, digit, pair_of}

-- the column with number j of g in the lower row of pair j along the digit k, and number j of h in the upper
abbrev pub sides : {A : Type 0} → ℕ → (ℕ → A) → (ℕ → A) → ℕ → A
sides k g h a = if odd (digit k a) then h (pair_of k a) else g (pair_of k a)

-- the row by row difference of two columns
abbrev pub less : (Y : Symbols) → (ℕ → Y.Symbol) → (ℕ → Y.Symbol) → ℕ → Y.Symbol
less Y C E a = ◌∸◌ Y.ring (C a) (E a)
