-- What the slices of a program hold, as columns, files and halves. Assumes nothing.
use Rattle.std.specs.Prelude.{◌≡◌, ℕ, ◌+◌, ◌*◌, ◌<◌, List, map, slice_index_or}
use Rattle.field.specs.Symbols.{Symbols}

-- the row by row sum of two columns
abbrev pub added : (Y : Symbols) → (ℕ → Y.Symbol) → (ℕ → Y.Symbol) → ℕ → Y.Symbol
added Y C E a = Y.ring.plus (C a) (E a)

module _ (Y : Symbols) {S : Type 0} (value : S → Y.Symbol) where
  -- the symbol in each place
  abbrev pub at : List S → ℕ → Y.Symbol
  at xs a = slice_index_or (map value xs) a Y.ring.zero

  -- part after part of n symbols: the symbol in place a of part b
  abbrev pub parts : ℕ → List S → ℕ → ℕ → Y.Symbol
  parts n xs b a = at xs (b * n + a)

  -- the first n places hold the column C
  abbrev pub Holds : ℕ → List S → (ℕ → Y.Symbol) → Type 0
  Holds n xs C = (a : ℕ) → a < n → at xs a ≡ C a
