-- Rows of one box of a shelf, read or written together: as many as a buffer is long, from one row on. Assumes nothing.
use Rattle.std.specs.Prelude.{ℕ, ◌+◌, Bool, ◌&&◌, nat_le, if◌then◌else◌, List, [], ◌++◌, length, take, drop, slice_range, Option, Some, None}
use Rattle.shelf.specs.Meaning.{Meaning, change, column, is_standing}

-- box b stands, and has n rows from row `from` on
abbrev pub has_rows : {T : Type 0} → Meaning T → ℕ → ℕ → ℕ → Bool
has_rows m b from n = is_standing m b && nat_le (from + n) m.rows

-- n symbols of a column, from row `from` on; none of a box that is out
abbrev pub rows_of : {T : Type 0} → Option (List T) → ℕ → ℕ → List T
rows_of None from n = []
rows_of (Some ys) from n = slice_range ys from (from + n)

-- the symbols in n rows of box b, from row `from` on
abbrev pub rows_at : {T : Type 0} → Meaning T → ℕ → ℕ → ℕ → List T
rows_at m b from n = rows_of (column m b) from n

-- the buffer xs, with the rows of box b from row `from` on if it has so many
abbrev pub rows_read : {T : Type 0} → Meaning T → ℕ → ℕ → List T → List T
rows_read m b from xs = if has_rows m b from (length xs) then rows_at m b from (length xs) else xs

-- the column ys, with xs in its rows from row `from` on if it has so many
abbrev pub overwritten : {T : Type 0} → ℕ → List T → List T → List T
overwritten from xs ys = if nat_le (from + length xs) (length ys) then take from ys ++ xs ++ drop (from + length xs) ys else ys

-- the same of a box, which may be out
abbrev pub with_stretch : {T : Type 0} → ℕ → List T → Option (List T) → Option (List T)
with_stretch from xs None = None
with_stretch from xs (Some ys) = Some (overwritten from xs ys)

-- the shelf with the symbols xs in the rows of box b from row `from` on, if that stands and has so many
abbrev pub with_rows : {T : Type 0} → Meaning T → ℕ → ℕ → List T → Meaning T
with_rows m b from xs = change m b (with_stretch from xs)
