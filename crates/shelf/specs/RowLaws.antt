-- What holds of rows that are read and written together, on every shelf. Assumes nothing.
use Rattle.std.specs.Prelude.{◌≡◌, ◌≢◌, ℕ, ◌+◌, ◌-◌, ◌≤◌, ◌<◌, ◌⊎◌, true, false, List, ◌++◌, length, slice_get}
use Rattle.shelf.specs.Meaning.{IsShelf, Meaning, box_count, column, is_standing, symbol_at}
use Rattle.shelf.specs.Rows.{has_rows, rows_at, with_rows}

-- n rows of box b from row `from` on and k rows of box d from row `other` on have none in common
abbrev pub Apart : ℕ → ℕ → ℕ → ℕ → ℕ → ℕ → Type 0
Apart b from n d other k = (b ≢ d) ⊎ ((from + n ≤ other) ⊎ (other + k ≤ from))

-- what holds of every write, and of what is read after it
pub record RowsStand (T : Type 0) : Type 0 where
  -- the rows that are read are the box's, as many as are asked for
  pub rows_counted : (m : Meaning T) (b from n : ℕ) → IsShelf m → has_rows m b from n ≡ true → length (rows_at m b from n) ≡ n
  pub row_read : (m : Meaning T) (b from n i : ℕ) → i < n → slice_get (rows_at m b from n) i ≡ symbol_at m b (from + i)
  -- a write without the rows changes nothing
  pub refused : (m : Meaning T) (b from : ℕ) (xs : List T) → IsShelf m → has_rows m b from (length xs) ≡ false → with_rows m b from xs ≡ m
  -- what is written is read back, also row by row
  pub read_back : (m : Meaning T) (b from n : ℕ) (xs : List T) → IsShelf m → length xs ≡ n → has_rows m b from n ≡ true → rows_at (with_rows m b from xs) b from n ≡ xs
  pub row_written : (m : Meaning T) (b from : ℕ) (xs : List T) (a : ℕ) → IsShelf m → has_rows m b from (length xs) ≡ true → from ≤ a → a < from + length xs
      → symbol_at (with_rows m b from xs) b a ≡ slice_get xs (a - from)
  -- the box's other rows stay, and so do all other boxes
  pub row_stays : (m : Meaning T) (b from : ℕ) (xs : List T) (a : ℕ) → (a < from) ⊎ (from + length xs ≤ a) → symbol_at (with_rows m b from xs) b a ≡ symbol_at m b a
  pub column_stays : (m : Meaning T) (b from : ℕ) (xs : List T) (d : ℕ) → b ≢ d → column (with_rows m b from xs) d ≡ column m d
  pub rows_stay : (m : Meaning T) (b from : ℕ) (xs : List T) (d other n : ℕ) → Apart b from (length xs) d other n → rows_at (with_rows m b from xs) d other n ≡ rows_at m d other n
  -- no box comes or goes, and the sizes stay
  pub standing_stays : (m : Meaning T) (b from : ℕ) (xs : List T) (d : ℕ) → is_standing (with_rows m b from xs) d ≡ is_standing m d
  pub row_count_stays : (m : Meaning T) (b from : ℕ) (xs : List T) → (with_rows m b from xs).rows ≡ m.rows
  pub box_count_stays : (m : Meaning T) (b from : ℕ) (xs : List T) → box_count (with_rows m b from xs) ≡ box_count m
  pub has_rows_stays : (m : Meaning T) (b from : ℕ) (xs : List T) (d other n : ℕ) → has_rows (with_rows m b from xs) d other n ≡ has_rows m d other n
  pub still_shelf : (m : Meaning T) (b from : ℕ) (xs : List T) → IsShelf m → IsShelf (with_rows m b from xs)
  -- a write of what is there changes nothing, and of two writes of the same rows the later one counts
  pub same_written : (m : Meaning T) (b from n : ℕ) → with_rows m b from (rows_at m b from n) ≡ m
  pub written_again : (m : Meaning T) (b from : ℕ) (xs ys : List T) → length xs ≡ length ys → with_rows (with_rows m b from xs) b from ys ≡ with_rows m b from ys
  -- two writes of adjoining rows are one, and two of rows apart may go in either order
  pub adjoining : (m : Meaning T) (b from : ℕ) (xs ys : List T) → IsShelf m → has_rows m b from (length xs + length ys) ≡ true
      → with_rows (with_rows m b from xs) b (from + length xs) ys ≡ with_rows m b from (xs ++ ys)
  pub apart : (m : Meaning T) (b from : ℕ) (xs : List T) (d other : ℕ) (ys : List T) → Apart b from (length xs) d other (length ys)
      → with_rows (with_rows m b from xs) d other ys ≡ with_rows (with_rows m d other ys) b from xs
