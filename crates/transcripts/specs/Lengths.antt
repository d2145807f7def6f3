-- How much a cabinet takes, with none of anything where there is no such size. Assumes nothing.
use Rattle.std.specs.Prelude.{◌≡◌, ℕ, ◌≤◌, ◌*◌, ◌||◌, nat_lt, if◌then◌else◌}
use Rattle.shelf.specs.Meaning.{Meaning, box_count}
use Rattle.ledger.specs.Calls.{boxes_of, column_length, file_length, half_length}

-- n, or 0 where m is outside 1 to 6
abbrev pub where_sized : ℕ → ℕ → ℕ
where_sized m n = if nat_lt m 1 || nat_lt 6 m then 0 else n

-- how many boxes a shelf has for a cabinet of size m, and how many rows; how many symbols a file has, and a half
abbrev pub boxes_for : ℕ → ℕ
boxes_for m = where_sized m (boxes_of m)

abbrev pub rows_for : ℕ → ℕ
rows_for m = where_sized m (column_length m)

abbrev pub file_for : ℕ → ℕ
file_for m = where_sized m (file_length m)

abbrev pub half_for : ℕ → ℕ
half_for m = where_sized m (half_length m)

-- a shelf of these sizes
pub record IsShelfFor {T : Type 0} (m : ℕ) (s : Meaning T) : Type 0 where
  pub boxes : box_count s ≡ boxes_for m
  pub rows : s.rows ≡ rows_for m

-- the numbers of data boxes, parity boxes, rows and pairs of rows that a program keeps
pub record AreLengths (m data_boxes parities rows pairs : ℕ) : Type 0 where
  pub boxes : (data_boxes ≡ where_sized m (3 * m)) × (data_boxes ≤ 18)
  pub two : (parities ≡ where_sized m 2) × (parities ≤ 2)
  pub column : (rows ≡ rows_for m) × (rows ≤ 64)
  pub half : (pairs ≡ half_for m) × (pairs ≤ 64)
