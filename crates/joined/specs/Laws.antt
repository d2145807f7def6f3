-- What joining makes of the boxes of two shelves, and of three, bracketed either way. Assumes nothing.
use Rattle.std.specs.Prelude.{◌≡◌, ◌≢◌, ℕ, ◌+◌, ◌-◌, ◌≤◌, ◌<◌, true, ◌++◌}
use Rattle.shelf.specs.Meaning.{IsShelf, Meaning, box_count, column}
use Rattle.joined.specs.Joining.{is_joinable, joined, no_boxes}

-- the boxes of m, and then those of k, renumbered from the count of m on
pub record JoinsBoxes {T : Type 0} (m k : Meaning T) : Type 0 where
  pub rows : (joined m k).rows ≡ m.rows
  pub counts : box_count (joined m k) ≡ box_count m + box_count k
  pub first : (b : ℕ) → b ≤ box_count m → column (joined m k) b ≡ column m b
  pub second : (b : ℕ) → box_count m < b → column (joined m k) b ≡ column k (b - box_count m)

-- two shelves are joined if they go together, and else there are no boxes
pub record Joins (T : Type 0) : Type 0 where
  pub together : (m k : Meaning T) → m.rows ≡ k.rows → box_count m + box_count k ≤ 32 → JoinsBoxes m k
  pub other_lengths : (m k : Meaning T) → m.rows ≢ k.rows → joined m k ≡ no_boxes
  pub too_many : (m k : Meaning T) → 32 < box_count m + box_count k → joined m k ≡ no_boxes

-- three shelves, of which the first two are joined first
abbrev pub first_two : {T : Type 0} → Meaning T → Meaning T → Meaning T → Meaning T
first_two m k j = joined (joined m k) j

-- three shelves, of which the last two are joined first
abbrev pub last_two : {T : Type 0} → Meaning T → Meaning T → Meaning T → Meaning T
last_two m k j = joined m (joined k j)

-- the boxes of three shelves, one after another
abbrev pub all_three : {T : Type 0} → Meaning T → Meaning T → Meaning T → Meaning T
all_three m k j = record { rows = m.rows; boxes = m.boxes ++ (k.boxes ++ j.boxes) }

-- Three that go together are their boxes in a row, and too many are none, bracketed either way. So the two sides are the
-- same where neither inner joining is refused. On shelves, which have no boxes without rows, they are always the same.
pub record Associates (T : Type 0) : Type 0 where
  pub together : (m k j : Meaning T) → m.rows ≡ k.rows → k.rows ≡ j.rows → box_count m + box_count k + box_count j ≤ 32 → (first_two m k j ≡ all_three m k j) × (last_two m k j ≡ all_three m k j)
  pub too_many : (m k j : Meaning T) → is_joinable m k ≡ true → is_joinable k j ≡ true → 32 < box_count m + box_count k + box_count j → (first_two m k j ≡ no_boxes) × (last_two m k j ≡ no_boxes)
  pub neither_refused : (m k j : Meaning T) → is_joinable m k ≡ true → is_joinable k j ≡ true → first_two m k j ≡ last_two m k j
  pub shelves : (m k j : Meaning T) → IsShelf m → IsShelf k → IsShelf j → first_two m k j ≡ last_two m k j
