-- How the boxes of a shelf lie in a row of symbols: one after another. Assumes nothing.
use Rattle.std.specs.Prelude.{◌≡◌, ℕ, ◌+◌, ◌-◌, ◌*◌, Bool, true, false, not, ◌&&◌, nat_le, nat_lt, if◌then◌else◌, List, [], ◌∷◌, ◌++◌, length, take, drop, replicate, slice_index_or, slice_range, slice_set, Option, Some, None}
use Rattle.std.specs.declared.ops.Range.{Range}
use Rattle.shelf.specs.Meaning.{Meaning, column}

-- so many boxes, the first of the marked ones, with so many rows each, whether or not that is a shelf
pub record Layout : Type 0 where
  pub marks : List Bool
  pub boxes : ℕ
  pub rows : ℕ

-- a box by its mark: it stands with its column, or is out
abbrev pub box_of : {T : Type 0} → Bool → List T → Option (List T)
box_of true xs = Some xs
box_of false xs = None

-- the boxes with these marks, l symbols each, from the start of xs on
abbrev pub cut : {T : Type 0} → ℕ → List Bool → List T → List (Option (List T))
cut l [] xs = []
cut l (mark ∷ marks) xs = box_of mark (take l xs) ∷ cut l marks (drop l xs)

-- a shelf may have n boxes of l symbols where there is room for so many
abbrev pub is_allowed : ℕ → ℕ → ℕ → Bool
is_allowed n l room = nat_le 1 n && (nat_le n 32 && (nat_le 1 l && (nat_le l 4096 && nat_le (n * l) room)))

-- the boxes have marks, and a row of len symbols has room for them
abbrev pub fits : Layout → ℕ → Bool
fits y len = nat_le y.boxes (length y.marks) && is_allowed y.boxes y.rows len

-- what there is of them in a row of len symbols: no boxes without rows, if they do not fit
abbrev pub boxes_in : Layout → ℕ → ℕ
boxes_in y len = if fits y len then y.boxes else 0

abbrev pub rows_in : Layout → ℕ → ℕ
rows_in y len = if fits y len then y.rows else 0

-- the shelf in the row xs
abbrev pub laid : {T : Type 0} → Layout → List T → Meaning T
laid y xs = record { rows = rows_in y (length xs); boxes = cut (rows_in y (length xs)) (take (boxes_in y (length xs)) y.marks) xs }

-- b is the number of a box
abbrev pub is_numbered : Layout → ℕ → ℕ → Bool
is_numbered y len b = nat_le 1 b && nat_le b (boxes_in y len)

-- box b is marked as standing
abbrev pub is_marked : Layout → ℕ → Bool
is_marked y b = slice_index_or y.marks (b - 1) false

-- box b stands
abbrev pub stands_in : Layout → ℕ → ℕ → Bool
stands_in y len b = is_numbered y len b && is_marked y b

-- box b is one that is out
abbrev pub is_out_in : Layout → ℕ → ℕ → Bool
is_out_in y len b = is_numbered y len b && not (is_marked y b)

-- where the column of box b begins, at l rows each
abbrev pub start_of : ℕ → ℕ → ℕ
start_of l b = (b - 1) * l

-- where it ends
abbrev pub end_of : ℕ → ℕ → ℕ
end_of l b = start_of l b + l

-- where row a of box b lies, if the box stands and has the row
abbrev pub place_in : Layout → ℕ → ℕ → ℕ → Option ℕ
place_in y len b a = if stands_in y len b && nat_lt a (rows_in y len) then Some (start_of (rows_in y len) b + a) else None

-- where n rows of box b from row `from` on lie, if the box stands and has so many
abbrev pub places_in : Layout → ℕ → ℕ → ℕ → ℕ → Option (Range ℕ)
places_in y len b from n =
    if stands_in y len b && nat_le (from + n) (rows_in y len) then Some (record { start = start_of (rows_in y len) b + from; end = start_of (rows_in y len) b + from + n }) else None

-- where the column of box b will lie, if the box is out
abbrev pub room_in : Layout → ℕ → ℕ → Option (Range ℕ)
room_in y len b = if is_out_in y len b then Some (record { start = start_of (rows_in y len) b; end = end_of (rows_in y len) b }) else None

-- the layout with another mark on box b
abbrev pub with_mark : Layout → ℕ → Bool → Layout
with_mark y b mark = record y { marks = slice_set y.marks (b - 1) mark }

-- the row xs with x in the places from start to end
abbrev pub filled : {T : Type 0} → List T → ℕ → ℕ → T → List T
filled xs start end x = take start xs ++ (replicate (end - start) x ++ drop end xs)

-- a shelf of n boxes of l symbols begins with all of them out, and without boxes where there is not room for so many
abbrev pub all_out : {T : Type 0} → ℕ → ℕ → ℕ → Meaning T
all_out n l room = if is_allowed n l room then record { rows = l; boxes = replicate n None } else record { rows = 0; boxes = [] }

-- a row of symbols has the column of each box that stands in its place
abbrev pub Keeps : {T : Type 0} → Meaning T → List T → Type 0
Keeps {T} m xs = (b : ℕ) (c : List T) → column m b ≡ Some c → slice_range xs ((b - 1) * m.rows) (b * m.rows) ≡ c
