-- What two shelves mean as one: the boxes of the first, and then those of the second. Assumes nothing.
use Rattle.std.specs.Prelude.{◌+◌, Bool, ◌&&◌, ◌==◌, nat_le, if◌then◌else◌, [], ◌++◌}
use Rattle.shelf.specs.Meaning.{Meaning, box_count}

-- two shelves go together if their columns are as long and they have at most 32 boxes
abbrev pub is_joinable : {T : Type 0} → Meaning T → Meaning T → Bool
is_joinable m k = (m.rows == k.rows) && nat_le (box_count m + box_count k) 32

-- the boxes of m and then those of k
abbrev pub both : {T : Type 0} → Meaning T → Meaning T → Meaning T
both m k = record { rows = m.rows; boxes = m.boxes ++ k.boxes }

-- a shelf with no boxes
abbrev pub no_boxes : {T : Type 0} → Meaning T
no_boxes = record { rows = 0; boxes = [] }

-- two shelves as one, which has no boxes unless they go together
abbrev pub joined : {T : Type 0} → Meaning T → Meaning T → Meaning T
joined m k = if is_joinable m k then both m k else no_boxes
