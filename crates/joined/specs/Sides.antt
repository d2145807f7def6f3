-- On which side of a joined shelf a box is found. Assumes nothing.
use Rattle.std.specs.Prelude.{ℕ, ◌-◌, nat_le, if◌then◌else◌}
use Rattle.shelf.specs.Meaning.{Meaning, box_count}
use Rattle.joined.specs.declared.Side.{Side}
use Rattle.joined.specs.declared.Side.TheVariants.{First, Second, Neither}
use Rattle.joined.specs.Joining.{is_joinable}

-- where box b is found, and under which number
abbrev pub side_of : {T : Type 0} → Meaning T → Meaning T → ℕ → Side
side_of m k b = if is_joinable m k then (if nat_le b (box_count m) then First b else Second (b - box_count m)) else Neither
