-- The two shelves that a joined shelf is made of, and what becomes of each. Assumes nothing.
use Rattle.std.specs.Prelude.{ℕ, ◌-◌, if◌then◌else◌}
use Rattle.shelf.specs.Meaning.{Meaning, box_count}
use Rattle.joined.specs.declared.Joined.{Joined}
use Rattle.joined.specs.Joining.{is_joinable}

-- the two shelves themselves
abbrev pub parts : {A B : Type 0} → Joined A B → A × B
parts j = (j.first, j.second)

-- what the two shelves mean, each by itself
abbrev pub apart : {A B T : Type 0} → (A → Meaning T) → (B → Meaning T) → Joined A B → Meaning T × Meaning T
apart f g j = (f j.first, g j.second)

-- f done to box b of the two as one: its number is b in the first or b - count in the second, and there is no such box in the other
abbrev pub change_apart : {T : Type 0} → (Meaning T → ℕ → Meaning T) → Meaning T × Meaning T → ℕ → Meaning T × Meaning T
change_apart f p b = if is_joinable p.0 p.1 then (f p.0 b, f p.1 (b - box_count p.0)) else p
