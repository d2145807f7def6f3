-- What a shelf means: how many rows its boxes have and, for each box from the first on, its column, or that it is out. Assumes nothing.
use Rattle.std.specs.Prelude.{◌≡◌, ℕ, zero, suc, ◌≤◌, Bool, not, ◌&&◌, nat_le, nat_lt, List, [], ◌∷◌, length, replicate, slice_get, slice_set, Option, Some, None, is_some}

pub record Meaning (T : Type 0) : Type 0 where
  pub rows : ℕ
  pub boxes : List (Option (List T))

abbrev pub box_count : {T : Type 0} → Meaning T → ℕ
box_count m = length m.boxes

-- what lies in a place of a list of boxes, counted from 0; nothing lies outside
abbrev pub in_place : {C : Type 0} → List (Option C) → ℕ → Option C
in_place [] i = None
in_place (c ∷ cs) zero = c
in_place (c ∷ cs) (suc i) = in_place cs i

-- the list with f applied in one place
abbrev pub with_place : {C : Type 0} → List (Option C) → ℕ → (Option C → Option C) → List (Option C)
with_place [] i f = []
with_place (c ∷ cs) zero f = f c ∷ cs
with_place (c ∷ cs) (suc i) f = c ∷ with_place cs i f

-- the same by the numbers of boxes, which count from 1
abbrev pub in_box : {C : Type 0} → List (Option C) → ℕ → Option C
in_box cs zero = None
in_box cs (suc i) = in_place cs i

abbrev pub with_box : {C : Type 0} → List (Option C) → ℕ → (Option C → Option C) → List (Option C)
with_box cs zero f = cs
with_box cs (suc i) f = with_place cs i f

-- the column of box b, if it stands
abbrev pub column : {T : Type 0} → Meaning T → ℕ → Option (List T)
column m b = in_box m.boxes b

-- the shelf with f applied to box b, if there is one
abbrev pub change : {T : Type 0} → Meaning T → ℕ → (Option (List T) → Option (List T)) → Meaning T
change m b f = record { rows = m.rows; boxes = with_box m.boxes b f }

-- b is the number of a box
abbrev pub is_box : {T : Type 0} → Meaning T → ℕ → Bool
is_box m b = nat_le 1 b && nat_le b (box_count m)

abbrev pub is_standing : {T : Type 0} → Meaning T → ℕ → Bool
is_standing m b = is_some (column m b)

abbrev pub is_out : {T : Type 0} → Meaning T → ℕ → Bool
is_out m b = is_box m b && not (is_standing m b)

-- box b stands, and a is one of its rows
abbrev pub has_row : {T : Type 0} → Meaning T → ℕ → ℕ → Bool
has_row m b a = is_standing m b && nat_lt a m.rows

abbrev pub symbol_of : {T : Type 0} → Option (List T) → ℕ → Option T
symbol_of None a = None
symbol_of (Some xs) a = slice_get xs a

abbrev pub with_row : {T : Type 0} → ℕ → T → Option (List T) → Option (List T)
with_row a x None = None
with_row a x (Some xs) = Some (slice_set xs a x)

abbrev pub nothing : {C : Type 0} → Option C → Option C
nothing c = None

abbrev pub unless_standing : {C : Type 0} → C → Option C → Option C
unless_standing d None = Some d
unless_standing d (Some c) = Some c

-- the symbol in row a of box b
abbrev pub symbol_at : {T : Type 0} → Meaning T → ℕ → ℕ → Option T
symbol_at m b a = symbol_of (column m b) a

-- the shelf with the symbol x in row a of box b, if that stands
abbrev pub with_symbol : {T : Type 0} → Meaning T → ℕ → ℕ → T → Meaning T
with_symbol m b a x = change m b (with_row a x)

-- the shelf with box b out
abbrev pub with_out : {T : Type 0} → Meaning T → ℕ → Meaning T
with_out m b = change m b nothing

-- the shelf with box b standing: if it was out, with x in every row
abbrev pub with_standing : {T : Type 0} → Meaning T → ℕ → T → Meaning T
with_standing m b x = change m b (unless_standing (replicate m.rows x))

-- every column has l rows
abbrev pub AllHave : {T : Type 0} → ℕ → List (Option (List T)) → Type 0
AllHave l [] = Unit {0}
AllHave l (None ∷ cs) = AllHave l cs
AllHave l (Some xs ∷ cs) = (length xs ≡ l) × AllHave l cs

-- what every shelf keeps to; there are no boxes without rows
pub record IsShelf {T : Type 0} (m : Meaning T) : Type 0 where
  pub few : box_count m ≤ 32
  pub some : m.rows ≡ 0 → box_count m ≡ 0
  pub short : m.rows ≤ 4096
  pub full : AllHave m.rows m.boxes
