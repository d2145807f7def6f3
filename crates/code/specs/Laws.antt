-- What the code promises: any two boxes are decoded, the halves suffice for a lost one, and none of their numbers can be spared. Assumes nothing.
use Rattle.std.specs.Prelude.{◌≡◌, ℕ, suc, ◌+◌, ◌-◌, ◌*◌, ◌^◌, ◌<◌, ◌≤◌, ◌≢◌}
use Rattle.field.specs.Ring.{Ring}
use Rattle.field.specs.Symbols.{Symbols}
use Rattle.code.specs.Codes.{Code, Proper, full, Column, File, data_boxes, column, half_for, helper, Alike, Restorable}

module _ {A : Type 0} (c : Code A) where
  -- two files are the same
  abbrev pub Same : File c → File c → Type 0
  Same f f' = (b : ℕ) → b < data_boxes c → Alike c (f b) (f' b)

  -- the file f has the columns g in all boxes but x and y
  abbrev pub HasColumns : ℕ → ℕ → File c → (ℕ → Column c) → Type 0
  HasColumns x y f g = (b : ℕ) → b < data_boxes c + 2 → (b ≢ x) → (b ≢ y) → Alike c (column c f b) (g b)

  -- two files have the same columns in all boxes but x and y
  abbrev pub AgreeBut : ℕ → ℕ → File c → File c → Type 0
  AgreeBut x y f f' = (b : ℕ) → b < data_boxes c + 2 → (b ≢ x) → (b ≢ y) → Alike c (column c f b) (column c f' b)

  -- whatever the columns of the boxes but x and y, exactly one file has them
  pub record Decodable (x y : ℕ) : Type 0 where
    pub exists : (g : ℕ → Column c) → (f : File c) × HasColumns x y f g
    pub only : (g : ℕ → Column c) (f f' : File c) → HasColumns x y f g → HasColumns x y f' g → Same f f'

  -- two files have the same halves for the lost box x but for number j of the helper in place h
  abbrev pub HalvesBut : ℕ → ℕ → ℕ → File c → File c → Type 0
  HalvesBut x h j f f' =
      (i : ℕ) → i < suc (data_boxes c) → (l : ℕ) → l < 2 ^ (c.size - 1) → (i ≡ h → l ≢ j)
      → half_for c x (column c f (helper c x i)) l ≡ half_for c x (column c f' (helper c x i)) l

  -- no number of the halves can be spared: whichever is left out, every file has another that differs in the lost column
  abbrev pub NoneToSpare : ℕ → Type 0
  NoneToSpare x =
      (h : ℕ) → h < suc (data_boxes c) → (j : ℕ) → j < 2 ^ (c.size - 1)
      → (f : File c) → (f' : File c) × HalvesBut x h j f f' × (Alike c (f x) (f' x) → ⊥)

  -- what the code promises
  pub record Laws : Type 0 where
    -- any two columns: from the other boxes, whatever they hold
    pub any_two : (x y : ℕ) → x < data_boxes c + 2 → y < data_boxes c + 2 → (x ≢ y) → Decodable x y
    -- any boxes as many as there are data boxes: files that agree in them are the same and agree in the other two
    pub any_boxes : (x y : ℕ) → x < data_boxes c + 2 → y < data_boxes c + 2 → (x ≢ y) → (f f' : File c) → AgreeBut x y f f'
        → Same f f' × ((b : ℕ) → b < data_boxes c + 2 → Alike c (column c f b) (column c f' b))
    pub halves : (x : ℕ) → x < data_boxes c → Restorable c x
    pub none_to_spare : (x : ℕ) → x < data_boxes c → NoneToSpare x

abbrev pub CodeStands : {A : Type 0} → Ring A → Type 0
CodeStands {A} R =
    (m kinds : ℕ) (mark : ℕ → A) → let c : Code A = record { ring = R; size = m; kinds = kinds; mark = mark } in Proper c → Laws c

-- and so for every cabinet whose field has 2m marks
abbrev pub CabinetsStand : Symbols → Type 0
CabinetsStand Y = (m : ℕ) → 1 ≤ m → 2 * m ≤ Y.marks → Laws (full Y m)
