-- The file of a cabinet of which some boxes stand and others are out, whatever those that stand hold. Assumes nothing.
use Rattle.std.specs.Prelude.{◌≡◌, ℕ, zero, suc, ◌+◌, ◌<◌, Bool, true, if◌then◌else◌}
use Rattle.code.specs.Codes.{Code, Column, File, data_boxes, column, Alike}
use Rattle.code.specs.Laws.{Same}

-- how many of the boxes in the places below b stand
abbrev pub standing : (ℕ → Bool) → ℕ → ℕ
standing stands zero = 0
standing stands (suc b) = if stands b then suc (standing stands b) else standing stands b

module _ {A : Type 0} (c : Code A) (stands : ℕ → Bool) where
  -- box b is one of the first boxes that stand, as many as there are data boxes
  abbrev pub Counts : ℕ → Type 0
  Counts b = (stands b ≡ true) × (standing stands b < data_boxes c)

  -- the file f has the columns g in these boxes
  abbrev pub FitsThem : (ℕ → Column c) → File c → Type 0
  FitsThem g f = (b : ℕ) → b < data_boxes c + 2 → Counts b → Alike c (column c f b) (g b)

  -- and it is the one file that has them
  pub record FileOf (g : ℕ → Column c) (f : File c) : Type 0 where
    pub has : FitsThem g f
    pub only : (f' : File c) → FitsThem g f' → Same c f' f
