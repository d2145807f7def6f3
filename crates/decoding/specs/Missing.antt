-- What a cabinet holds in the boxes that stand, and what a file holds before its missing columns are filled in. Assumes nothing.
use Rattle.std.specs.Prelude.{◌≡◌, ℕ, ◌<◌, Bool, true, ◌==◌, if◌then◌else◌, nat_lt}
use Rattle.code.specs.Codes.{Code, Column, File, data_boxes, Alike}
use Rattle.code.specs.Standing.{FileOf}
use Rattle.missing.specs.Missing.{present, source}
use Rattle.missing.specs.declared.Missing.{Missing}

module _ {A : Type 0} (c : Code A) where
  -- the file g has the columns that f has in the data boxes that stand
  pub record KeptStanding (stands : ℕ → Bool) (f g : File c) : Type 0 where
    pub each : (b : ℕ) → b < data_boxes c → stands b ≡ true → Alike c (g b) (f b)

  -- the columns of the data boxes and of the two parity boxes
  abbrev pub held : File c → Column c → Column c → ℕ → Column c
  held f first second b = if nat_lt b (data_boxes c) then f b else (if b == data_boxes c then first else second)

  -- of the columns g that the boxes hold, each place of the file has the one that tells it
  abbrev pub Sourced : Missing → (ℕ → Column c) → File c → Type 0
  Sourced missing g f = (b : ℕ) → b < data_boxes c → Alike c (f b) (g (source (data_boxes c) missing b))

  -- where f has them, whatever they are, the file f' is the one file of the boxes that are not missing
  pub record FilledIn (missing : Missing) (f f' : File c) : Type 0 where
    pub file : (g : ℕ → Column c) → Sourced missing g f → FileOf c (present missing) g f'
