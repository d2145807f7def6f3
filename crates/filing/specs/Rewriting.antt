-- Columns of a file that are written to boxes of a stripe. Boxes go by their places, from 0. Assumes nothing.
use Rattle.std.specs.Prelude.{◌≡◌, ℕ, suc, Bool, true, false}
use Rattle.field.specs.Symbols.{Symbols}
use Rattle.code.specs.Codes.{File, column, full, Alike}
use Rattle.shelf.specs.Meaning.{Meaning, column as box_column}
use Rattle.stripe.specs.Stripes.{OnlyStripe, held}

-- the boxes that are asked for hold their columns of the file, and nothing else has changed
module _ (Y : Symbols) {T : Type 0} (value : T → Y.Symbol) (m from : ℕ) (f : File (full Y m)) (asked : ℕ → Bool) where
  pub record Rewritten (old new : Meaning T) : Type 0 where
    pub only : OnlyStripe m from old new
    pub holds : (b : ℕ) → asked b ≡ true → Alike (full Y m) (held Y value m from new b) (column (full Y m) f b)
    pub others : (b : ℕ) → asked b ≡ false → box_column new (suc b) ≡ box_column old (suc b)
