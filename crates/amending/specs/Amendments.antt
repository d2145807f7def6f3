-- A file amended in one symbol, by small writes to the boxes of its stripe. Boxes go by their places, from 0. Assumes nothing.
use Rattle.std.specs.Prelude.{◌≡◌, ℕ, ◌*◌, ◌^◌, ◌<◌, ◌&&◌, ◌==◌, nat_le, if◌then◌else◌, List}
use Rattle.field.specs.Symbols.{Symbols}
use Rattle.code.specs.Blocks.{◌∸◌}
use Rattle.code.specs.Codes.{File, column, full}
use Rattle.code.specs.Contents.{parts}
use Rattle.refusal.specs.Refusals.{Reason, where_holds}
use Rattle.refusal.specs.declared.Refusal.TheVariants.{NoRow}
use Rattle.shelf.specs.Meaning.{Meaning}
use Rattle.stripe.specs.Stripes.{HoldsFile, StripeFile}
use Rattle.amending.specs.Changes.{Moved, single, touches}

-- a row of a column of n rows is none of them
abbrev pub no_row : ℕ → ℕ → Reason
no_row n a = where_holds (nat_le n a) NoRow

-- the file with x in row a of box b
abbrev pub with_cell : (Y : Symbols) → ℕ → ℕ → Y.Symbol → (ℕ → ℕ → Y.Symbol) → ℕ → ℕ → Y.Symbol
with_cell Y b a x f e r = if e == b && r == a then x else f e r

module _ (Y : Symbols) {T : Type 0} (value : T → Y.Symbol) (m from : ℕ) where
  -- row a of data box b was amended to x; the buffer shows the file as it is then
  pub record Amended (b a : ℕ) (x : Y.Symbol) (old new : Meaning T) (buffer : List T) : Type 0 where
    -- the file as it was, whatever the boxes held
    pub file : File (full Y m)
    pub was : StripeFile Y value m from old file
    pub buffered : (e : ℕ) → e < 3 * m → (r : ℕ) → r < 2 ^ m → parts Y value (2 ^ m) buffer e r ≡ with_cell Y b a x file e r
    -- every standing box has moved by its column of the change
    pub moved : Moved Y value m from (column (full Y m) (single Y b a (◌∸◌ Y.ring x (file b a)))) (touches (full Y m) b a) old new
    -- so the stripe's file is the one in the buffer, and the boxes hold it if they held the file before
    pub now : StripeFile Y value m from new (parts Y value (2 ^ m) buffer)
    pub holds : HoldsFile Y value m from old file → HoldsFile Y value m from new (parts Y value (2 ^ m) buffer)
