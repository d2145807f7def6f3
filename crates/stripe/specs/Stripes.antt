-- A stripe of a shelf: the 2 ^ m rows of every box from row `from` on. The boxes are those of a cabinet of size m.
-- Boxes go by their places, from 0: box b has place b - 1. Assumes nothing.
use Rattle.std.specs.Prelude.{◌≡◌, ℕ, suc, ◌+◌, ◌*◌, ◌^◌, ◌<◌, ◌≤◌, ◌⊎◌, Bool, true, not, ◌&&◌, ◌==◌, nat_le}
use Rattle.field.specs.Symbols.{Symbols}
use Rattle.code.specs.Codes.{File, column, full, Alike}
use Rattle.code.specs.Contents.{at}
use Rattle.code.specs.Standing.{FileOf}
use Rattle.refusal.specs.Refusals.{Reason, where_holds}
use Rattle.refusal.specs.declared.Refusal.TheVariants.{Shape}
use Rattle.shelf.specs.Meaning.{Meaning, box_count, is_standing, symbol_at}
use Rattle.shelf.specs.Rows.{rows_at}

-- does the box in place b stand?
abbrev pub stands : {T : Type 0} → Meaning T → ℕ → Bool
stands s b = is_standing s (suc b)

module _ {T : Type 0} (m from : ℕ) where
  -- the shelf has just the boxes of the cabinet, and all rows of the stripe
  abbrev pub has_stripe : Meaning T → Bool
  has_stripe s = (box_count s == 3 * m + 2) && nat_le (from + 2 ^ m) s.rows

  abbrev pub no_stripe : Meaning T → Reason
  no_stripe s = where_holds (not (has_stripe s)) Shape

  -- nothing but rows of the stripe has changed, and no box has come or gone
  pub record OnlyStripe (old new : Meaning T) : Type 0 where
    pub boxes : box_count new ≡ box_count old
    pub rows : new.rows ≡ old.rows
    pub stand : (b : ℕ) → is_standing new b ≡ is_standing old b
    pub elsewhere : (b a : ℕ) → (a < from) ⊎ (from + 2 ^ m ≤ a) → symbol_at new b a ≡ symbol_at old b a

module _ (Y : Symbols) {T : Type 0} (value : T → Y.Symbol) (m from : ℕ) where
  -- what the box in place b holds in the stripe
  abbrev pub held : Meaning T → ℕ → ℕ → Y.Symbol
  held s b = at Y value (rows_at s (suc b) from (2 ^ m))

  -- the file of the stripe: the one file with the columns of the first 3m boxes that stand, whatever these hold
  abbrev pub StripeFile : Meaning T → File (full Y m) → Type 0
  StripeFile s f = FileOf (full Y m) (stands s) (held s) f

  -- every standing box holds its column of the file
  abbrev pub HoldsFile : Meaning T → File (full Y m) → Type 0
  HoldsFile s f = (b : ℕ) → b < 3 * m + 2 → stands s b ≡ true → Alike (full Y m) (held s b) (column (full Y m) f b)
