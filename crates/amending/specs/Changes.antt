-- A change of one symbol of a file, and what it moves in a stripe of a shelf.
-- Boxes go by their places, from 0: box b has place b - 1. Assumes nothing.
use Rattle.std.specs.Prelude.{◌≡◌, ℕ, suc, ◌+◌, ◌*◌, ◌^◌, ◌<◌, Bool, true, false, not, ◌&&◌, ◌||◌, ◌==◌, if◌then◌else◌}
use Rattle.field.specs.Symbols.{Symbols}
use Rattle.code.specs.Codes.{Code, data_boxes, kind, shift}
use Rattle.code.specs.Rows.{digit, odd, partner}
use Rattle.code.specs.declared.Kind.{Kind}
use Rattle.code.specs.declared.Kind.TheVariants.{Lower, Upper, Sum}
use Rattle.shelf.specs.Meaning.{Meaning, symbol_at}
use Rattle.stripe.specs.Stripes.{OnlyStripe, held, stands}

-- zero but for d in row a of box b
abbrev pub single : (Y : Symbols) → ℕ → ℕ → Y.Symbol → ℕ → ℕ → Y.Symbol
single Y b a d e r = if e == b && r == a then d else Y.ring.zero

-- does a block of the kind carry what stands in a row, upper or lower, into the other row of the pair as well?
abbrev pub carries : Kind → Bool → Bool
carries Lower upper = upper
carries Upper upper = not upper
carries Sum upper = false

module _ {A : Type 0} (c : Code A) (b a : ℕ) where
  -- the digit of row a in the direction of box b, and the partner of the row
  abbrev pub upper : Bool
  upper = odd (digit (shift c b) a)

  abbrev pub other_row : ℕ
  other_row = partner (shift c b) (not upper) a

  -- the rows of the second parity box that row a of box b goes into
  abbrev pub in_image : ℕ → Bool
  in_image r = r == a || (carries (kind c b) upper && r == other_row)

  -- the places that the symbol in row a of box b goes into: row r of box e
  abbrev pub touches : ℕ → ℕ → Bool
  touches e r = ((e == b || e == data_boxes c) && r == a) || (e == suc (data_boxes c) && in_image r)

module _ (Y : Symbols) {T : Type 0} (value : T → Y.Symbol) (m from : ℕ) where
  -- every standing box has moved by its symbols of `by`, and no symbol has changed but in places that are touched
  pub record Moved (by : ℕ → ℕ → Y.Symbol) (touched : ℕ → ℕ → Bool) (old new : Meaning T) : Type 0 where
    pub symbols : (b : ℕ) → b < 3 * m + 2 → stands old b ≡ true → (a : ℕ) → a < 2 ^ m → held Y value m from new b a ≡ Y.ring.plus (held Y value m from old b a) (by b a)
    pub untouched : (b a : ℕ) → a < 2 ^ m → touched b a ≡ false → symbol_at new (suc b) (from + a) ≡ symbol_at old (suc b) (from + a)
    pub only : OnlyStripe m from old new
