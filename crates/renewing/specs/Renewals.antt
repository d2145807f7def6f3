-- The renewal of a lost data box on a shelf: the halves that the other boxes send, and the column that these give.
-- Boxes go by their places, from 0: box b has place b - 1. Assumes nothing.
use Rattle.std.specs.Prelude.{◌≡◌, ◌≢◌, ℕ, zero, suc, ◌+◌, ◌-◌, ◌*◌, ◌^◌, ◌<◌, ◌≤◌, ◌⊎◌, Bool, true, not, ◌&&◌, ◌||◌, ◌==◌, nat_lt, IsSomeAnd}
use Rattle.field.specs.Symbols.{Symbols}
use Rattle.code.specs.Codes.{Alike, File, Given, full, half_for, helper}
use Rattle.code.specs.Codes.{column as column_of}
use Rattle.refusal.specs.Refusals.{Reason, where_holds}
use Rattle.refusal.specs.declared.Refusal.TheVariants.{NotRenewable}
use Rattle.shelf.specs.Meaning.{Meaning, box_count, column, is_standing, symbol_at}
use Rattle.stripe.specs.Stripes.{held}

-- every box of n but that in place x stands
abbrev pub others_stand : (ℕ → Bool) → ℕ → ℕ → Bool
others_stand stands x zero = true
others_stand stands x (suc b) = (b == x || stands b) && others_stand stands x b

-- of n data boxes and two parity boxes, halves do not renew box `lost`: it is a parity box, or another box is out
abbrev pub not_renewable : ℕ → ℕ → (ℕ → Bool) → Reason
not_renewable n lost stands = where_holds (nat_lt n lost || not (others_stand stands (lost - 1) (n + 2))) NotRenewable

module _ (Y : Symbols) {T : Type 0} (value : T → Y.Symbol) (m from : ℕ) where
  -- the helpers' halves for the lost box x, helpers in rising order: number j of the helper in place h is g h j
  abbrev pub HalvesOf : ℕ → Meaning T → (ℕ → ℕ → Y.Symbol) → Type 0
  HalvesOf x s g =
      (h : ℕ) → h < 3 * m + 1 → (j : ℕ) → j < 2 ^ (m - 1) → g h j ≡ half_for (full Y m) x (held Y value m from s (helper (full Y m) x h)) j

  -- the boxes but x hold their columns of the file f
  abbrev pub OthersHold : ℕ → Meaning T → File (full Y m) → Type 0
  OthersHold x s f = (b : ℕ) → b < 3 * m + 2 → b ≢ x → Alike (full Y m) (held Y value m from s b) (column_of (full Y m) f b)

  -- box x was given the column that the helpers' halves g give, whatever these are, and no other box has changed
  pub record Renewed (x : ℕ) (g : ℕ → ℕ → Y.Symbol) (old new : Meaning T) : Type 0 where
    pub taken : HalvesOf x old g
    pub given : Given (full Y m) x g (held Y value m from new x)
    pub others : (d : ℕ) → d ≢ suc x → column new d ≡ column old d
    -- so where the other boxes hold a file's columns, it holds its own of that file
    pub file : (f : File (full Y m)) → OthersHold x old f → Alike (full Y m) (held Y value m from new x) (f x)

  -- box x stands and holds zero in every row outside the stripe, and there are as many boxes and rows as before
  pub record NewBox (x : ℕ) (old new : Meaning T) : Type 0 where
    pub boxes : box_count new ≡ box_count old
    pub rows : new.rows ≡ old.rows
    pub here : is_standing new (suc x) ≡ true
    pub outside : (a : ℕ) → a < old.rows → (a < from) ⊎ (from + 2 ^ m ≤ a) → IsSomeAnd (symbol_at new (suc x) a) (λ y. value y ≡ Y.ring.zero)
