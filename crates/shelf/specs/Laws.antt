-- What each call leaves of a shelf, told by its boxes and symbols. Assumes nothing.
use Rattle.std.specs.Prelude.{◌≡◌, ◌≢◌, ℕ, ◌<◌, ◌≤◌, ◌⊎◌, true, false, Some, is_some}
use Rattle.shelf.specs.Meaning.{IsShelf, Meaning, box_count, column, has_row, is_out, is_standing, symbol_at, with_out, with_standing, with_symbol}

module _ {T : Type 0} (old new : Meaning T) where
  -- as many boxes, and as many rows
  pub record SameSizes : Type 0 where
    pub boxes : box_count new ≡ box_count old
    pub rows : new.rows ≡ old.rows

  -- every box but b is what it was
  abbrev pub OthersStay : ℕ → Type 0
  OthersStay b = (d : ℕ) → d ≢ b → column new d ≡ column old d

  -- x was stored in row a of box b, or refused
  pub record Stored (b a : ℕ) (x : T) : Type 0 where
    pub sizes : SameSizes
    pub here : has_row old b a ≡ true → symbol_at new b a ≡ Some x
    pub boxes : (d : ℕ) → is_standing new d ≡ is_standing old d
    pub elsewhere : (d c : ℕ) → (d ≢ b) ⊎ (c ≢ a) → symbol_at new d c ≡ symbol_at old d c
    pub refused : has_row old b a ≡ false → new ≡ old

  -- box b was withdrawn, or refused
  pub record Withdrawn (b : ℕ) : Type 0 where
    pub sizes : SameSizes
    pub here : is_standing new b ≡ false
    pub others : OthersStay b
    pub refused : is_standing old b ≡ false → new ≡ old

  -- box b was inserted with x in every row, or refused
  pub record Inserted (b : ℕ) (x : T) : Type 0 where
    pub sizes : SameSizes
    pub here : is_out old b ≡ true → is_standing new b ≡ true
    pub filled : is_out old b ≡ true → (a : ℕ) → a < old.rows → symbol_at new b a ≡ Some x
    pub others : OthersStay b
    pub refused : is_out old b ≡ false → new ≡ old

  -- to each question the two answer alike
  pub record AnswerAlike : Type 0 where
    pub sizes : SameSizes
    pub stands : (b : ℕ) → is_standing new b ≡ is_standing old b
    pub fetch : (b a : ℕ) → symbol_at new b a ≡ symbol_at old b a

-- the laws of shelves
pub record ShelfLaws (T : Type 0) : Type 0 where
  pub numbered : (m : Meaning T) (b : ℕ) → is_standing m b ≡ true → (1 ≤ b) × (b ≤ box_count m)
  pub fetched : (m : Meaning T) → IsShelf m → (b a : ℕ) → is_some (symbol_at m b a) ≡ has_row m b a
  pub stored : (m : Meaning T) → IsShelf m → (b a : ℕ) (x : T) → Stored m (with_symbol m b a x) b a x
  pub withdrawn : (m : Meaning T) (b : ℕ) → Withdrawn m (with_out m b) b
  pub inserted : (m : Meaning T) (b : ℕ) (x : T) → Inserted m (with_standing m b x) b x
  -- a shelf is no more than what it answers
  pub determined : (m k : Meaning T) → IsShelf m → IsShelf k → AnswerAlike m k → k ≡ m
