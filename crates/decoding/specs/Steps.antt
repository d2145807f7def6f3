-- What a step of the decoding does to a file, and what the steps lead to. Assumes nothing.
use Rattle.std.specs.Prelude.{◌≡◌, ℕ, ◌<◌, ◌≢◌, ◌==◌, ◌||◌, if◌then◌else◌}
use Rattle.field.specs.Ring.{Ring}
use Rattle.code.specs.Blocks.{◌∸◌}
use Rattle.code.specs.Codes.{Code, Alike, parity1, parity2, data_boxes, sum}
use Rattle.columns.specs.Parities.{share}
use Rattle.columns.specs.declared.parity.Parity.{Parity}

-- the file g has the columns of f but in box x, in the first n rows
abbrev pub Kept : {A : Type 0} → ℕ → ℕ → (ℕ → ℕ → A) → (ℕ → ℕ → A) → Type 0
Kept n x f g = (b : ℕ) → (b ≢ x) → (a : ℕ) → a < n → g b a ≡ f b a

-- row by row, what one column has more than another
abbrev pub less : {A : Type 0} → Ring A → (ℕ → A) → (ℕ → A) → ℕ → A
less R C E a = ◌∸◌ R (C a) (E a)

-- what the data boxes but x and y add to a parity column
abbrev pub others : {A : Type 0} → Parity → (c : Code A) → ℕ → ℕ → (ℕ → ℕ → A) → ℕ → A
others which c x y f a = sum c.ring (data_boxes c) (λ b. if b == x || b == y then c.ring.zero else share which c b (f b) a)

-- the file g is the file f but for the column x, whose first n rows hold C
pub record Replaced {A : Type 0} (n x : ℕ) (f : ℕ → ℕ → A) (C : ℕ → A) (g : ℕ → ℕ → A) : Type 0 where
  pub here : (a : ℕ) → a < n → g x a ≡ C a
  pub others : (b : ℕ) → (b ≢ x) → (a : ℕ) → a < n → g b a ≡ f b a

module _ {A : Type 0} (c : Code A) where
  -- the file g has the columns of f but in box x, and the first parity column that stands there in f
  pub record ByFirst (x : ℕ) (f g : ℕ → ℕ → A) : Type 0 where
    pub others : (b : ℕ) → b < data_boxes c → (b ≢ x) → Alike c (g b) (f b)
    pub first : Alike c (parity1 c g) (f x)

  -- the same with the second parity column
  pub record BySecond (x : ℕ) (f g : ℕ → ℕ → A) : Type 0 where
    pub others : (b : ℕ) → b < data_boxes c → (b ≢ x) → Alike c (g b) (f b)
    pub second : Alike c (parity2 c g) (f x)

  -- the file g has the columns of f but in the boxes x and y, the first parity column that stands in x, and the second that stands in y
  pub record ByBoth (x y : ℕ) (f g : ℕ → ℕ → A) : Type 0 where
    pub others : (b : ℕ) → b < data_boxes c → (b ≢ x) → (b ≢ y) → Alike c (g b) (f b)
    pub first : Alike c (parity1 c g) (f x)
    pub second : Alike c (parity2 c g) (f y)
