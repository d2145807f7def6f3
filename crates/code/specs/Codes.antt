-- The code: boxes with kinds and directions, images, parities, halves, and the column that a set of halves gives.
-- Boxes are numbered from 1 where people name them; here a box goes by its place, from 0: box b has place b - 1.
-- A column is a symbol for each row; rows from 2 ^ m up play no part. Assumes nothing.
use Rattle.std.specs.Prelude.{◌≡◌, ℕ, zero, suc, ◌+◌, ◌-◌, ◌*◌, ◌/◌, ◌%◌, ◌^◌, ◌<◌, ◌≤◌, true, false, if◌then◌else◌, ◌==◌, ◌≢◌, nat_lt}
use Rattle.field.specs.Ring.{Ring}
use Rattle.field.specs.Symbols.{Symbols}
use Rattle.code.specs.Rows.{odd, digit, partner, lower}
use Rattle.code.specs.Blocks.{block, half, kind_of}
use Rattle.code.specs.declared.Kind.{Kind}

-- the size m, how many kinds of data boxes there are, and the marks from 1 on
pub record Code (A : Type 0) : Type 0 where
  pub ring : Ring A
  pub size : ℕ
  pub kinds : ℕ
  pub mark : ℕ → A

-- what the code needs: at most three kinds, and 2m marks that are distinct and not zero
pub record Proper {A : Type 0} (c : Code A) : Type 0 where
  pub some : 1 ≤ c.size
  pub few : c.kinds ≤ 3
  pub mark_not_zero : (j : ℕ) → 1 ≤ j → j ≤ 2 * c.size → c.mark j ≢ c.ring.zero
  pub mark_distinct : (i j : ℕ) → 1 ≤ i → i ≤ 2 * c.size → 1 ≤ j → j ≤ 2 * c.size → c.mark i ≡ c.mark j → i ≡ j

-- the code of a cabinet: all three kinds, and the field's own marks
abbrev pub full : (Y : Symbols) → ℕ → Code Y.Symbol
full Y m = record { ring = Y.ring; size = m; kinds = 3; mark = Y.mark }

-- f 0 + .. + f (n - 1)
abbrev pub sum : {A : Type 0} → Ring A → ℕ → (ℕ → A) → A
sum R zero f = R.zero
sum R (suc n) f = R.plus (sum R n f) (f n)

module _ {A : Type 0} (c : Code A) where
  abbrev pub Column : Type 0
  Column = ℕ → A

  -- a column for each data box
  abbrev pub File : Type 0
  File = ℕ → Column

  abbrev pub data_boxes : ℕ
  data_boxes = c.kinds * c.size

  abbrev pub kind : ℕ → Kind
  kind b = kind_of (b / c.size)

  abbrev pub direction : ℕ → ℕ
  direction b = b % c.size + 1

  -- digit i of m, the highest first, is that of weight 2 ^ (m - i)
  abbrev pub shift : ℕ → ℕ
  shift b = c.size - direction b

  -- the two eigenvalues of a direction
  abbrev pub eigen_p : ℕ → A
  eigen_p b = c.mark (2 * direction b - 1)

  abbrev pub eigen_q : ℕ → A
  eigen_q b = c.mark (2 * direction b)

  -- the column of the data box b after its blocks
  abbrev pub image : ℕ → Column → Column
  image b C a =
      block c.ring (kind b) (eigen_p b) (eigen_q b) (C (partner (shift b) false a)) (C (partner (shift b) true a)) (odd (digit (shift b) a))

  abbrev pub parity1 : File → Column
  parity1 f a = sum c.ring data_boxes (λ b. f b a)

  abbrev pub parity2 : File → Column
  parity2 f a = sum c.ring data_boxes (λ b. image b (f b) a)

  -- what each box holds of a file: the data boxes, then the two parity boxes
  abbrev pub column : File → ℕ → Column
  column f b = if nat_lt b data_boxes then f b else (if b == data_boxes then parity1 f else parity2 f)

  -- number j of the half of a column for the lost data box x: that of the pair with the j-th lower row
  abbrev pub half_for : ℕ → Column → ℕ → A
  half_for x C j = half c.ring (kind x) (C (lower (shift x) j)) (C (lower (shift x) j + 2 ^ shift x))

  -- the helpers of the lost box x, all boxes but x in rising order: that in place h
  abbrev pub helper : ℕ → ℕ → ℕ
  helper x h = if nat_lt h x then h else suc h

  -- two columns are the same
  abbrev pub Alike : Column → Column → Type 0
  Alike C E = (a : ℕ) → a < 2 ^ c.size → C a ≡ E a

  -- the file f has the halves g for the lost box x: number j of the helper in place h is g h j
  abbrev pub HasHalves : ℕ → File → (ℕ → ℕ → A) → Type 0
  HasHalves x f g =
      (h : ℕ) → h < suc data_boxes → (j : ℕ) → j < 2 ^ (c.size - 1) → half_for x (column f (helper x h)) j ≡ g h j

  -- the column given by a set of halves: the lost column of every file that has those halves
  abbrev pub Given : ℕ → (ℕ → ℕ → A) → Column → Type 0
  Given x g C = (f : File) → HasHalves x f g → Alike (f x) C

  -- whatever the halves, there are files that have them, and all of these agree in the lost column
  pub record Restorable (x : ℕ) : Type 0 where
    pub exists : (g : ℕ → ℕ → A) → (f : File) × HasHalves x f g
    pub agree : (g : ℕ → ℕ → A) (f f' : File) → HasHalves x f g → HasHalves x f' g → Alike (f x) (f' x)

-- so it is for every size, every choice of at most three kinds and all marks that are distinct and not zero
abbrev pub Renews : {A : Type 0} → Ring A → Type 0
Renews {A} R =
    (m kinds : ℕ) (mark : ℕ → A) → let c : Code A = record { ring = R; size = m; kinds = kinds; mark = mark } in Proper c → (x : ℕ) → x < kinds * m → Restorable c x
