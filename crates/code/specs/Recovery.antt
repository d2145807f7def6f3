-- How a lost column follows from the halves of the other boxes: the steps that the inner functions promise.
-- That they lead to the column given by the halves is proved above them. Assumes nothing.
use Rattle.std.specs.Prelude.{ℕ, suc, ◌-◌, Bool, true, false, if◌then◌else◌, ◌==◌, nat_lt}
use Rattle.field.specs.Ring.{Ring}
use Rattle.code.specs.Blocks.{◌∸◌}
use Rattle.code.specs.Codes.{Code, sum, kind, shift, eigen_p, eigen_q, image, data_boxes}
use Rattle.code.specs.Rows.{lower, pair_of}
use Rattle.code.specs.declared.Kind.{Kind}
use Rattle.code.specs.declared.Kind.TheVariants.{Lower, Upper, Sum}

-- the place of the helper b among the helpers of the lost box x
abbrev pub seat : ℕ → ℕ → ℕ
seat x b = if nat_lt b x then b else b - 1

module _ {A : Type 0} (R : Ring A) where
  -- the half for kind u of a block of another kind v is this times the half
  abbrev pub eigenvalue : Kind → Kind → A → A → A
  eigenvalue Lower Lower p q = R.zero
  eigenvalue Lower Upper p q = q
  eigenvalue Lower Sum p q = p
  eigenvalue Upper Lower p q = p
  eigenvalue Upper Upper p q = R.zero
  eigenvalue Upper Sum p q = q
  eigenvalue Sum Lower p q = q
  eigenvalue Sum Upper p q = p
  eigenvalue Sum Sum p q = R.zero

  -- the pair again, from its half g and the half h of its block; d is the inverse of q - p
  abbrev pub recover : Kind → A → A → A → A → A → Bool → A
  recover Lower p q d g h false = g
  recover Lower p q d g h true = R.times d (◌∸◌ R h (R.times q g))
  recover Upper p q d g h false = R.times d (◌∸◌ R (R.times p g) h)
  recover Upper p q d g h true = g
  recover Sum p q d g h false = R.times d (◌∸◌ R (R.times q g) h)
  recover Sum p q d g h true = R.times d (◌∸◌ R h (R.times p g))

module _ {A : Type 0} (c : Code A) (x : ℕ) where
  -- the half of the image of box b's column, from the half g of the column
  abbrev pub half_image : ℕ → (ℕ → A) → ℕ → A
  half_image b g j =
      if shift c b == shift c x then c.ring.times (eigenvalue c.ring (kind c x) (kind c b) (eigen_p c b) (eigen_q c b)) (g j)
      else image c b (λ a. g (pair_of (shift c x) a)) (lower (shift c x) j)

  -- what the helpers below n take off the halves of the two parities
  abbrev pub taken : ℕ → (ℕ → ℕ → A) → ℕ → A
  taken n g j = sum c.ring n (λ b. if b == x then c.ring.zero else g (seat x b) j)

  abbrev pub taken_image : ℕ → (ℕ → ℕ → A) → ℕ → A
  taken_image n g j = sum c.ring n (λ b. if b == x then c.ring.zero else half_image b (g (seat x b)) j)

  -- the halves of the lost column and of its image
  abbrev pub lost_half : (ℕ → ℕ → A) → ℕ → A
  lost_half g j = ◌∸◌ c.ring (g (seat x (data_boxes c)) j) (taken (data_boxes c) g j)

  abbrev pub lost_image : (ℕ → ℕ → A) → ℕ → A
  lost_image g j = ◌∸◌ c.ring (g (seat x (suc (data_boxes c))) j) (taken_image (data_boxes c) g j)

  abbrev pub recovered : A → (ℕ → ℕ → A) → ℕ → Bool → A
  recovered d g j = recover c.ring (kind c x) (eigen_p c x) (eigen_q c x) d (lost_half g j) (lost_image g j)
