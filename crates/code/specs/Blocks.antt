-- Kinds of data boxes: the block of each on a pair of partner rows, and the half sent for a lost box of each. Assumes nothing.
use Rattle.std.specs.Prelude.{◌≡◌, ℕ, zero, suc, ◌+◌, ◌%◌, Bool, true, false}
use Rattle.field.specs.Ring.{Ring}
use Rattle.code.specs.declared.Kind.{Kind}
use Rattle.code.specs.declared.Kind.TheVariants.{Lower, Upper, Sum}

-- the number of a kind, and the kind of a number
abbrev pub kind_number : Kind → ℕ
kind_number Lower = 0
kind_number Upper = 1
kind_number Sum = 2

abbrev pub kind_of : ℕ → Kind
kind_of zero = Lower
kind_of (suc zero) = Upper
kind_of (suc (suc n)) = Sum

module _ {A : Type 0} (R : Ring A) where
  infixl 60 ◌⊹◌
  infixl 60 ◌∸◌
  infixl 70 ◌✶◌
  open R use {plus as ◌⊹◌, times as ◌✶◌, negative as neg}

  abbrev pub ◌∸◌ : A → A → A
  a ∸ b = a ⊹ neg b

  -- what a block makes of s in the lower and t in the upper row: what stands in the row whose digit is given
  abbrev pub block : Kind → A → A → A → A → Bool → A
  block Lower p q s t false = q ✶ s ⊹ (q ∸ p) ✶ t
  block Lower p q s t true = p ✶ t
  block Upper p q s t false = q ✶ s
  block Upper p q s t true = (p ∸ q) ✶ s ⊹ p ✶ t
  block Sum p q s t false = p ✶ s
  block Sum p q s t true = q ✶ t

  -- the half of a pair for a lost box of a kind
  abbrev pub half : Kind → A → A → A
  half Lower s t = s
  half Upper s t = t
  half Sum s t = s ⊹ t

  -- the three functionals lower, upper and sum, counted from 0 and cyclically
  abbrev pub functional : ℕ → A → A → A
  functional n = half (kind_of (n % 3))

  -- What makes it the code's block, whatever the marks: of the three functionals that in place u + 1 has eigenvalue p,
  -- and that in place u + 2 has eigenvalue q. The pair (v, w) is what the block of kind u makes of (s, t).
  pub record Eigen (u : Kind) (p q s t v w : A) : Type 0 where
    pub first : functional (kind_number u + 1) v w ≡ p ✶ functional (kind_number u + 1) s t
    pub second : functional (kind_number u + 2) v w ≡ q ✶ functional (kind_number u + 2) s t
