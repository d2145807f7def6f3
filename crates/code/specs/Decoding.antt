-- Matrices that undo blocks: the steps by which missing columns follow from the others, as the inner functions promise them.
-- That they lead to the one file is proved above them. Assumes nothing.
use Rattle.std.specs.Prelude.{ℕ, Bool, true, false}
use Rattle.field.specs.Ring.{Ring}
use Rattle.code.specs.Blocks.{◌∸◌, block}
use Rattle.code.specs.Rows.{odd, digit, partner}
use Rattle.code.specs.declared.Kind.{Kind}
use Rattle.code.specs.declared.Kind.TheVariants.{Lower, Upper, Sum}

-- a matrix of two by two: the entry in the row and the column whose digits are given
abbrev pub Matrix : Type 0 → Type 0
Matrix A = Bool → Bool → A

module _ {A : Type 0} (R : Ring A) where
  -- the matrix that changes nothing
  abbrev pub unit : Matrix A
  unit false false = R.one
  unit false true = R.zero
  unit true false = R.zero
  unit true true = R.one

  -- the block of a kind: what it makes of (1, 0) and of (0, 1)
  abbrev pub block_matrix : Kind → A → A → Matrix A
  block_matrix u p q r false = block R u p q R.one R.zero r
  block_matrix u p q r true = block R u p q R.zero R.one r

  -- from a pair to its two functionals with the eigenvalues p and q, and back
  abbrev pub to_eigen : Kind → Matrix A
  to_eigen Lower false false = R.zero
  to_eigen Lower false true = R.one
  to_eigen Lower true false = R.one
  to_eigen Lower true true = R.one
  to_eigen Upper false false = R.one
  to_eigen Upper false true = R.one
  to_eigen Upper true false = R.one
  to_eigen Upper true true = R.zero
  to_eigen Sum r s = unit r s

  abbrev pub from_eigen : Kind → Matrix A
  from_eigen Lower false false = R.negative R.one
  from_eigen Lower false true = R.one
  from_eigen Lower true false = R.one
  from_eigen Lower true true = R.zero
  from_eigen Upper false false = R.zero
  from_eigen Upper false true = R.one
  from_eigen Upper true false = R.one
  from_eigen Upper true true = R.negative R.one
  from_eigen Sum r s = unit r s

  -- what undoes a block less z, for e the inverse of (p - z) (q - z)
  abbrev pub undo_shift : Kind → A → A → A → A → Matrix A
  undo_shift u p q z e r s = R.times e (◌∸◌ R (R.times (◌∸◌ R (R.plus p q) z) (unit r s)) (block_matrix u p q r s))

  -- what undoes the difference of two blocks of one direction, for d the inverse of q - p
  abbrev pub undo_difference : Kind → Kind → A → A → A → Matrix A
  undo_difference u v p q d r s = R.times (R.times d d) (◌∸◌ R (block_matrix u p q r s) (block_matrix v p q r s))

  -- a matrix along the digit k of the rows, chosen by the digit l
  abbrev pub turn : ℕ → ℕ → (Bool → Matrix A) → (ℕ → A) → ℕ → A
  turn k l M C a =
      R.plus (R.times (M (odd (digit l a)) (odd (digit k a)) false) (C (partner k false a)))
      (R.times (M (odd (digit l a)) (odd (digit k a)) true) (C (partner k true a)))
