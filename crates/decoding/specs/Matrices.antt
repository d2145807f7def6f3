-- Matrices of two by two as a program holds them, and what those undo that the decoding uses. Assumes nothing.
use Rattle.std.specs.Prelude.{◌≡◌, Bool, true, false}
use Rattle.field.specs.Ring.{Ring}
use Rattle.code.specs.Blocks.{◌∸◌}
use Rattle.code.specs.Decoding.{Matrix, undo_shift, undo_difference}
use Rattle.code.specs.declared.Kind.{Kind}
use Rattle.decoding.specs.declared.matrix.Matrix.{Matrix as Held}

-- the entries of a matrix that is held row by row
abbrev pub entries : {S A : Type 0} → (S → A) → Held S → Matrix A
entries value m false false = value m.lower.0
entries value m false true = value m.lower.1
entries value m true false = value m.upper.0
entries value m true true = value m.upper.1

abbrev pub Entrywise : {A : Type 0} → Matrix A → Matrix A → Type 0
Entrywise M N = (i j : Bool) → M i j ≡ N i j

module _ {A : Type 0} (R : Ring A) where
  -- what M makes of s in the lower and t in the upper row: what stands in the row whose digit is given
  abbrev pub applied : Matrix A → A → A → Bool → A
  applied M s t r = R.plus (R.times (M r false) s) (R.times (M r true) t)

  -- the determinant of a block less z
  abbrev pub determinant : A → A → A → A
  determinant p q z = R.times (◌∸◌ R p z) (◌∸◌ R q z)

  -- M undoes the block less z
  abbrev pub UndoesShift : Kind → A → A → A → Matrix A → Type 0
  UndoesShift u p q z M = (e : A) × (R.times e (determinant p q z) ≡ R.one) × Entrywise M (undo_shift R u p q z e)

  -- M undoes the difference of the blocks of two kinds
  abbrev pub UndoesDifference : Kind → Kind → A → A → Matrix A → Type 0
  UndoesDifference u v p q M = (d : A) × (R.times d (◌∸◌ R q p) ≡ R.one) × Entrywise M (undo_difference R u v p q d)
