-- What a box's blocks make of a column, or the difference of what those of two boxes make of it, undone by the decoder's steps. Assumes nothing.
use Rattle.std.proofs.Common.{◌≡◌, ℕ, ◌-◌, ◌*◌, if◌then◌else◌, ◌≢◌, ap, subst}
use Rattle.field.specs.Ring.{Ring}
use Rattle.code.specs.Blocks.{◌∸◌}
use Rattle.code.specs.Codes.{Code, Column, kind, direction, shift, eigen_p, eigen_q, image}
use Rattle.code.specs.Decoding.{to_eigen, from_eigen, undo_shift, undo_difference, turn}
use Rattle.code.proofs.Digits.{rows}
use Rattle.code.proofs.Halves.{after}
use Rattle.code.proofs.Undone.{Undone, block_undone, same_undone, apart_undone}

module _ {A : Type 0} (c : Code A) where
  abbrev R : Ring A
  R = c.ring

  abbrev p : ℕ → A
  p = eigen_p c

  abbrev q : ℕ → A
  q = eigen_q c

  -- z is no eigenvalue of box x, and e tells so: it is the inverse of (p - z) (q - z)
  abbrev pub Shifts : ℕ → A → A → Type 0
  Shifts x z e = R.times e (R.times (◌∸◌ R (p x) z) (◌∸◌ R (q x) z)) ≡ R.one

  -- the blocks of box x
  module _ (x : ℕ) (e : A) where
    abbrev pub block_solution : Column c → Column c
    block_solution = turn R (shift c x) (shift c x) (λ r. undo_shift R (kind c x) (p x) (q x) R.zero e)

    pub block_solved : Shifts x R.zero e → Undone R rows (image c x) block_solution
    block_solved = block_undone R rows (kind c x) (shift c x) (p x) (q x) e

    pub undone_block : Shifts x R.zero e → (C : Column c) (a : ℕ) → image c x (block_solution C) a ≡ C a
    undone_block h C a = ap (λ X. X a) ((block_solved h).solves C)

  module _ (x y : ℕ) where
    -- what the blocks of x make of a column, less what those of y make of it
    abbrev pub difference : Column c → Column c
    difference C a = ◌∸◌ R (image c x C a) (image c y C a)

    -- two boxes of one direction
    module _ (d : A) where
      abbrev pub same_solution : Column c → Column c
      same_solution = turn R (shift c x) (shift c x) (λ r. undo_difference R (kind c x) (kind c y) (p x) (q x) d)

      -- the blocks of y, were its direction j
      abbrev along : ℕ → Column c → Column c
      along j = after R rows (kind c y) (c.size - j) (c.mark (2 * j - 1)) (c.mark (2 * j))

      pub same_solved : direction c x ≡ direction c y → kind c x ≢ kind c y → R.times d (◌∸◌ R (q x) (p x)) ≡ R.one → Undone R rows difference same_solution
      same_solved e n h =
          subst (λ j. Undone R rows (λ C a. ◌∸◌ R (image c x C a) (along j C a)) same_solution) e
          (same_undone R rows (kind c x) (kind c y) n (shift c x) (p x) (q x) d h)

      pub undone_same : direction c x ≡ direction c y → kind c x ≢ kind c y → R.times d (◌∸◌ R (q x) (p x)) ≡ R.one
          → (C : Column c) (a : ℕ) → ◌∸◌ R (image c x (same_solution C) a) (image c y (same_solution C) a) ≡ C a
      undone_same e n h C a = ap (λ X. X a) ((same_solved e n h).solves C)

    -- of two directions: through the eigenvectors of y
    module _ (e f : A) where
      abbrev pub apart_solution : Column c → Column c
      apart_solution C =
          turn R (shift c y) (shift c y) (λ r. from_eigen R (kind c y))
          (turn R (shift c x) (shift c y) (λ r. if r then undo_shift R (kind c x) (p x) (q x) (q y) f else undo_shift R (kind c x) (p x) (q x) (p y) e)
          (turn R (shift c y) (shift c y) (λ r. to_eigen R (kind c y)) C))

      pub apart_solved : shift c x ≢ shift c y → Shifts x (p y) e → Shifts x (q y) f → Undone R rows difference apart_solution
      apart_solved n = apart_undone R rows (kind c x) (kind c y) (shift c x) (shift c y) n (p x) (q x) (p y) (q y) e f

      pub undone_apart : shift c x ≢ shift c y → Shifts x (p y) e → Shifts x (q y) f
          → (C : Column c) (a : ℕ) → ◌∸◌ R (image c x (apart_solution C) a) (image c y (apart_solution C) a) ≡ C a
      undone_apart n he hf C a = ap (λ X. X a) ((apart_solved n he hf).solves C)
