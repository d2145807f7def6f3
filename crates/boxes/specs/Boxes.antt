-- Data boxes. Assumes nothing.
use Rattle.std.specs.Prelude.{◌≡◌, ℕ, ◌*◌, ◌<◌, ◌≤◌}
use Rattle.field.specs.Symbols.{Symbols}
use Rattle.code.specs.Codes.{Code, full, kind, direction, shift, eigen_p, eigen_q}
use Rattle.code.specs.declared.Kind.{Kind}

-- a cabinet of size m has a data box in place b, and the field has the marks of its direction
pub record Fits (Y : Symbols) (m b : ℕ) : Type 0 where
  pub some : 1 ≤ m
  pub most : m ≤ 6
  pub inside : b < 3 * m
  pub marks : 2 * direction (full Y m) b ≤ Y.marks

-- kind and eigenvalues of the data box in place b
pub record BlockOf {A : Type 0} (c : Code A) (b : ℕ) (u : Kind) (p q : A) : Type 0 where
  pub is_kind : u ≡ kind c b
  pub first : p ≡ eigen_p c b
  pub second : q ≡ eigen_q c b

-- its digit besides
pub record BoxOf {A : Type 0} (c : Code A) (b : ℕ) (u : Kind) (k : ℕ) (p q : A) : Type 0 where
  pub block : BlockOf c b u p q
  pub is_shift : k ≡ shift c b
