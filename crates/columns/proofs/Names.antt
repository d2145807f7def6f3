-- The column given by halves, by other names of the size, the box and the halves. Assumes nothing.
use Rattle.std.proofs.Common.{◌≡◌, ℕ, ◌-◌, ◌^◌, List, subst}
use Rattle.field.specs.Symbols.{Symbols}
use Rattle.code.specs.Codes.{full, Given}
use Rattle.code.specs.Contents.{parts}

module _ (Y : Symbols) {S : Type 0} (v : S → Y.Symbol) (C : ℕ → Y.Symbol) where
  abbrev By : ℕ → ℕ → List S → Type 0
  By m x xs = Given (full Y m) x (parts Y v (2 ^ (m - 1)) xs) C

  pub given_by : (m m' x x' : ℕ) (xs ys : List S) → m ≡ m' → x ≡ x' → xs ≡ ys → By m x xs → By m' x' ys
  given_by m m' x x' xs ys em ex es given = subst (λ n. By n x' ys) em (subst (λ n. By m n ys) ex (subst (λ zs. By m x zs) es given))
