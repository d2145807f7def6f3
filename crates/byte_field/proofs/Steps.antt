-- The loops of the product and of the inverse. Assumes nothing.
use Rattle.std.proofs.Common.{◌≡◌, ℕ, suc, ◌+◌, ◌-◌, ◌<◌, ◌≤◌, List, [], ◌∷◌, ◌++◌, length, take, drop, slice_set, sym, ap, ◌∙◌, ap₂, refl, append_assoc, arith, length-set}
use Rattle.std.specs.Int.Bits.{bit_xor, xor_zero_r}
use Rattle.std.proofs.lemmas.List.{take_more_set, drop_all}
use Rattle.field.proofs.Binary.{Inverted}
use Rattle.byte_field.specs.Product.{twice, doublings, picked, product, squares, inverse}

-- the first i of n doublings of a are listed, and d is the next
abbrev pub Listed : ℕ → ℕ → ℕ → ℕ → List ℕ → Type 0
Listed n a i d ds = (length ds ≡ n) × (take i ds ++ doublings (n - i) d ≡ doublings n a)

pub listed_more : (n a i d e : ℕ) (ds : List ℕ) → i < n → e ≡ twice d → Listed n a i d ds → Listed n a (i + 1) e (slice_set ds i d)
listed_more n a i d e ds h is l =
    let within : i < length ds = omega (arith, l.0) in
    let left : n - i ≡ suc (n - (i + 1)) = omega arith in (
      length-set ds i d ∙ l.0,
      ap₂ (λ xs y. xs ++ doublings (n - (i + 1)) y) (take_more_set ds i d within) is
          ∙ append_assoc (take i ds) (d ∷ []) (doublings (n - (i + 1)) (twice d))
          ∙ ap (λ k. take i ds ++ doublings k d) (sym left)
          ∙ l.1,
    )

-- the sum so far, with what the rest of b picks of the rest, is what b picks of all
abbrev pub Added : List ℕ → ℕ → ℕ → ℕ → ℕ → Type 0
Added ds b k sum rest = bit_xor sum (picked (drop k ds) rest) ≡ picked ds b

pub added_all : (ds : List ℕ) (b k sum rest : ℕ) → length ds ≤ k → Added ds b k sum rest → sum ≡ picked ds b
added_all ds b k sum rest h e = sym (xor_zero_r sum) ∙ ap (λ xs. bit_xor sum (picked xs rest)) (sym (drop_all k ds h)) ∙ e

-- one more of n squares, and none left
pub squares_more : (n k s f t g r : ℕ) → k < n → t ≡ product s s → g ≡ product f t → squares (n - k) s f ≡ r → squares (n - (k + 1)) t g ≡ r
unfolding squares
squares_more n k s f t g r h square found e =
    let left : n - k ≡ suc (n - (k + 1)) = omega arith in
    ap₂ (squares (n - (k + 1))) square (found ∙ ap (product f) square) ∙ ap (λ m. squares m s f) (sym left) ∙ e

pub squares_all : (n k s f r : ℕ) → n ≤ k → squares (n - k) s f ≡ r → f ≡ r
unfolding squares
squares_all n k s f r h e =
    let none : n - k ≡ 0 = omega arith in ap (λ m. squares m s f) (sym none) ∙ e

-- each byte but 0 gives 1 with its inverse, by a computed test of all
pub inverted : Inverted 256 product inverse
unfolding product squares
inverted = refl
