-- Lost columns of the small file: one from the halves, two from the other columns. Assumes nothing.
use Rattle.std.proofs.Common.{ℕ, ◌<◌, ◌≢◌, Bool, List, [], ◌∷◌, refl, lit<, lit≤, arith}
use Rattle.std.proofs.lemmas.Bool.{false≢true}
use borrow.Author.Count.{below_more, below_none}
use Rattle.field.specs.Below.{same_below}
use Rattle.field.proofs.Residues.{inverts}
use Rattle.code.specs.Codes.{Alike, Code, Column, File, Proper, column, full}
use Rattle.code.specs.Standing.{Counts, FitsThem}
use Rattle.code.proofs.Stands.{laws}
use Rattle.code.proofs.Theory.{recovered_given, proper}
use Rattle.missing.specs.Missing.{stands}
use Rattle.prime.specs.Five.{above_one, five_symbols}
use Rattle.prime.specs.Primes.{prime_5}
use Rattle.cases.specs.Worked.{boxes, five, small, Decodes, Gives}

abbrev c : Code five_symbols.Symbol
c = full five_symbols 1

small_proper : Proper c
small_proper = proper five_symbols 1 (lit≤ tt) (lit≤ tt)

-- what holds of both rows of a column of two
rows : (P : ℕ → Type 0) → P 0 → P 1 → (a : ℕ) → a < 2 → P a
rows P p q = below_more P 1 (below_more P 0 (below_none P) p) q

-- what holds of all five boxes
each_box : (P : ℕ → Type 0) → P 0 → P 1 → P 2 → P 3 → P 4 → (b : ℕ) → b < 5 → P b
each_box P p q r s t = below_more P 4 (below_more P 3 (below_more P 2 (rows P p q) r) s) t

-- the difference of the two eigenvalues is 3, whose inverse is 2; a lemma for both would have to spell out what each refl computes
pub box_1 : Gives five_symbols five 0 (3 ∷ 0 ∷ 4 ∷ 2 ∷ []) (1 ∷ 2 ∷ [])
box_1 = recovered_given c small_proper 0 (lit< tt) (five 2) (same_below _ _ refl) _ _ (rows _ (same_below _ _ refl) (same_below _ _ refl))

pub box_3 : Gives five_symbols five 2 (3 ∷ 2 ∷ 1 ∷ 3 ∷ []) (0 ∷ 1 ∷ [])
box_3 = recovered_given c small_proper 2 (lit< tt) (five 2) (same_below _ _ refl) _ _ (rows _ (same_below _ _ refl) (same_below _ _ refl))

-- with boxes 1 and 2 out
abbrev stand : ℕ → Bool
stand = stands (1 ∷ 2 ∷ [])

abbrev file : File c
file = boxes five_symbols five 1 small

counts : (b : ℕ) → b < 5 → b ≢ 0 → b ≢ 1 → Counts c stand b
counts = each_box (λ b. b ≢ 0 → b ≢ 1 → Counts c stand b) (λ h k. absurd (h refl)) (λ h k. absurd (k refl)) (λ h k. (refl, lit< tt)) (λ h k. (refl, lit< tt)) (λ h k. (refl, lit< tt))

module _ (i j k l : ℕ) where
  abbrev columns : List ℕ
  columns = i ∷ j ∷ k ∷ l ∷ 0 ∷ 1 ∷ 4 ∷ 2 ∷ 2 ∷ 1 ∷ []

  abbrev held : ℕ → Column c
  held = boxes five_symbols five 1 columns

  fits : FitsThem c stand held file
  fits =
      each_box (λ b. Counts c stand b → Alike c (column c file b) (held b)) (λ h. absurd (false≢true h.0)) (λ h. absurd (false≢true h.0))
      (λ h. rows _ (same_below _ _ refl) (same_below _ _ refl)) (λ h. rows _ (same_below _ _ refl) (same_below _ _ refl)) (λ h. rows _ (same_below _ _ refl) (same_below _ _ refl))

  -- by the code's laws no other file fits
  pub boxes_1_2 : Decodes five_symbols five (1 ∷ 2 ∷ []) columns small
  boxes_1_2 =
      let two = (laws c small_proper (inverts 5 above_one prime_5)).any_two 0 1 (lit< tt) (lit< tt) (λ e. omega arith) in
      record { has = fits; only = λ f h. two.only held f file (λ b l x y. h b l (counts b l x y)) (λ b l x y. fits b l (counts b l x y)) }
