-- Which column of a file each box holds, and files that have given columns in all boxes but two. Assumes nothing.
use Rattle.std.proofs.Common.{◌≡◌, ℕ, suc, ◌+◌, ◌<◌, nat_lt, ◌≢◌, subst, sym, inl, inr, ◌∙◌, arith, le-ltb, lt-ltb}
use Rattle.std.proofs.lemmas.Bool.{cases_order, cond-true, cond-false}
use Rattle.code.specs.Codes.{Code, Column, File, data_boxes, parity1, parity2, column, Alike}
use Rattle.code.specs.Laws.{HasColumns}
use Rattle.code.proofs.Sums.{if_same, if_other}

module _ {A : Type 0} (c : Code A) where
  abbrev n : ℕ
  n = data_boxes c

  pub column_data : (f : File c) (b : ℕ) → b < n → column c f b ≡ f b
  column_data f b l = cond-true (nat_lt b n) _ _ (lt-ltb b n l)

  pub column_first : (f : File c) (b : ℕ) → b ≡ n → column c f b ≡ parity1 c f
  column_first f b e = cond-false (nat_lt b n) _ _ (le-ltb b n (omega arith)) ∙ if_same b n e _ _

  pub column_second : (f : File c) (b : ℕ) → b ≡ suc n → column c f b ≡ parity2 c f
  column_second f b e = cond-false (nat_lt b n) _ _ (le-ltb b n (omega arith)) ∙ if_other b n (λ o. omega arith) _ _

  -- what is said of the column of each box is said of the data boxes and the two parity boxes
  pub by_box : (f : File c) (P : ℕ → Column c → Type 0) → ((b : ℕ) → b < n → P b (f b)) → P n (parity1 c f) → P (suc n) (parity2 c f)
      → (b : ℕ) → b < n + 2 → P b (column c f b)
  by_box f P each first second b l =
      elim (cases_order b n) [
        | inl e ↦ subst (P b) (sym (column_first f b e)) (subst (λ v. P v (parity1 c f)) (sym e) first)
        | inr (inl h) ↦ subst (P b) (sym (column_data f b h)) (each b h)
        | inr (inr h) ↦ let e : b ≡ suc n = omega arith in subst (P b) (sym (column_second f b e)) (subst (λ v. P v (parity2 c f)) (sym e) second)
      ]

  module _ (x y : ℕ) (f : File c) (g : ℕ → Column c) where
    pub has_columns : ((b : ℕ) → b < n → b ≢ x → b ≢ y → Alike c (f b) (g b)) → (n ≢ x → n ≢ y → Alike c (parity1 c f) (g n))
        → (suc n ≢ x → suc n ≢ y → Alike c (parity2 c f) (g (suc n))) → HasColumns c x y f g
    has_columns = by_box f (λ b C. b ≢ x → b ≢ y → Alike c C (g b))

    module _ (h : HasColumns c x y f g) where
      pub has_data : (b : ℕ) → b < n → b ≢ x → b ≢ y → Alike c (f b) (g b)
      has_data b l nx ny = subst (λ C. Alike c C (g b)) (column_data f b l) (h b (omega arith) nx ny)

      pub has_first : n ≢ x → n ≢ y → Alike c (parity1 c f) (g n)
      has_first nx ny = subst (λ C. Alike c C (g n)) (column_first f n (λ i. n)) (h n (omega arith) nx ny)

      pub has_second : suc n ≢ x → suc n ≢ y → Alike c (parity2 c f) (g (suc n))
      has_second nx ny = subst (λ C. Alike c C (g (suc n))) (column_second f (suc n) (λ i. suc n)) (h (suc n) (omega arith) nx ny)
