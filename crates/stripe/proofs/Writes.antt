-- Lemmas on a column that is written to a box of a stripe. Assumes nothing.
use Rattle.std.proofs.Common.{◌≡◌, ◌≢◌, ℕ, ◌+◌, ◌^◌, ◌<◌, ◌≤◌, ◌⊎◌, true, List, length, refl, sym, ap, ◌∙◌, subst, inl, inr, ⊎_elim, arith}
use Rattle.std.proofs.lemmas.Bool.{cases_eq}
use Rattle.shelf.specs.Meaning.{IsShelf, Meaning, column, symbol_at, symbol_of}
use Rattle.shelf.specs.Rows.{has_rows, rows_at, with_rows}
use Rattle.shelf.proofs.Rows.{box_count_stays, column_stays, read_back, row_stays, standing_stays}
use Rattle.stripe.specs.Stripes.{OnlyStripe}

module _ {T : Type 0} (from b : ℕ) (s t : Meaning T) (xs : List T) (written : t ≡ with_rows s b from xs) where
  pub others_stay : (d : ℕ) → d ≢ b → column t d ≡ column s d
  others_stay d n = ap (λ k. column k d) written ∙ column_stays s b from xs d (λ e. n (sym e))

  module _ (m : ℕ) (long : length xs ≡ 2 ^ m) where
    pub rows_hold : IsShelf s → has_rows s b from (2 ^ m) ≡ true → rows_at t b from (2 ^ m) ≡ xs
    rows_hold i there = ap (λ k. rows_at k b from (2 ^ m)) written ∙ read_back s b from (2 ^ m) xs i long there

    elsewhere : (d a : ℕ) → (a < from) ⊎ (from + 2 ^ m ≤ a) → symbol_at (with_rows s b from xs) d a ≡ symbol_at s d a
    elsewhere d a h = elim (cases_eq b d) [
      | inl e ↦
          subst (λ k. symbol_at (with_rows s b from xs) k a ≡ symbol_at s k a) e
          (row_stays s b from xs a (⊎_elim (λ l. inl l) (λ l. inr (omega arith)) h))
      | inr n ↦ ap (λ o. symbol_of o a) (column_stays s b from xs d n)
    ]

    pub only_written : OnlyStripe m from s t
    only_written = subst (λ k. OnlyStripe m from s k) (sym written) record {
      boxes = box_count_stays s b from xs;
      rows = refl;
      stand = standing_stays s b from xs;
      elsewhere = elsewhere;
    }
