-- Tests of the boxes one after another. Assumes nothing.
use Rattle.std.proofs.Common.{◌≡◌, ℕ, zero, suc, ◌+◌, ◌-◌, ◌<◌, ◌≤◌, Bool, true, false, not, ◌||◌, ◌==◌, refl, sym, ap, ◌∙◌, arith}
use Rattle.gathering.specs.Gatherings.{missing}
use Rattle.std.proofs.lemmas.Bool.{false≢true}
use Rattle.std.specs.List.{list_any, range_with_len}
use Rattle.std.proofs.lemmas.List.Folds.{list_any_at}
use Rattle.std.proofs.lemmas.List.FromFn.{length-range_with_len, get_or-range_with_len}

-- tests that agree on the boxes from a on
any_same : (p q : ℕ → Bool) (a n : ℕ) → ((b : ℕ) → a ≤ b → b < a + n → p b ≡ q b) → list_any p (range_with_len a n) ≡ list_any q (range_with_len a n)
any_same p q a zero each = refl
any_same p q a (suc n) each =
    (λ i. each a (omega arith) (omega arith) i || any_same p q (a + 1) n (λ b l h. each b (omega arith) (omega arith)) i)

pub same_missing : (n lost : ℕ) (heard heard' : ℕ → Bool) → ((b : ℕ) → 1 ≤ b → b ≤ n → heard b ≡ heard' b) → missing n lost heard ≡ missing n lost heard'
same_missing n lost heard heard' each = any_same _ _ 1 n (λ b first last. ap (λ h. not (b == lost || h)) (each b first (omega arith)))

module _ (p : ℕ → Bool) where
  pub some_box : (n b : ℕ) → 1 ≤ b → b ≤ n → p b ≡ true → list_any p (range_with_len 1 n) ≡ true
  some_box n b first last h =
      list_any_at p (range_with_len 1 n) (b - 1) 0 (omega (arith, length-range_with_len 1 n)) (ap p (get_or-range_with_len 1 n (b - 1) 0 (omega arith) ∙ omega arith) ∙ h)

  pub no_box : (a n : ℕ) → ((b : ℕ) → a ≤ b → b < a + n → p b ≡ false) → list_any p (range_with_len a n) ≡ false
  no_box a zero each = refl
  no_box a (suc n) each =
      (λ i. each a (omega arith) (omega arith) i || list_any p (range_with_len (a + 1) n))
      ∙ no_box (a + 1) n (λ b l h. each b (omega arith) (omega arith))

  pub each_box : (n b : ℕ) → list_any p (range_with_len 1 n) ≡ false → 1 ≤ b → b ≤ n → p b ≡ false
  each_box n b none first last =
      elim (p b) as (λ v. p b ≡ v → p b ≡ false) [ true ↦ λ e. absurd (false≢true (sym none ∙ some_box n b first last e)) | false ↦ λ e. e ] refl
