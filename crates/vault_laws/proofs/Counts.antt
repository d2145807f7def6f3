-- How many boxes stand where some are out. Assumes nothing.
use Rattle.std.proofs.Common.{◌≡◌, ◌≢◌, ℕ, zero, suc, ◌+◌, ◌<◌, ◌≤◌, Bool, true, false, cond, nat_lt, inl, inr, refl, sym, ap, ◌∙◌, arith, tests}
use Rattle.std.proofs.lemmas.Bool.{cases_eq, cases_order, true≢false}
use Rattle.std.proofs.lemmas.Bool.Decides.{nat_tests}
use Rattle.code.specs.Standing.{standing}
use Rattle.missing.proofs.Counts.{most_below}

module _ (stands : ℕ → Bool) where
  -- with k boxes out below box d, and d out, there are k + 1 fewer
  fewer : (n d k : ℕ) → d < n → stands d ≡ false → standing stands d + k ≤ d → standing stands n + (k + 1) ≤ n
  fewer zero d k l e h = absurd (omega arith)
  fewer (suc n) d k l e h =
      elim (cases_order d n) [
        | inl q ↦
            let out : stands n ≡ false = ap stands (sym q) ∙ e in
            let same : standing stands d ≡ standing stands n = ap (standing stands) q in
            grind (arith, tests)
        | inr (inl i) ↦ let below = fewer n d k i e h in grind (arith, tests)
        | inr (inr i) ↦ absurd (omega arith)
      ]

  two_fewer : (n x y : ℕ) → x < y → y < n → stands x ≡ false → stands y ≡ false → standing stands n + 2 ≤ n
  two_fewer n x y l k e f =
      let none = most_below stands x in
      let one = fewer y x 0 l e (omega arith) in
      omega (arith, fewer n y 1 k f (omega arith))

  -- where box x is out and no two are, every other stands
  pub others_stand : (n x : ℕ) → x < n → stands x ≡ false → n ≤ standing stands n + 1 → (d : ℕ) → d < n → d ≢ x → stands d ≡ true
  others_stand n x inside out few d l apart = by (stands d) refl
    where
      by : (t : Bool) → stands d ≡ t → stands d ≡ true
      by true e = e
      by false e =
          elim (cases_order d x) [
            | inl q ↦ absurd (apart q)
            | inr (inl k) ↦ let two = two_fewer n d x k inside e out in absurd (omega arith)
            | inr (inr k) ↦ let two = two_fewer n x d k l out e in absurd (omega arith)
          ]

-- where all boxes but x and y stand, at most two are out
module _ (s : ℕ → Bool) (x y : ℕ) where
  abbrev one : ℕ → ℕ → ℕ
  one x n = cond (nat_lt x n) 1 0

  abbrev Counted : ℕ → Type 0
  Counted n = n ≤ standing s n + one x n + one y n

  more : (n : ℕ) → Counted n → (n ≢ x → n ≢ y → s n ≡ true) → (t : Bool) → s n ≡ t → Counted (suc n)
  more n k h true e = grind (arith, nat_tests)
  more n k h false e =
      elim (cases_eq n x) [
        | inl is ↦ grind (arith, nat_tests)
        | inr nx ↦ elim (cases_eq n y) [ inl is ↦ grind (arith, nat_tests) | inr ny ↦ absurd (true≢false (sym (h nx ny) ∙ e)) ]
      ]

  counted : (n : ℕ) → ((b : ℕ) → b < n → b ≢ x → b ≢ y → s b ≡ true) → Counted n
  counted zero h = omega arith
  counted (suc n) h = more n (counted n (λ b l. h b (omega arith))) (h n (omega arith)) (s n) refl

  pub all_but_two : (n : ℕ) → ((b : ℕ) → b < n → b ≢ x → b ≢ y → s b ≡ true) → n ≤ standing s n + 2
  all_but_two n h = let k = counted n h in grind (arith, nat_tests)
