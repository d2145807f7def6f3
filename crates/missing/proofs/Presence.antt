-- What is listed as missing is what was found to be out. Assumes nothing.
use Rattle.std.proofs.Common.{◌≡◌, ℕ, ◌+◌, ◌<◌, ◌≤◌, Bool, true, false, inl, inr, sym, refl, ap, ◌∙◌, arith}
use Rattle.std.proofs.lemmas.Bool.{cases_order}
use Rattle.std.proofs.lemmas.Bool.Decides.{nat_tests}
use Rattle.missing.specs.Missing.{Found, are_boxes, present}
use Rattle.missing.specs.declared.Missing.{Missing}
use Rattle.missing.specs.declared.Missing.TheVariants.{Nothing, One, Two}

module _ (s : ℕ → Bool) where
  pub present_found : (n : ℕ) (missing : Missing) → Found s n missing → (b : ℕ) → b < n → present missing b ≡ s b
  present_found n Nothing h b l = sym (h b (omega arith) l)
  present_found n (One x) h b l =
      elim (cases_order b x) [
        | inl e ↦ let out : s b ≡ false = ap s e ∙ h.0.out in grind (arith, nat_tests)
        | inr (inl k) ↦ let in_ : s b ≡ true = h.0.before b (omega arith) k in grind (arith, nat_tests)
        | inr (inr k) ↦ let in_ : s b ≡ true = h.1 b (omega arith) l in grind (arith, nat_tests)
      ]
  present_found n (Two x y) h b l =
      elim (cases_order b x) [
        | inl e ↦ let out : s b ≡ false = ap s e ∙ h.0.out in grind (arith, nat_tests)
        | inr (inl k) ↦ let in_ : s b ≡ true = h.0.before b (omega arith) k in let beyond : x + 1 ≤ y = h.1.from in grind (arith, nat_tests)
        | inr (inr k) ↦
            elim (cases_order b y) [
              | inl e ↦ let out : s b ≡ false = ap s e ∙ h.1.out in grind (arith, nat_tests)
              | inr (inl m) ↦ let in_ : s b ≡ true = h.1.before b (omega arith) m in grind (arith, nat_tests)
              | inr (inr m) ↦ let in_ : s b ≡ true = h.2 b (omega arith) l in grind (arith, nat_tests)
            ]
      ]

-- and those listed are out, if they are boxes
pub found_present : (n : ℕ) (missing : Missing) → are_boxes n missing ≡ true → Found (present missing) n missing
found_present n Nothing e = λ b i l. refl
found_present n (One x) e = (
  record { from = omega arith; inside = grind (arith, nat_tests); out = grind (arith, nat_tests); before = λ b i l. grind (arith, nat_tests) },
  λ b i l. grind (arith, nat_tests),
)
found_present n (Two x y) e =
    let xy : x < y = grind (arith, nat_tests) in
    let yn : y < n = grind (arith, nat_tests) in (
      record { from = omega arith; inside = omega arith; out = grind (arith, nat_tests); before = λ b i l. grind (arith, nat_tests) },
      record { from = omega arith; inside = yn; out = grind (arith, nat_tests); before = λ b i l. grind (arith, nat_tests) },
      λ b i l. grind (arith, nat_tests),
    )
