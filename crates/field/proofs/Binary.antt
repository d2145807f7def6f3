-- Values in a ring whose sum is exclusive or, and its inverses by one computed test. Assumes nothing.
use Rattle.std.proofs.Common.{◌≡◌, ℕ, ◌%◌, ◌^◌, ◌<◌, bit_xor, Bool, IsTrue, ◌&&◌, ◌||◌, ◌==◌, nat_lt, sym, refl, ap, ◌∙◌, inl, inr, mod-eq_of_lt, arith}
use Rattle.std.proofs.lemmas.Bool.{and_parts, or_cases, ltb-true, eqb-true}
use Rattle.std.proofs.lemmas.Nat.{xor_mod}
use Rattle.field.specs.Below.{same_below}
use Rattle.field.specs.Binary.{Product, binary}
use Rattle.field.specs.Computed.{all, all_at}
use Rattle.field.specs.Numbers.{residue}
use Rattle.field.specs.Ring.{Divides}
use Rattle.field.proofs.Values.{divides}

-- the inverse of a is below n, and a is 0 or gives 1 with it
abbrev inverted : (n : ℕ) (f : ℕ → ℕ → ℕ) (inverse : ℕ → ℕ) → ℕ → Bool
inverted n f inverse a = nat_lt (inverse a) n && (a == 0 || f a (inverse a) == 1)

abbrev pub Inverted : (n : ℕ) (f : ℕ → ℕ → ℕ) (inverse : ℕ → ℕ) → Type 0
Inverted n f inverse = IsTrue (all (inverted n f inverse) n)

module _ (n : ℕ) (f : ℕ → ℕ → ℕ) (inverse : ℕ → ℕ) (t : Inverted n f inverse) (a : ℕ) (low : a < n) where
  parts : IsTrue (nat_lt (inverse a) n) × IsTrue (a == 0 || f a (inverse a) == 1)
  parts = and_parts _ _ (all_at (inverted n f inverse) n t a low)

  pub inverse_below : inverse a < n
  inverse_below = ltb-true _ _ parts.0

  pub inverts : 0 < a → f a (inverse a) ≡ 1
  inverts some =
      elim (or_cases (a == 0) (f a (inverse a) == 1) parts.1) [
        | inl z ↦ let e : a ≡ 0 = eqb-true a 0 z in absurd (omega arith)
        | inr e ↦ eqb-true (f a (inverse a)) 1 e
      ]

-- a, b and r are the numbers of the symbols that the program holds
module _ (k : ℕ) (big : 1 < 2 ^ k) (f : ℕ → ℕ → ℕ) (o : Product k f) where
  pub sum_stands : (r a b : ℕ) → r ≡ bit_xor a b → residue (2 ^ k) big r ≡ (binary k big f o).plus (residue (2 ^ k) big a) (residue (2 ^ k) big b)
  sum_stands r a b e = same_below _ _ (ap (λ n. n % 2 ^ k) e ∙ xor_mod a b k)

  pub product_stands : (r a b : ℕ) → r ≡ f a b → a < 2 ^ k → b < 2 ^ k → residue (2 ^ k) big r ≡ (binary k big f o).times (residue (2 ^ k) big a) (residue (2 ^ k) big b)
  product_stands r a b e h₁ h₂ =
      same_below _ _
      (ap (λ n. n % 2 ^ k) e ∙ mod-eq_of_lt (o.below (a, h₁) (b, h₂)) ∙ (λ i. f (sym (mod-eq_of_lt h₁) i) (sym (mod-eq_of_lt h₂) i)))

  pub inverse_stands : (a b : ℕ) → f a b ≡ 1 → a < 2 ^ k → b < 2 ^ k → (binary k big f o).times (residue (2 ^ k) big a) (residue (2 ^ k) big b) ≡ residue (2 ^ k) big 1
  inverse_stands a b e h₁ h₂ = sym (product_stands 1 a b (sym e) h₁ h₂)

  pub binary_divides : (inverse : ℕ → ℕ) → Inverted (2 ^ k) f inverse → Divides (binary k big f o)
  binary_divides inverse t =
      divides (2 ^ k) big (binary k big f o) refl
      (λ x some. ((inverse x.0, inverse_below (2 ^ k) f inverse t x.0 x.1), same_below _ _ (inverts (2 ^ k) f inverse t x.0 x.1 some ∙ sym (mod-eq_of_lt big))))
