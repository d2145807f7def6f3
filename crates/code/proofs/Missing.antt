-- Columns of which one or two are missing, and a sum over all: what the missing ones add to it, and those that add what is missing. Assumes nothing.
use Rattle.std.proofs.Common.{◌≡◌, ℕ, ◌<◌, ◌≤◌, if◌then◌else◌, ◌==◌, ◌≢◌, sym, refl, ap, ◌∙◌, subst, inl, inr}
use mathlib.Core.Path.{fun_ext}
use Rattle.std.proofs.lemmas.Bool.{cases_eq}
use Rattle.field.specs.Ring.{Ring}
use Rattle.code.specs.Codes.{sum}
use Rattle.code.proofs.Sums.{if_same, if_other, but_two, sum_but_two, sum_but_one, less_rest, with_rest}

module _ {A : Type 0} (R : Ring A) where
  infixl 60 ◌+◌
  infixl 60 ◌∸◌
  open R use {plus as ◌+◌, negative as neg}

  abbrev ◌∸◌ : A → A → A
  a ∸ b = a + neg b

  -- n columns, a map for each, and the sum s of what these make of them; all columns are those of g but for x and y
  module _ (n : ℕ) (T : ℕ → (ℕ → A) → ℕ → A) (x y : ℕ) (f g : ℕ → ℕ → A) (s : ℕ → A) (others : (b : ℕ) → b < n → b ≢ x → b ≢ y → f b ≡ g b) where
    abbrev total : ℕ → A
    total a = sum R n (λ b. T b (f b) a)

    abbrev left : ℕ → A
    left a = s a ∸ but_two R n x y (λ b. T b (g b) a)

    at : (a : ℕ) (b : ℕ) → b < n → b ≢ x → b ≢ y → T b (f b) a ≡ T b (g b) a
    at a b l h k = ap (λ C. T b C a) (others b l h k)

    module _ (lx : x < n) (ly : y < n) (h : x ≢ y) where
      pub two_left : total ≡ s → (λ a. T x (f x) a + T y (f y) a) ≡ left
      two_left e = fun_ext λ a. less_rest R _ _ _ (s a) (sum_but_two R n x y _ _ (at a) lx ly h) (ap (λ C. C a) e)

      pub two_total : (λ a. T x (f x) a + T y (f y) a) ≡ left → total ≡ s
      two_total e = fun_ext λ a. with_rest R _ _ _ (s a) (sum_but_two R n x y _ _ (at a) lx ly h) (ap (λ C. C a) e)

    module _ (lx : x < n) (ly : n ≤ y) where
      pub one_left : total ≡ s → T x (f x) ≡ left
      one_left e = fun_ext λ a. less_rest R _ _ _ (s a) (sum_but_one R n x y _ _ (at a) lx ly) (ap (λ C. C a) e)

      pub one_total : T x (f x) ≡ left → total ≡ s
      one_total e = fun_ext λ a. with_rest R _ _ _ (s a) (sum_but_one R n x y _ _ (at a) lx ly) (ap (λ C. C a) e)

-- the columns g with X at x and Y at y
module _ {B : Type 0} (x y : ℕ) (X Y : B) (g : ℕ → B) where
  abbrev pub placed : ℕ → B
  placed b = if b == x then X else (if b == y then Y else g b)

  pub placed_x : placed x ≡ X
  placed_x = if_same x x refl _ _

  pub placed_y : y ≢ x → placed y ≡ Y
  placed_y h = if_other y x h _ _ ∙ if_same y y refl _ _

  pub placed_else : (b : ℕ) → b ≢ x → b ≢ y → placed b ≡ g b
  placed_else b h k = if_other b x h _ _ ∙ if_other b y k _ _

  -- what holds of X at x, of Y at y and of g elsewhere holds of it
  pub placed_by : (P : B → Type 0) (b : ℕ) → (b ≡ x → P X) → (b ≡ y → P Y) → (b ≢ x → b ≢ y → P (g b)) → P (placed b)
  placed_by P b ex ey e =
      elim (cases_eq b x) [
        | inl h ↦ subst P (sym (if_same b x h _ _)) (ex h)
        | inr h ↦
            elim (cases_eq b y) [
              | inl k ↦ subst P (sym (if_other b x h _ _ ∙ if_same b y k _ _)) (ey k)
              | inr k ↦ subst P (sym (placed_else b h k)) (e h k)
            ]
      ]
