-- Sums over the numbers below n, and with one or two of them left out. Assumes nothing.
use Rattle.std.proofs.Common.{◌≡◌, ℕ, zero, suc, ◌+◌ as ◌plus◌, ◌<◌, ◌≤◌, Bool, true, false, if◌then◌else◌, ◌||◌, ◌==◌, ◌≢◌, [], ◌∷◌, sym, refl, ap, ◌∙◌, ap₂, inl, inr, add-one, eq-eqb, ne_eqb, arith}
use Rattle.std.proofs.lemmas.Bool.{cases_eq, cond-true, cond-false}
use Rattle.field.specs.Ring.{Ring}
use Rattle.code.specs.Codes.{sum}
use Rattle.field.proofs.Solver.{o, i, ◌⊕◌, ◌⊖◌, ⊝◌, ◌≐◌, ◌⟸◌, ◌·◌, ring, ring_by}

-- one value where two numbers are the same, another elsewhere
pub if_same : {B : Type 0} (a b : ℕ) → a ≡ b → (v w : B) → (if a == b then v else w) ≡ v
if_same a b e v w = cond-true (a == b) v w (eq-eqb a b e)

pub if_other : {B : Type 0} (a b : ℕ) → a ≢ b → (v w : B) → (if a == b then v else w) ≡ w
if_other a b n v w = cond-false (a == b) v w (ne_eqb a b n)

module _ {A : Type 0} (R : Ring A) where
  infixl 60 ◌+◌
  open R use {zero as nil, one, plus as ◌+◌, times as ◌*◌, negative as neg}

  -- the sum over the others than x
  abbrev pub but : ℕ → ℕ → (ℕ → A) → A
  but n x f = sum R n (λ b. if b == x then nil else f b)

  pub sum_ext : (n : ℕ) (f g : ℕ → A) → ((b : ℕ) → b < n → f b ≡ g b) → sum R n f ≡ sum R n g
  sum_ext zero f g h = refl
  sum_ext (suc n) f g h = ap₂ ◌+◌ (sum_ext n f g (λ b l. h b (omega arith))) (h n (omega arith))

  pub left_out : (b x : ℕ) (v w : A) → (b ≢ x → v ≡ w) → (if b == x then nil else v) ≡ (if b == x then nil else w)
  left_out b x v w e =
      elim (cases_eq b x) [
        | inl h ↦ if_same b x h nil v ∙ sym (if_same b x h nil w)
        | inr n ↦ ap (λ y. if b == x then nil else y) (e n)
      ]

  pub but_ext : (n x : ℕ) (f g : ℕ → A) → ((b : ℕ) → b < n → b ≢ x → f b ≡ g b) → but n x f ≡ but n x g
  but_ext n x f g h = sum_ext n _ _ (λ b l. left_out b x (f b) (g b) (h b l))

  pub sum_but : (n x : ℕ) (f : ℕ → A) → x < n → sum R n f ≡ f x + but n x f
  sum_but zero x f l = absurd (omega arith)
  sum_but (suc n) x f l =
      elim (cases_eq n x) [
        | inl e ↦
            ap₂ ◌+◌ (sum_ext n f _ (λ b k. sym (if_other b x (omega arith) nil (f b)))) (ap f e)
            ∙ ring R (but n x f ∷ f x ∷ []) (λ s t. s ⊕ t ≐ t ⊕ (s ⊕ o)) refl
            ∙ ap (λ v. f x + (but n x f + v)) (sym (if_same n x e nil (f n)))
        | inr h ↦
            ap (λ s. s + f n) (sum_but n x f (omega arith))
            ∙ ring R (but n x f ∷ f x ∷ f n ∷ []) (λ s t v. t ⊕ s ⊕ v ≐ t ⊕ (s ⊕ v)) refl
            ∙ ap (λ v. f x + (but n x f + v)) (sym (if_other n x h nil (f n)))
      ]

  -- from a sum s of v and r, the part v, and back
  pub less_rest : (s v r t : A) → s ≡ v + r → s ≡ t → v ≡ t + neg r
  less_rest s v r t = ring_by R (s ∷ v ∷ r ∷ t ∷ []) (λ s v r t. v ≐ t ⊖ r ⟸ (⊝ i · s ≐ v ⊕ r) ∷ (i · s ≐ t) ∷ []) refl

  pub with_rest : (s v r t : A) → s ≡ v + r → v ≡ t + neg r → s ≡ t
  with_rest s v r t = ring_by R (s ∷ v ∷ r ∷ t ∷ []) (λ s v r t. s ≐ t ⟸ (i · s ≐ v ⊕ r) ∷ (i · v ≐ t ⊖ r) ∷ []) refl

  -- a term from the sum and the others, and the sum from a term and the others, where g has the others of f
  module _ (n x : ℕ) (f g : ℕ → A) (t : A) (l : x < n) (others : (b : ℕ) → b < n → b ≢ x → f b ≡ g b) where
    parted : sum R n f ≡ f x + but n x g
    parted = sum_but n x f l ∙ ap (λ s. f x + s) (but_ext n x f g others)

    pub term_left : sum R n f ≡ t → f x ≡ t + neg (but n x g)
    term_left = less_rest _ _ _ t parted

    pub sum_again : f x ≡ t + neg (but n x g) → sum R n f ≡ t
    sum_again = with_rest _ _ _ t parted

  -- the sum over the others than x and y
  abbrev pub but_two : ℕ → ℕ → ℕ → (ℕ → A) → A
  but_two n x y f = sum R n (λ b. if b == x || b == y then nil else f b)

  in_turn : (s t : Bool) (v : A) → (if s || t then nil else v) ≡ (if t then nil else (if s then nil else v))
  in_turn false false v = refl
  in_turn false true v = refl
  in_turn true false v = refl
  in_turn true true v = refl

  but_in_turn : (n x y : ℕ) (f : ℕ → A) → but_two n x y f ≡ but n y (λ b. if b == x then nil else f b)
  but_in_turn n x y f = sum_ext n _ _ (λ b l. in_turn (b == x) (b == y) (f b))

  module _ (n x y : ℕ) (f g : ℕ → A) (others : (b : ℕ) → b < n → b ≢ x → b ≢ y → f b ≡ g b) where
    pub but_two_ext : but_two n x y f ≡ but_two n x y g
    but_two_ext = but_in_turn n x y f ∙ but_ext n y _ _ (λ b l h. left_out b x (f b) (g b) (λ k. others b l k h)) ∙ sym (but_in_turn n x y g)

    -- a sum by its terms at x and y and the others, which g has too
    pub sum_but_two : x < n → y < n → x ≢ y → sum R n f ≡ f x + f y + but_two n x y g
    sum_but_two lx ly h =
        sum_but n x f lx
        ∙ ap (λ s. f x + s) (sum_but n y (λ b. if b == x then nil else f b) ly ∙ ap₂ ◌+◌ (if_other y x (λ e. h (sym e)) nil (f y)) (sym (but_in_turn n x y f) ∙ but_two_ext))
        ∙ sym (R.plus_assoc (f x) (f y) (but_two n x y g))

    -- and where only x is one of them
    pub sum_but_one : x < n → n ≤ y → sum R n f ≡ f x + but_two n x y g
    sum_but_one lx ly =
        sum_but n x f lx
        ∙ ap (λ s. f x + s) (sum_ext n _ _ (λ b l. sym (in_turn (b == x) (b == y) (f b) ∙ if_other b y (omega arith) nil _)) ∙ but_two_ext)

-- one term more
pub sum_more : {A : Type 0} (R : Ring A) (n : ℕ) (f : ℕ → A) → sum R (n plus 1) f ≡ R.plus (sum R n f) (f n)
sum_more R n f = ap (λ k. sum R k f) (add-one n)
