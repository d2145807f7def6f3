-- A file's columns and parities, and what the halves of all columns but one, and of the parities, say of that one. Assumes nothing.
use Rattle.std.proofs.Common.{◌≡◌, ℕ, zero, suc, ◌<◌, Bool, true, false, if◌then◌else◌, ◌==◌, ◌≢◌, [], ◌∷◌, sym, refl, ap, ◌∙◌, subst, ap₂, inl, inr}
use mathlib.Core.Path.{fun_ext}
use Rattle.std.proofs.lemmas.Bool.{cases_eq}
use Rattle.field.specs.Ring.{Ring}
use Rattle.code.specs.Codes.{sum}
use Rattle.field.proofs.Solver.{o, ◌⊕◌, ◌⊗◌, ◌≐◌, ring}
use Rattle.code.proofs.Digits.{Digits}
use Rattle.code.proofs.Operators.{Mat, mix, Op, op_add}
use Rattle.code.specs.declared.Kind.{Kind}
use Rattle.code.specs.Recovery.{eigenvalue, recover}
use Rattle.code.proofs.Matrices.{half_m, mat}
use Rattle.code.proofs.Halves.{after, halved, after_op, halved_op, half_same, half_else, restore, restored, Flat, restore_at, restore_half, restore_block}
use Rattle.code.proofs.Sums.{but, if_same, if_other, but_ext, term_left, sum_again}

-- n boxes, each with its kind and the place of its digit; two of one place differ in kind; each place has its two marks
pub record Boxes (A : Type 0) : Type 0 where
  pub n : ℕ
  pub kind : ℕ → Kind
  pub place : ℕ → ℕ
  pub apart : (b c : ℕ) → b < n → c < n → b ≢ c → place b ≡ place c → kind b ≢ kind c
  pub p : ℕ → A
  pub q : ℕ → A

-- a lost one of them, and the inverse of the difference of its marks
pub record Lost {A : Type 0} (R : Ring A) (B : Boxes A) : Type 0 where
  pub x : ℕ
  pub inside : x < B.n
  pub d : A
  pub inverse : R.times d (R.plus (B.q x) (R.negative (B.p x))) ≡ R.one

module _ {A Row : Type 0} (R : Ring A) (D : Digits Row) where
  infixl 60 ◌+◌
  infixl 70 ◌*◌
  open R use {zero as nil, one, plus as ◌+◌, times as ◌*◌, negative as neg}
  open D use {bit, to}

  -- row by row, the sum of n columns
  abbrev pub total : ℕ → (ℕ → Row → A) → Row → A
  total n f a = sum R n (λ b. f b a)

  op_total : (k : ℕ) (M : Mat A) (n : ℕ) (f : ℕ → Row → A) → Op R D k M (total n f) ≡ total n (λ b. Op R D k M (f b))
  op_total k M zero f = fun_ext λ a. ring R (M (bit k a) false ∷ M (bit k a) true ∷ []) (λ m n. m ⊗ o ⊕ n ⊗ o ≐ o) refl
  op_total k M (suc n) f = op_add R D k M (total n f) (f n) ∙ ap (λ X a. X a + Op R D k M (f n) a) (op_total k M n f)

  pub halved_total : (u : Kind) (k : ℕ) (n : ℕ) (f : ℕ → Row → A) → halved R D u k (total n f) ≡ total n (λ b. halved R D u k (f b))
  halved_total u k n f =
      halved_op R D u k (total n f) ∙ op_total k (half_m R u) n f ∙ ap (total n) (fun_ext λ b. sym (halved_op R D u k (f b)))

  module _ (B : Boxes A) where
    open B use {n, kind, place, p, q}

    abbrev pub blocks : ℕ → (Row → A) → Row → A
    blocks b = after R D (kind b) (place b) (p b) (q b)

    abbrev pub parity1 : (ℕ → Row → A) → Row → A
    parity1 f = total n f

    abbrev pub parity2 : (ℕ → Row → A) → Row → A
    parity2 f = total n (λ b. blocks b (f b))

    -- the file has these halves, for the lost box x; those of the two parities stand after those of the n boxes
    pub record Halves (x : ℕ) (f g : ℕ → Row → A) : Type 0 where
      pub each : (b : ℕ) → b < n → b ≢ x → halved R D (kind x) (place x) (f b) ≡ g b
      pub first : halved R D (kind x) (place x) (parity1 f) ≡ g n
      pub second : halved R D (kind x) (place x) (parity2 f) ≡ g (suc n)

    module _ (L : Lost R B) where
      open L use {x, inside, d, inverse}

      abbrev H : (Row → A) → Row → A
      H = halved R D (kind x) (place x)

      -- what the half of a box's column after its blocks is, from its half
      pub known : ℕ → (Row → A) → Row → A
      known b G a = if place b == place x then eigenvalue R (kind x) (kind b) (p b) (q b) * G a else blocks b G a

      pub known_at : (b : ℕ) (G : Row → A) (a : Row) → known b G a ≡ (if place b == place x then eigenvalue R (kind x) (kind b) (p b) (q b) * G a else blocks b G a)
      unfolding known
      known_at b G a = refl

      pub known_same : (b : ℕ) → place b ≡ place x → (G : Row → A) → known b G ≡ λ a. eigenvalue R (kind x) (kind b) (p b) (q b) * G a
      known_same b e G = fun_ext λ a. known_at b G a ∙ if_same (place b) (place x) e _ _

      pub known_else : (b : ℕ) → place b ≢ place x → (G : Row → A) → known b G ≡ blocks b G
      known_else b n G = fun_ext λ a. known_at b G a ∙ if_other (place b) (place x) n _ _

      known_is : (b : ℕ) → b < n → b ≢ x → (C : Row → A) → H (blocks b C) ≡ known b (H C)
      known_is b l h C =
          elim (cases_eq (place b) (place x)) [
            | inl e ↦
                subst (λ k. halved R D (kind x) k (blocks b C) ≡ λ a. eigenvalue R (kind x) (kind b) (p b) (q b) * halved R D (kind x) k C a) e
                (half_same R D (kind x) (kind b) (B.apart x b inside l (λ w. h (sym w)) (sym e)) (place b) (p b) (q b) C)
                ∙ sym (known_same b e (H C))
            | inr k ↦ half_else R D (kind x) (kind b) (place x) (place b) (λ w. k (sym w)) (p b) (q b) C ∙ sym (known_else b k (H C))
          ]

      -- the halves of the lost column and of what its blocks make of it
      need1 : (ℕ → Row → A) → Row → A
      need1 g a = g n a + neg (but R n x (λ b. g b a))

      need2 : (ℕ → Row → A) → Row → A
      need2 g a = g (suc n) a + neg (but R n x (λ b. known b (g b) a))

      -- a column of box x from two halves, and the column given by a set of halves
      abbrev back : (Row → A) → (Row → A) → Row → A
      back = restore R D (kind x) (place x) (p x) (q x) d

      pub given : (ℕ → Row → A) → Row → A
      given g = back (need1 g) (need2 g)

      part1 : (f g : ℕ → Row → A) → Halves x f g → H (f x) ≡ need1 g
      unfolding need1
      part1 f g h = fun_ext λ a.
          term_left R n x (λ b. H (f b) a) (λ b. g b a) (g n a) inside (λ b l k. ap (λ X. X a) (h.each b l k))
          (ap (λ X. X a) (sym (halved_total (kind x) (place x) n f) ∙ h.first))

      part2 : (f g : ℕ → Row → A) → Halves x f g → H (blocks x (f x)) ≡ need2 g
      unfolding need2
      part2 f g h = fun_ext λ a.
          term_left R n x (λ b. H (blocks b (f b)) a) (λ b. known b (g b) a) (g (suc n) a) inside (λ b l k. ap (λ X. X a) (known_is b l k (f b) ∙ ap (known b) (h.each b l k)))
          (ap (λ X. X a) (sym (halved_total (kind x) (place x) n (λ b. blocks b (f b))) ∙ h.second))

      -- every file that has the halves has the given column
      pub agree : (f g : ℕ → Row → A) → Halves x f g → f x ≡ given g
      unfolding given
      agree f g h = sym (restored R D (kind x) (place x) (p x) (q x) d inverse (f x)) ∙ ap₂ back (part1 f g h) (part2 f g h)

      -- and such a file there is, whatever the halves
      op_flat : (k l : ℕ) → l ≢ k → (M : Mat A) (G : Row → A) → Flat R D k G → Flat R D k (Op R D l M G)
      op_flat k l h M G g b a =
          ap₂ (λ c x. mix R M c x (G (to l true (to k b a)))) (D.bit_else l k h b a) (ap G (D.to_else l k h false b a) ∙ g b (to l false a))
          ∙ ap (mix R M (bit l a) (G (to l false a))) (ap G (D.to_else l k h true b a) ∙ g b (to l true a))

      known_flat : (b : ℕ) (G : Row → A) → Flat R D (place x) G → Flat R D (place x) (known b G)
      known_flat b G g =
          elim (cases_eq (place b) (place x)) [
            | inl e ↦ subst (Flat R D (place x)) (sym (known_same b e G)) (λ c a. ap (λ y. eigenvalue R (kind x) (kind b) (p b) (q b) * y) (g c a))
            | inr h ↦ subst (Flat R D (place x)) (sym (known_else b h G ∙ after_op R D (kind b) (place b) (p b) (q b) G)) (op_flat (place x) (place b) h (mat R (kind b) (p b) (q b)) G g)
          ]

      abbrev pub AllFlat : (ℕ → Row → A) → Type 0
      AllFlat g = (b : ℕ) → Flat R D (place x) (g b)

      flat1 : (g : ℕ → Row → A) → AllFlat g → Flat R D (place x) (need1 g)
      unfolding need1
      flat1 g h c a = ap₂ (λ y z. y + neg z) (h n c a) (but_ext R n x _ _ (λ b l k. h b c a))

      flat2 : (g : ℕ → Row → A) → AllFlat g → Flat R D (place x) (need2 g)
      unfolding need2
      flat2 g h c a = ap₂ (λ y z. y + neg z) (h (suc n) c a) (but_ext R n x _ _ (λ b l k. known_flat b (g b) (h b) c a))

      none : Row → A
      none a = nil

      made : (ℕ → Row → A) → ℕ → Row → A
      made g b = if b == x then given g else back (g b) none

      made_each : (g : ℕ → Row → A) → AllFlat g → (b : ℕ) → b ≢ x → H (made g b) ≡ g b
      unfolding made none
      made_each g h b k = ap H (if_other b x k _ _) ∙ restore_half R D (kind x) (place x) (p x) (q x) d inverse (g b) none (h b) (λ c a. refl)

      made_at : (g : ℕ → Row → A) → made g x ≡ given g
      unfolding made
      made_at g = if_same x x refl _ _

      pub exist : (g : ℕ → Row → A) → AllFlat g → (f : ℕ → Row → A) × Halves x f g
      unfolding given need1 need2
      exist g h =
          let f = made g in (
            f,
            record {
              each = λ b l k. made_each g h b k;
              first = halved_total (kind x) (place x) n f ∙ fun_ext λ a.
                  sum_again R n x (λ b. H (f b) a) (λ b. g b a) (g n a) inside (λ b l k. ap (λ X. X a) (made_each g h b k))
                  (ap (λ X. X a) (ap H (made_at g) ∙ restore_half R D (kind x) (place x) (p x) (q x) d inverse (need1 g) (need2 g) (flat1 g h) (flat2 g h)));
              second = halved_total (kind x) (place x) n (λ b. blocks b (f b)) ∙ fun_ext λ a.
                  sum_again R n x (λ b. H (blocks b (f b)) a) (λ b. known b (g b) a) (g (suc n) a) inside (λ b l k. ap (λ X. X a) (known_is b l k (f b) ∙ ap (known b) (made_each g h b k)))
                  (ap (λ X. X a) (ap (λ X. H (blocks x X)) (made_at g) ∙ restore_block R D (kind x) (place x) (p x) (q x) d inverse (need1 g) (need2 g) (flat1 g h) (flat2 g h)));
            },
          )

      -- the given column at a row, as the layers above read it
      pub given_at : (g : ℕ → Row → A) → AllFlat g → (b : Bool) (a : Row)
          → given g (to (place x) b a)
          ≡ recover R (kind x) (p x) (q x) d (g n a + neg (but R n x (λ b. g b a))) (g (suc n) a + neg (but R n x (λ b. known b (g b) a))) b
      unfolding given need1 need2
      given_at g h b a = restore_at R D (kind x) (place x) (p x) (q x) d (need1 g) (need2 g) (flat1 g h) (flat2 g h) b a
