-- The file that has given columns in all boxes but two, by which boxes are missing, where the blocks can be undone. Assumes nothing.
use Rattle.std.proofs.Common.{◌≡◌, ℕ, suc, ◌+◌, ◌*◌, ◌<◌, ◌≤◌, ◌≢◌, [], ◌∷◌, sym, refl, ap, ◌∙◌, ap₂, arith}
use mathlib.Core.Path.{fun_ext}
use Rattle.field.specs.Ring.{Ring}
use Rattle.field.proofs.Solver.{i, ◌⊕◌, ◌⊖◌, ⊝◌, ◌≐◌, ◌⟸◌, ◌·◌, ring, ring_by}
use Rattle.code.specs.Blocks.{◌∸◌}
use Rattle.code.specs.Codes.{Code, Column, File, kind, shift, eigen_p, eigen_q, image, parity1, parity2, sum}
use Rattle.code.proofs.Digits.{rows}
use Rattle.code.proofs.Halves.{after_op}
use Rattle.code.proofs.Matrices.{mat}
use Rattle.code.proofs.Missing.{placed, placed_x, placed_y, placed_else, placed_by, two_left, two_total, one_left, one_total}
use Rattle.code.proofs.Operators.{op_sub}
use Rattle.code.proofs.Solved.{difference}
use Rattle.code.proofs.Sums.{but_two}
use Rattle.code.proofs.Undone.{Undone}

module _ {A : Type 0} (c : Code A) where
  infixl 60 ◌⊹◌
  infixl 60 ◌−◌
  open c.ring use {plus as ◌⊹◌}

  abbrev R : Ring A
  R = c.ring

  abbrev n : ℕ
  n = c.kinds * c.size

  abbrev ◌−◌ : A → A → A
  a − b = ◌∸◌ R a b

  -- the file f has the columns g in all boxes but x and y, at all rows
  pub record Has (x y : ℕ) (f g : ℕ → Column c) : Type 0 where
    pub each : (b : ℕ) → b < n → b ≢ x → b ≢ y → f b ≡ g b
    pub first : n ≢ x → n ≢ y → parity1 c f ≡ g n
    pub second : suc n ≢ x → suc n ≢ y → parity2 c f ≡ g (suc n)

  -- a file made of them has them, and each that has them is that one
  pub record Decodes (x y : ℕ) (file : (ℕ → Column c) → File c) : Type 0 where
    pub has : (g : ℕ → Column c) → Has x y (file g) g
    pub is : (f g : ℕ → Column c) → Has x y f g → (b : ℕ) → b < n → f b ≡ file g b

  abbrev plain : ℕ → Column c → Column c
  plain b C = C

  -- what the blocks of a box make of a difference
  pub image_sub : (b : ℕ) (C E : Column c) (a : ℕ) → image c b (λ a. C a − E a) a ≡ image c b C a − image c b E a
  image_sub b C E a =
      let T = after_op R rows (kind c b) (shift c b) (eigen_p c b) (eigen_q c b) in
      ap (λ X. X a) (T (λ a. C a − E a) ∙ op_sub R rows (shift c b) (mat R (kind c b) (eigen_p c b) (eigen_q c b)) C E ∙ ap₂ (λ X Y a. X a − Y a) (sym (T C)) (sym (T E)))

  -- what the data boxes but x and y leave of a parity column, once their columns are taken off, or their images
  abbrev left_sum : ℕ → ℕ → (ℕ → Column c) → Column c → Column c
  left_sum x y g C a = C a − but_two R n x y (λ b. g b a)

  abbrev left_image : ℕ → ℕ → (ℕ → Column c) → Column c → Column c
  left_image x y g C a = C a − but_two R n x y (λ b. image c b (g b) a)

  -- two data boxes, where S undoes the difference of their blocks
  module _ (x y : ℕ) (S : Column c → Column c) where
    abbrev left1 : (ℕ → Column c) → Column c
    left1 g = left_sum x y g (g n)

    abbrev left2 : (ℕ → Column c) → Column c
    left2 g = left_image x y g (g (suc n))

    abbrev rest : (ℕ → Column c) → Column c
    rest g a = left2 g a − image c y (left1 g) a

    abbrev pub first_of_two : (ℕ → Column c) → Column c
    first_of_two g = S (rest g)

    abbrev pub second_of_two : (ℕ → Column c) → Column c
    second_of_two g a = left1 g a − first_of_two g a

    abbrev pub two_file : (ℕ → Column c) → File c
    two_file g = placed x y (first_of_two g) (second_of_two g) g

    two_each : (g : ℕ → Column c) (b : ℕ) → b < n → b ≢ x → b ≢ y → two_file g b ≡ g b
    two_each g b l = placed_else x y (first_of_two g) (second_of_two g) g b

    second_is : (g : ℕ → Column c) (X Y : Column c) → (λ a. X a ⊹ Y a) ≡ left1 g → Y ≡ λ a. left1 g a − X a
    second_is g X Y e = fun_ext λ a. ring_by R (X a ∷ Y a ∷ left1 g a ∷ []) (λ u v s. v ≐ s ⊖ u ⟸ (i · u ⊕ v ≐ s) ∷ []) refl (ap (λ C. C a) e)

    module _ (u : Undone R rows (difference c x y) S) where
      images : (g : ℕ → Column c) (a : ℕ) → image c x (first_of_two g) a ⊹ image c y (second_of_two g) a ≡ left2 g a
      images g a =
          ring_by R (image c x (first_of_two g) a ∷ image c y (second_of_two g) a ∷ image c y (first_of_two g) a ∷ left2 g a ∷ image c y (left1 g) a ∷ [])
          (λ u v w s t. u ⊕ v ≐ s ⟸ (i · v ≐ t ⊖ w) ∷ (i · u ⊖ w ≐ s ⊖ t) ∷ []) refl
          (image_sub y (left1 g) (first_of_two g) a) (ap (λ X. X a) (u.solves (rest g)))

      first_is : (g : ℕ → Column c) (X Y : Column c) → (λ a. X a ⊹ Y a) ≡ left1 g → (λ a. image c x X a ⊹ image c y Y a) ≡ left2 g → X ≡ first_of_two g
      first_is g X Y e k =
          sym (u.again X)
          ∙ ap S (fun_ext λ a.
          ring_by R (image c x X a ∷ image c y Y a ∷ image c y X a ∷ left2 g a ∷ image c y (left1 g) a ∷ [])
          (λ u v w s t. u ⊖ w ≐ s ⊖ t ⟸ (i · u ⊕ v ≐ s) ∷ (⊝ i · v ≐ t ⊖ w) ∷ []) refl
          (ap (λ C. C a) k) (ap (λ C. image c y C a) (second_is g X Y e) ∙ image_sub y (left1 g) X a))

      pub two_decodes : x < n → y < n → x ≢ y → Decodes x y two_file
      two_decodes hx hy h = record {
        has = λ g.
            let f = two_file g in
            let e : f x ≡ first_of_two g = placed_x x y (first_of_two g) (second_of_two g) g in
            let k : f y ≡ second_of_two g = placed_y x y (first_of_two g) (second_of_two g) g (λ w. h (sym w)) in
            record {
              each = two_each g;
              first = λ w v. two_total R n plain x y f g (g n) (two_each g) hx hy h
                  (ap₂ (λ X Y a. X a ⊹ Y a) e k ∙ fun_ext λ a. ring R (first_of_two g a ∷ left1 g a ∷ []) (λ u s. u ⊕ (s ⊖ u) ≐ s) refl);
              second = λ w v. two_total R n (image c) x y f g (g (suc n)) (two_each g) hx hy h
                  (ap₂ (λ X Y a. image c x X a ⊹ image c y Y a) e k ∙ fun_ext (images g));
            };
        is = λ f g k b l.
            let s = two_left R n plain x y f g (g n) k.each hx hy h (k.first (λ w. omega arith) (λ w. omega arith)) in
            let t = two_left R n (image c) x y f g (g (suc n)) k.each hx hy h (k.second (λ w. omega arith) (λ w. omega arith)) in
            let e = first_is g (f x) (f y) s t in
            placed_by x y (first_of_two g) (second_of_two g) g (λ C. f b ≡ C) b
            (λ w. ap f w ∙ e) (λ w. ap f w ∙ second_is g (f x) (f y) s ∙ ap (λ X a. left1 g a − X a) e) (k.each b l);
      }

  -- one data box, where S undoes what the map of box x does: from the sum s of what the maps T make of all data boxes
  module _ (T : ℕ → Column c → Column c) (x y : ℕ) (S : Column c → Column c) where
    abbrev left : (ℕ → Column c) → Column c → Column c
    left g s a = s a − but_two R n x y (λ b. T b (g b) a)

    abbrev one_file : (ℕ → Column c) → Column c → File c
    one_file g s = placed x y (S (left g s)) (g y) g

    one_each : (g : ℕ → Column c) (s : Column c) (b : ℕ) → b < n → b ≢ x → b ≢ y → one_file g s b ≡ g b
    one_each g s b l = placed_else x y (S (left g s)) (g y) g b

    module _ (u : Undone R rows (T x) S) (hx : x < n) (hy : n ≤ y) where
      one_has : (g : ℕ → Column c) (s : Column c) → (λ a. sum R n (λ b. T b (one_file g s b) a)) ≡ s
      one_has g s = one_total R n T x y (one_file g s) g s (one_each g s) hx hy (ap (T x) (placed_x x y (S (left g s)) (g y) g) ∙ u.solves (left g s))

      one_is : (f g : ℕ → Column c) (s : Column c) → ((b : ℕ) → b < n → b ≢ x → b ≢ y → f b ≡ g b) → (λ a. sum R n (λ b. T b (f b) a)) ≡ s
          → (b : ℕ) → b < n → f b ≡ one_file g s b
      one_is f g s each e b l =
          placed_by x y (S (left g s)) (g y) g (λ C. f b ≡ C) b
          (λ w. ap f w ∙ sym (u.again (f x)) ∙ ap S (one_left R n T x y f g s each hx hy e)) (λ w. absurd (omega arith)) (each b l)

  -- with the first parity box, where S undoes its blocks
  abbrev pub first_file : ℕ → (Column c → Column c) → (ℕ → Column c) → File c
  first_file x S g = one_file (image c) x n S g (g (suc n))

  pub first_decodes : (x : ℕ) → x < n → (S : Column c → Column c) → Undone R rows (image c x) S → Decodes x n (first_file x S)
  first_decodes x hx S u = record {
    has = λ g. record {
      each = one_each (image c) x n S g (g (suc n));
      first = λ w v. absurd (v refl);
      second = λ w v. one_has (image c) x n S u hx (omega arith) g (g (suc n));
    };
    is = λ f g k. one_is (image c) x n S u hx (omega arith) f g (g (suc n)) k.each (k.second (λ w. omega arith) (λ w. omega arith));
  }

  -- and with the second
  abbrev pub second_file : ℕ → (ℕ → Column c) → File c
  second_file x g = one_file plain x (suc n) (plain x) g (g n)

  pub second_decodes : (x : ℕ) → x < n → Decodes x (suc n) (second_file x)
  second_decodes x hx =
      let u : Undone R rows (plain x) (plain x) = record { solves = λ C. refl; again = λ C. refl } in
      record {
        has = λ g. record {
          each = one_each plain x (suc n) (plain x) g (g n);
          first = λ w v. one_has plain x (suc n) (plain x) u hx (omega arith) g (g n);
          second = λ w v. absurd (v refl);
        };
        is = λ f g k. one_is plain x (suc n) (plain x) u hx (omega arith) f g (g n) k.each (k.first (λ w. omega arith) (λ w. omega arith));
      }

  -- the two parity boxes
  pub parities_decode : (x y : ℕ) → n ≤ x → x < n + 2 → n ≤ y → y < n + 2 → x ≢ y → Decodes x y (λ g. g)
  parities_decode x y hx lx hy ly h = record {
    has = λ g. record { each = λ b l w v. refl; first = λ w v. absurd (omega arith); second = λ w v. absurd (omega arith) };
    is = λ f g k b l. k.each b l (λ w. omega arith) (λ w. omega arith);
  }
