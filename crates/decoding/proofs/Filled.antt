-- The steps of the decoding, one after another, and what they lead to. Assumes nothing.
use Rattle.std.proofs.Common.{◌≡◌, ℕ, ◌+◌ as ◌plus◌, ◌^◌, ◌<◌, ◌≤◌, ◌≢◌, if◌then◌else◌, ◌==◌, ◌||◌, [], ◌∷◌, ◌⊎◌, sym, refl, ap, ap₂, ◌∙◌, arith}
use Rattle.std.proofs.lemmas.Bool.Decides.{nat_tests}
use Rattle.field.specs.Ring.{Ring}
use Rattle.field.proofs.Solver.{o, i, ◌⊕◌, ◌⊖◌, ⊝◌, ◌≐◌, ◌⟸◌, ◌·◌, ring, ring_by}
use Rattle.code.specs.Blocks.{◌∸◌}
use Rattle.code.specs.Codes.{Code, Column, File, Alike, data_boxes, sum, image, parity1, parity2}
use Rattle.code.proofs.Decodes.{image_sub}
use Rattle.code.proofs.Images.{image_same}
use Rattle.code.proofs.Sums.{but_two_ext, sum_but_two, sum_but_one, sum_more}
use Rattle.code.proofs.Theory.{shift_below}
use Rattle.columns.specs.Parities.{share}
use Rattle.columns.specs.declared.parity.Parity.{Parity}
use Rattle.columns.specs.declared.parity.Parity.TheVariants.{First, Second}
use Rattle.columns.proofs.Shares.{share_same}
use Rattle.decoding.specs.Steps.{Kept, Replaced, less, others, ByFirst, BySecond, ByBoth}

module _ {A : Type 0} (c : Code A) (some : 1 ≤ c.size) where
  infixl 60 ◌+◌
  abbrev R : Ring A
  R = c.ring

  abbrev ◌+◌ : A → A → A
  a + b = R.plus a b

  abbrev n : ℕ
  n = data_boxes c

  abbrev r : ℕ
  r = 2 ^ c.size

  -- a column and the others are kept: the shares of a box that is not changed are as they were
  share_kept : (which : Parity) (x b : ℕ) (f g : File c) → b ≢ x → Kept r x f g → (a : ℕ) → a < r → share which c b (g b) a ≡ share which c b (f b) a
  share_kept which x b f g h k = share_same which c b (g b) (f b) some (k b h)

  -- the shares of the data boxes but x and y, added one by one to the column in place into
  module _ (which : Parity) (x y into : ℕ) (f : File c) where
    abbrev term : ℕ → ℕ → A
    term a b = if b == x || b == y then R.zero else share which c b (f b) a

    abbrev pub Upto : ℕ → File c → Type 0
    Upto b g = Replaced r into f (λ a. f into a + sum R b (term a)) g

    left_aside : (b a : ℕ) → (b ≡ x) ⊎ (b ≡ y) → term a b ≡ R.zero
    left_aside b a e = grind (arith, nat_tests)

    taken_in : (b a : ℕ) → b ≢ x → b ≢ y → term a b ≡ share which c b (f b) a
    taken_in b a h k = grind (arith, nat_tests)

    one_more : (b : ℕ) (g h : File c) → Upto b g → ((a : ℕ) → a < r → h into a ≡ g into a + term a b) → Kept r into g h → Upto (b plus 1) h
    one_more b g h u at kept = record {
      here = λ a l.
          at a l ∙ ap (λ v. v + term a b) (u.here a l)
          ∙ ring_by R (f into a ∷ sum R b (term a) ∷ term a b ∷ sum R (b plus 1) (term a) ∷ []) (λ v s t w. v ⊕ s ⊕ t ≐ v ⊕ w ⟸ (⊝ i · w ≐ s ⊕ t) ∷ []) refl (sum_more R b (term a));
      others = λ d k a l. kept d k a l ∙ u.others d k a l;
    }

    pub upto_skip : (b : ℕ) (g : File c) → (b ≡ x) ⊎ (b ≡ y) → Upto b g → Upto (b plus 1) g
    upto_skip b g e u = one_more b g g u (λ a l. ring R (g into a ∷ []) (λ v. v ≐ v ⊕ o) refl ∙ ap (λ v. g into a + v) (sym (left_aside b a e))) (λ d k a l. refl)

    module _ (one : (b : ℕ) → b ≢ x → b ≢ y → b ≢ into) where
      pub upto_more : (b : ℕ) (g h : File c) → b ≢ x → b ≢ y → Upto b g → Replaced r into g (λ a. g into a + share which c b (g b) a) h → Upto (b plus 1) h
      upto_more b g h hx hy u s =
          one_more b g h u (λ a l. s.here a l ∙ ap (λ v. g into a + v) (share_kept which into b f g (one b hx hy) u.others a l ∙ sym (taken_in b a hx hy))) s.others

      -- the others are the same in a file in which the column into alone is changed
      pub others_kept : (g : File c) → Kept r into f g → (a : ℕ) → a < r → others which c x y g a ≡ others which c x y f a
      others_kept g k a l = but_two_ext R n x y (λ b. share which c b (g b) a) (λ b. share which c b (f b) a) (λ b h hx hy. share_kept which into b f g (one b hx hy) k a l)

  -- a column taken off another one: the negative of it, the sum, and the negative again
  pub taken : (x : ℕ) (f f1 f2 g : File c) (E D : Column c) → Replaced r x f (λ a. R.negative (f x a)) f1 → Replaced r x f1 (λ a. f1 x a + E a) f2
      → Replaced r x f2 (λ a. R.negative (f2 x a)) g → ((a : ℕ) → a < r → E a ≡ D a) → Replaced r x f (less R (f x) D) g
  taken x f f1 f2 g E D s1 s2 s3 e = record {
    here = λ a l.
        ring_by R (g x a ∷ f2 x a ∷ f1 x a ∷ f x a ∷ E a ∷ D a ∷ []) (λ z y w v s t. z ≐ v ⊖ t ⟸ (i · z ≐ ⊝ y) ∷ (⊝ i · y ≐ w ⊕ s) ∷ (⊝ i · w ≐ ⊝ v) ∷ (⊝ i · s ≐ t) ∷ []) refl
        (s3.here a l) (s2.here a l) (s1.here a l) (e a l);
    others = λ b h a l. s3.others b h a l ∙ s2.others b h a l ∙ s1.others b h a l;
  }

  -- one missing data column, by the first parity
  pub by_first : (x y : ℕ) (f g : File c) → x < n → n ≤ y → Replaced r x f (less R (f x) (others First c x y f)) g → ByFirst c x f g
  by_first x y f g hx hy s = record {
    others = λ b l h. s.others b h;
    first = λ a l.
        sum_but_one R n x y (λ b. g b a) (λ b. f b a) (λ b k h w. s.others b h a l) hx hy
        ∙ ap (λ v. v + others First c x y f a) (s.here a l)
        ∙ ring R (f x a ∷ others First c x y f a ∷ []) (λ v s. v ⊖ s ⊕ s ≐ v) refl;
  }

  image_kept : (b x : ℕ) (f g : File c) → b ≢ x → Kept r x f g → (a : ℕ) → a < r → image c b (g b) a ≡ image c b (f b) a
  image_kept b x f g h k = share_kept Second x b f g h k

  -- by the second parity
  pub by_second : (x y : ℕ) (f f1 g : File c) → x < n → n ≤ y → Replaced r x f (less R (f x) (others Second c x y f)) f1 → Kept r x f1 g → Alike c (f1 x) (image c x (g x)) → BySecond c x f g
  by_second x y f f1 g hx hy s kept undone =
      let all : Kept r x f g = λ b h a l. kept b h a l ∙ s.others b h a l in
      record {
        others = λ b l h. all b h;
        second = λ a l.
            sum_but_one R n x y (λ b. image c b (g b) a) (λ b. image c b (f b) a) (λ b k h w. image_kept b x f g h all a l) hx hy
            ∙ ap (λ v. v + others Second c x y f a) (sym (undone a l) ∙ s.here a l)
            ∙ ring R (f x a ∷ others Second c x y f a ∷ []) (λ v s. v ⊖ s ⊕ s ≐ v) refl;
      }

  -- two missing data columns
  module _ (x y : ℕ) (hx : x < n) (hy : y < n) (xy : x ≢ y) (f f1 f2 f3 f4 g : File c)
      (s1 : Replaced r x f (less R (f x) (others First c x y f)) f1) (s2 : Replaced r y f1 (less R (f1 y) (others Second c x y f1)) f2)
      (s3 : Replaced r y f2 (less R (f2 y) (image c x (f2 x))) f3) (kept : Kept r y f3 f4)
      (solved : Alike c (f3 y) (less R (image c y (f4 y)) (image c x (f4 y)))) (s5 : Replaced r x f4 (less R (f4 x) (f4 y)) g) where
    yx : y ≢ x
    yx e = xy (sym e)

    both_others : (b : ℕ) → b ≢ x → b ≢ y → Alike c (g b) (f b)
    both_others b h k a l = s5.others b h a l ∙ kept b k a l ∙ s3.others b k a l ∙ s2.others b k a l ∙ s1.others b h a l

    -- x holds the sum of the missing columns, less that of y
    at_x : (a : ℕ) → a < r → g x a ≡ ◌∸◌ R (f2 x a) (g y a)
    at_x a l = s5.here a l ∙ ap₂ (◌∸◌ R) (kept x xy a l ∙ s3.others x xy a l) (sym (s5.others y yx a l))

    both_first : (a : ℕ) → a < r → parity1 c g a ≡ f x a
    both_first a l =
        sum_but_two R n x y (λ b. g b a) (λ b. f b a) (λ b k h w. both_others b h w a l) hx hy xy
        ∙ ring_by R (g x a ∷ g y a ∷ f2 x a ∷ f x a ∷ others First c x y f a ∷ []) (λ u v w t s. u ⊕ v ⊕ s ≐ t ⟸ (i · u ≐ w ⊖ v) ∷ (i · w ≐ t ⊖ s) ∷ []) refl
        (at_x a l) (s2.others x xy a l ∙ s1.here a l)

    -- the image of what x holds, and what the solved column says
    image_x : (a : ℕ) → a < r → image c x (g x) a ≡ ◌∸◌ R (image c x (f2 x) a) (image c x (g y) a)
    image_x a l = image_same c x (g x) (λ a. ◌∸◌ R (f2 x a) (g y a)) (shift_below c x some) at_x a l ∙ image_sub c x (f2 x) (g y) a

    same_y : (a : ℕ) → a < r → f4 y a ≡ g y a
    same_y a l = sym (s5.others y yx a l)

    solved_y : (a : ℕ) → a < r → f3 y a ≡ ◌∸◌ R (image c y (g y) a) (image c x (g y) a)
    solved_y a l =
        solved a l
        ∙ ap₂ (◌∸◌ R) (image_same c y (f4 y) (g y) (shift_below c y some) same_y a l) (image_same c x (f4 y) (g y) (shift_below c x some) same_y a l)

    at_y : (a : ℕ) → a < r → f2 y a ≡ ◌∸◌ R (f y a) (others Second c x y f a)
    at_y a l = s2.here a l ∙ ap₂ (◌∸◌ R) (s1.others y yx a l) (others_kept Second x y x f (λ b h k. h) f1 s1.others a l)

    both_second : (a : ℕ) → a < r → parity2 c g a ≡ f y a
    both_second a l =
        sum_but_two R n x y (λ b. image c b (g b) a) (λ b. image c b (f b) a) (λ b k h w. image_same c b (g b) (f b) (shift_below c b some) (both_others b h w) a l) hx hy xy
        ∙ ring_by R (image c x (g x) a ∷ image c y (g y) a ∷ image c x (f2 x) a ∷ image c x (g y) a ∷ f3 y a ∷ f2 y a ∷ f y a ∷ others Second c x y f a ∷ [])
        (λ u v w z t s p q. u ⊕ v ⊕ q ≐ p ⟸ (i · u ≐ w ⊖ z) ∷ (⊝ i · t ≐ v ⊖ z) ∷ (i · t ≐ s ⊖ w) ∷ (i · s ≐ p ⊖ q) ∷ []) refl
        (image_x a l) (solved_y a l) (s3.here a l) (at_y a l)

    pub by_both : ByBoth c x y f g
    by_both = record { others = λ b l h k. both_others b h k; first = both_first; second = both_second }
