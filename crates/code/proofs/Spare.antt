-- No number of the halves can be spared: with one number raised by one, the halves give another lost column. Assumes nothing.
use Rattle.std.proofs.Common.{◌≡◌, ℕ, suc, ◌-◌, ◌*◌, ◌^◌, ◌<◌, ◌≤◌, Bool, true, false, ◌&&◌, if◌then◌else◌, ◌==◌, ◌≢◌, [], ◌∷◌, sym, refl, ap, ◌∙◌, subst, ap₂, inl, inr, arith}
use mathlib.Core.Path.{fun_ext}
use Rattle.std.proofs.lemmas.Bool.{cases_order}
use Rattle.std.proofs.lemmas.Bool.Decides.{nat_tests}
use Rattle.field.specs.Ring.{Ring, Divides}
use Rattle.field.proofs.Solver.{o, i, ◌⊕◌, ◌⊖◌, ◌≐◌, ◌⟸◌, ◌·◌, ⊝◌, ring_by}
use Rattle.code.specs.Blocks.{◌∸◌}
use Rattle.code.specs.Codes.{Code, Proper, sum, kind, shift, eigen_p, eigen_q, column, half_for, helper, data_boxes, Alike, HasHalves}
use Rattle.code.specs.Laws.{NoneToSpare}
use Rattle.code.specs.Recovery.{seat, recover, half_image, taken, taken_image, lost_half, lost_image, recovered}
use Rattle.code.specs.Rows.{odd, digit, partner, lower, pair_of}
use Rattle.code.specs.declared.Kind.{Kind}
use Rattle.code.proofs.Digits.{partner_lt, bit_to_c}
use Rattle.code.proofs.Matrices.{mat, half_m, recover_half, recover_block}
use Rattle.code.proofs.Operators.{mix, times}
use Rattle.code.proofs.Pairing.{pair_lower, pair_partner, lower_below}
use Rattle.code.proofs.Seats.{seat_apart, seat_helper, helper_apart, helper_most}
use Rattle.code.proofs.Sums.{but, if_other, left_out, but_ext, sum_but}
use Rattle.code.proofs.Theory.{gap_inverse, shift_below, restorable, recovered_given}

module _ {A : Type 0} (R : Ring A) where
  -- a sum in which one term is raised
  sum_raised : (n b : ℕ) (f f' : ℕ → A) (e : A) → b < n → f' b ≡ R.plus (f b) e → ((a : ℕ) → a < n → a ≢ b → f' a ≡ f a)
      → sum R n f' ≡ R.plus (sum R n f) e
  sum_raised n b f f' e l at others =
      ring_by R (sum R n f' ∷ sum R n f ∷ f' b ∷ f b ∷ but R n b f ∷ e ∷ [])
      (λ s' s t' t r e. s' ≐ s ⊕ e ⟸ (i · s' ≐ t' ⊕ r) ∷ (i · t ⊕ r ≐ s) ∷ (i · t' ≐ t ⊕ e) ∷ []) refl
      (sum_but R n b f' l ∙ ap (R.plus (f' b)) (but_ext R n b f' f others)) (sym (sum_but R n b f l)) at

  -- a pair that is recovered tells what it was recovered from
  same_half : (u : Kind) (p q d g h g' h' : A) → R.times d (◌∸◌ R q p) ≡ R.one
      → ((b : Bool) → recover R u p q d g h b ≡ recover R u p q d g' h' b) → g ≡ g'
  same_half u p q d g h g' h' inverse e =
      sym (recover_half R u p q d g h false inverse)
      ∙ ap₂ (mix R (half_m R u) false) (e false) (e true)
      ∙ recover_half R u p q d g' h' false inverse

  same_block : (u : Kind) (p q d g h g' h' : A) → R.times d (◌∸◌ R q p) ≡ R.one
      → ((b : Bool) → recover R u p q d g h b ≡ recover R u p q d g' h' b) → h ≡ h'
  same_block u p q d g h g' h' inverse e =
      sym (recover_block R u p q d g h false inverse)
      ∙ ap₂ (mix R (times R (half_m R u) (mat R u p q)) false) (e false) (e true)
      ∙ recover_block R u p q d g' h' false inverse

  -- the halves with number j in place h raised by one
  abbrev raised : ℕ → ℕ → (ℕ → ℕ → A) → ℕ → ℕ → A
  raised h j g y l = if y == h && l == j then R.plus (g y l) R.one else g y l

  raised_at : (h j : ℕ) (g : ℕ → ℕ → A) → raised h j g h j ≡ R.plus (g h j) R.one
  raised_at h j g = grind (arith, nat_tests)

  raised_else : (h j : ℕ) (g : ℕ → ℕ → A) (y : ℕ) → y ≢ h → raised h j g y ≡ g y
  raised_else h j g y n = fun_ext λ l. grind (arith, nat_tests)

  raised_but : (h j : ℕ) (g : ℕ → ℕ → A) (y l : ℕ) → (y ≡ h → l ≢ j) → raised h j g y l ≡ g y l
  raised_but h j g y l n = grind (arith, nat_tests)

  -- a difference with one of its two sides raised by one is another, unless zero is one
  more_differs : (p t p' t' : A) → p' ≡ R.plus p R.one → t' ≡ t → ◌∸◌ R p t ≡ ◌∸◌ R p' t' → R.zero ≡ R.one
  more_differs p t p' t' =
      ring_by R (p ∷ t ∷ p' ∷ t' ∷ []) (λ p t p' t'. o ≐ i ⟸ (i · p' ≐ p ⊕ i) ∷ (⊝ i · t' ≐ t) ∷ (i · p ⊖ t ≐ p' ⊖ t') ∷ []) refl

  less_differs : (p t p' t' : A) → p' ≡ p → t' ≡ R.plus t R.one → ◌∸◌ R p t ≡ ◌∸◌ R p' t' → R.zero ≡ R.one
  less_differs p t p' t' =
      ring_by R (p ∷ t ∷ p' ∷ t' ∷ []) (λ p t p' t'. o ≐ i ⟸ (⊝ i · p' ≐ p) ∷ (i · t' ≐ t ⊕ i) ∷ (⊝ i · p ⊖ t ≐ p' ⊖ t') ∷ []) refl

module _ {A : Type 0} (c : Code A) (x : ℕ) (hx : x < data_boxes c) where
  abbrev R : Ring A
  R = c.ring

  abbrev m : ℕ
  m = c.size

  abbrev n : ℕ
  n = c.kinds * c.size

  abbrev k : ℕ
  k = shift c x

  -- number j of the helper b is raised: then the half of the lost column or that of its image is another
  module _ (b : ℕ) (hb : b ≢ x) (j : ℕ) (g : ℕ → ℕ → A) where
    abbrev g' : ℕ → ℕ → A
    g' = raised R (seat x b) j g

    else_box : (a : ℕ) → a ≢ x → a ≢ b → g' (seat x a) ≡ g (seat x a)
    else_box a h e = raised_else R (seat x b) j g (seat x a) (seat_apart x a b h hb e)

    -- what box b takes off is one more
    own_term : (if b == x then R.zero else g' (seat x b) j) ≡ R.plus (if b == x then R.zero else g (seat x b) j) R.one
    own_term = if_other b x hb _ _ ∙ raised_at R (seat x b) j g ∙ ap (λ v. R.plus v R.one) (sym (if_other b x hb _ _))

    own_half : (a : ℕ) → b ≡ a → g' (seat x a) j ≡ R.plus (g (seat x a) j) R.one
    own_half a e = subst (λ y. g' (seat x y) j ≡ R.plus (g (seat x y) j) R.one) e (raised_at R (seat x b) j g)

    data_differs : b < n → lost_half c x g j ≡ lost_half c x g' j → R.zero ≡ R.one
    data_differs l =
        less_differs R (g (seat x n) j) (taken c x n g j) (g' (seat x n) j) (taken c x n g' j) (ap (λ G. G j) (else_box n (λ e. omega arith) (λ e. omega arith)))
        (sum_raised R n b _ _ R.one l own_term (λ a h e. left_out R a x _ _ (λ k. ap (λ G. G j) (else_box a k e))))

    first_differs : b ≡ n → lost_half c x g j ≡ lost_half c x g' j → R.zero ≡ R.one
    first_differs h =
        more_differs R (g (seat x n) j) (taken c x n g j) (g' (seat x n) j) (taken c x n g' j) (own_half n h)
        (but_ext R n x _ _ (λ a l k. ap (λ G. G j) (else_box a k (λ e. omega arith))))

    second_differs : b ≡ suc n → lost_image c x g j ≡ lost_image c x g' j → R.zero ≡ R.one
    second_differs h =
        more_differs R (g (seat x (suc n)) j) (taken_image c x n g j) (g' (seat x (suc n)) j) (taken_image c x n g' j) (own_half (suc n) h)
        (but_ext R n x _ _ (λ a l k. ap (λ G. half_image c x a G j) (else_box a k (λ e. omega arith))))

    differs : b < suc (suc n) → lost_half c x g j ≡ lost_half c x g' j → lost_image c x g j ≡ lost_image c x g' j → R.zero ≡ R.one
    differs l e e' =
        elim (cases_order b n) [
          | inl v ↦ first_differs v e
          | inr (inl h) ↦ data_differs h e
          | inr (inr h) ↦ second_differs (omega arith) e'
        ]

  -- the same by the helper's place
  place_differs : (h : ℕ) → h < suc n → (j : ℕ) (g : ℕ → ℕ → A)
      → lost_half c x g j ≡ lost_half c x (raised R h j g) j → lost_image c x g j ≡ lost_image c x (raised R h j g) j → R.zero ≡ R.one
  place_differs h l j g =
      subst (λ y. lost_half c x g j ≡ lost_half c x (raised R y j g) j → lost_image c x g j ≡ lost_image c x (raised R y j g) j → R.zero ≡ R.one)
      (seat_helper c x h) (differs (helper c x h) (helper_apart c x h) j g (helper_most c x h (suc n) l))

  module _ (ok : Proper c) where
    -- the marks tell zero from one
    apart : R.zero ≡ R.one → ⊥
    apart e =
        let s : 1 ≤ m = ok.some in
        ok.mark_not_zero 1 (omega arith) (omega arith) (ring_by R (c.mark 1 ∷ []) (λ a. a ≐ o ⟸ (⊝ a · o ≐ i) ∷ []) refl e)

    module _ (d : A) (inverse : R.times d (◌∸◌ R (eigen_q c x) (eigen_p c x)) ≡ R.one) where
      -- the two rows of a pair
      abbrev row : Bool → ℕ → ℕ
      row b j = partner k b (lower k j)

      row_below : (b : Bool) (j : ℕ) → j < 2 ^ (m - 1) → row b j < 2 ^ m
      row_below b j l = let h : k < m = shift_below c x ok.some in partner_lt m k b (lower k j) h (lower_below m k j h l)

      -- a lost column is the recovered one, pair by pair
      pair_recovered : (f g : ℕ → ℕ → A) → HasHalves c x f g → (j : ℕ) → j < 2 ^ (m - 1) → (b : Bool) → f x (row b j) ≡ recovered c x d g j b
      pair_recovered f g has j l b =
          recovered_given c ok x hx d inverse g (λ a. recovered c x d g (pair_of k a) (odd (digit k a))) (λ a l. refl) f has (row b j) (row_below b j l)
          ∙ ap₂ (recovered c x d g) (pair_partner k b (lower k j) ∙ pair_lower k j) (bit_to_c k b (lower k j))

      -- so files with the same lost column have the same recovered pairs
      pairs_alike : (f g f' g' : ℕ → ℕ → A) → HasHalves c x f g → HasHalves c x f' g' → Alike c (f x) (f' x) → (j : ℕ) → j < 2 ^ (m - 1) → (b : Bool)
          → recovered c x d g j b ≡ recovered c x d g' j b
      pairs_alike f g f' g' has has' same j l b =
          sym (pair_recovered f g has j l b) ∙ same (row b j) (row_below b j l) ∙ pair_recovered f' g' has' j l b

      -- the other file is one that has the raised halves
      none_to_spare : NoneToSpare c x
      none_to_spare h lh j lj f =
          let g : ℕ → ℕ → A = λ y l. half_for c x (column c f (helper c x y)) l in
          let g' : ℕ → ℕ → A = raised R h j g in
          let made = (restorable c ok x hx d inverse).exists g' in (
            made.0,
            (λ y ly l ll e. sym (made.1 y ly l ll ∙ raised_but R h j g y l e)),
            (λ same.
                let e : (b : Bool) → recovered c x d g j b ≡ recovered c x d g' j b = pairs_alike f g made.0 g' (λ y ly l ll. refl) made.1 same j lj in
                apart (place_differs h lh j g (same_half R (kind c x) (eigen_p c x) (eigen_q c x) d _ _ _ _ inverse e)
                (same_block R (kind c x) (eigen_p c x) (eigen_q c x) d _ _ _ _ inverse e))),
          )

-- whichever number is left out of the halves, every file has another that differs in the lost column
pub spare : {A : Type 0} (c : Code A) → Proper c → Divides c.ring → (x : ℕ) → x < data_boxes c → NoneToSpare c x
spare c ok divides x hx =
    let d = gap_inverse c ok divides x in
    none_to_spare c x hx ok d.0 d.1
