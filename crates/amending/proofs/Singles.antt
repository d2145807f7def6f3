-- Lemmas on the file that is zero but for one symbol: what each box holds of it. Assumes nothing.
use Rattle.std.proofs.Common.{◌≡◌, ◌≢◌, ℕ, zero, suc, ◌+◌, ◌*◌, ◌^◌, ◌<◌, ⊎_elim, Bool, true, false, not, ◌&&◌, ◌||◌, ◌==◌, if◌then◌else◌, [], ◌∷◌, sym, refl, ap, ap₂, ◌∙◌, subst, inl, inr, true≢false, arith}
use Rattle.std.proofs.lemmas.Bool.{cases_eq}
use mathlib.Core.Path.{fun_ext}
use Rattle.boxes.specs.Boxes.{BlockOf}
use Rattle.field.specs.Ring.{Ring}
use Rattle.field.specs.Symbols.{Symbols}
use Rattle.field.proofs.Solver.{o, ◌⊕◌, ◌⊗◌, ◌⊖◌, ◌≐◌, ring}
use Rattle.code.specs.Blocks.{block}
use Rattle.code.specs.Codes.{Code, File, Column, column, data_boxes, eigen_p, eigen_q, full, image, kind, shift, sum}
use Rattle.code.specs.Rows.{digit, odd, partner}
use Rattle.code.specs.declared.Kind.{Kind}
use Rattle.code.specs.declared.Kind.TheVariants.{Lower, Upper, Sum}
use Rattle.code.proofs.Columns.{by_box, column_data, column_first, column_second}
use Rattle.code.proofs.Digits.{bit_to_c, partner_lt, rows, to_bit_c, to_to_c}
use Rattle.code.proofs.Halves.{after_op}
use Rattle.code.proofs.Matrices.{mat}
use Rattle.code.proofs.Operators.{op_add}
use Rattle.code.proofs.Sums.{if_other, if_same, sum_but}
use Rattle.std.specs.Bool.{OnFalse, OnTrue}
use Rattle.shelf.specs.Meaning.{Meaning}
use Rattle.amending.specs.Changes.{Moved, carries, in_image, other_row, single, touches, upper}
use Rattle.amending.proofs.Moves.{moved_as, moved_then, plus_none, single_else, single_here}

module _ {A : Type 0} (R : Ring A) where
  open R use {zero as nil, plus as add}

  sum_none : (n : ℕ) (f : ℕ → A) → ((b : ℕ) → b < n → f b ≡ nil) → sum R n f ≡ nil
  sum_none zero f h = refl
  sum_none (suc n) f h = ap₂ add (sum_none n f (λ b l. h b (omega arith))) (h n (omega arith)) ∙ R.zero_plus nil

  -- the sum of one term that may not be zero
  sum_one : (n x : ℕ) (f : ℕ → A) → x < n → ((b : ℕ) → b < n → b ≢ x → f b ≡ nil) → sum R n f ≡ f x
  sum_one n x f l h =
      sum_but R n x f l
      ∙ ap (add (f x)) (sum_none n _ (λ b k. ⊎_elim (λ e. if_same b x e nil (f b)) (λ e. if_other b x e nil (f b) ∙ h b k e) (cases_eq b x)))
      ∙ R.plus_comm (f x) nil ∙ R.zero_plus (f x)

  sum_plus : (n : ℕ) (f g : ℕ → A) → sum R n (λ b. add (f b) (g b)) ≡ add (sum R n f) (sum R n g)
  sum_plus zero f g = sym (R.zero_plus nil)
  sum_plus (suc n) f g =
      ap (λ s. add s (add (f n) (g n))) (sum_plus n f g)
      ∙ ring R (sum R n f ∷ sum R n g ∷ f n ∷ g n ∷ []) (λ s t x y. (s ⊕ t) ⊕ (x ⊕ y) ≐ (s ⊕ x) ⊕ (t ⊕ y)) refl

  -- a block makes nothing of nothing
  block_none : (u : Kind) (p q : A) (r : Bool) → block R u p q nil nil r ≡ nil
  block_none Lower p q false = ring R (p ∷ q ∷ []) (λ p q. q ⊗ o ⊕ (q ⊖ p) ⊗ o ≐ o) refl
  block_none Lower p q true = ring R (p ∷ []) (λ p. p ⊗ o ≐ o) refl
  block_none Upper p q false = ring R (q ∷ []) (λ q. q ⊗ o ≐ o) refl
  block_none Upper p q true = ring R (p ∷ q ∷ []) (λ p q. (p ⊖ q) ⊗ o ⊕ p ⊗ o ≐ o) refl
  block_none Sum p q false = ring R (p ∷ []) (λ p. p ⊗ o ≐ o) refl
  block_none Sum p q true = ring R (q ∷ []) (λ q. q ⊗ o ≐ o) refl

  -- nor does it carry what it does not
  block_alone : (u : Kind) (p q d : A) (up : Bool) → carries u up ≡ false → block R u p q (if up then nil else d) (if up then d else nil) (not up) ≡ nil
  block_alone Lower p q d true e = absurd (true≢false e)
  block_alone Lower p q d false e = ring R (p ∷ []) (λ p. p ⊗ o ≐ o) refl
  block_alone Upper p q d true e = ring R (q ∷ []) (λ q. q ⊗ o ≐ o) refl
  block_alone Upper p q d false e = absurd (true≢false e)
  block_alone Sum p q d true e = ring R (p ∷ []) (λ p. p ⊗ o ≐ o) refl
  block_alone Sum p q d false e = ring R (q ∷ []) (λ q. q ⊗ o ≐ o) refl

-- nothing is its own opposite
not_own : (u : Bool) → u ≡ not u → ⊥
not_own true z = true≢false z
not_own false z = true≢false (sym z)

-- columns of a sum of files
module _ {A : Type 0} (c : Code A) where
  open c.ring use {plus as add}

  image_plus : (b : ℕ) (C E : Column c) (a : ℕ) → image c b (λ r. add (C r) (E r)) a ≡ add (image c b C a) (image c b E a)
  image_plus b C E a =
      let T = after_op c.ring rows (kind c b) (shift c b) (eigen_p c b) (eigen_q c b) in
      ap (λ X. X a) (T (λ r. add (C r) (E r)) ∙ op_add c.ring rows (shift c b) (mat c.ring (kind c b) (eigen_p c b) (eigen_q c b)) C E ∙ ap₂ (λ X Y r. add (X r) (Y r)) (sym (T C)) (sym (T E)))

  pub column_plus : (f g : File c) (e : ℕ) → e < data_boxes c + 2 → (a : ℕ) → column c (λ b r. add (f b r) (g b r)) e a ≡ add (column c f e a) (column c g e a)
  column_plus f g =
      by_box c (λ b r. add (f b r) (g b r)) (λ e C. (a : ℕ) → C a ≡ add (column c f e a) (column c g e a))
      (λ b l a. sym (ap₂ (λ X Y. add (X a) (Y a)) (column_data c f b l) (column_data c g b l)))
      (λ a. sum_plus c.ring (data_boxes c) (λ b. f b a) (λ b. g b a) ∙ sym (ap₂ (λ X Y. add (X a) (Y a)) (column_first c f (data_boxes c) refl) (column_first c g (data_boxes c) refl)))
      (λ a.
      ap (λ t. sum c.ring (data_boxes c) t) (fun_ext λ b. image_plus b (f b) (g b) a)
      ∙ sum_plus c.ring (data_boxes c) (λ b. image c b (f b) a) (λ b. image c b (g b) a)
      ∙ sym (ap₂ (λ X Y. add (X a) (Y a)) (column_second c f (suc (data_boxes c)) refl) (column_second c g (suc (data_boxes c)) refl)))

module _ (Y : Symbols) (m b a : ℕ) (d : Y.Symbol) where
  abbrev c : Code Y.Symbol
  c = full Y m

  abbrev C : ℕ → Y.Symbol
  C = single Y b a d b

  abbrev k : ℕ
  k = shift c b

  abbrev up : Bool
  up = upper c b a

  -- what stands in the two rows of the pair
  row_symbol : (x : Bool) → C (partner k x a) ≡ (if x then (if up then d else Y.ring.zero) else (if up then Y.ring.zero else d))
  row_symbol x = by up x refl
    where
      other : (u : Bool) (x : Bool) → odd (digit k a) ≡ u → x ≡ not u → partner k x a ≢ a
      other u x e n q = not_own u (sym (ap (λ r. odd (digit k r)) q ∙ e) ∙ bit_to_c k x a ∙ n)

      own : (x : Bool) → odd (digit k a) ≡ x → partner k x a ≡ a
      own x e = ap (λ y. partner k y a) (sym e) ∙ to_bit_c k a

      by : (u x : Bool) → odd (digit k a) ≡ u → C (partner k x a) ≡ (if x then (if u then d else Y.ring.zero) else (if u then Y.ring.zero else d))
      by true true e = single_here Y b a d b (partner k true a) refl (own true e)
      by true false e = single_else Y b a d b (partner k false a) (inr (other true false e refl))
      by false true e = single_else Y b a d b (partner k true a) (inr (other false true e refl))
      by false false e = single_here Y b a d b (partner k false a) refl (own false e)

  image_pair : (x : Bool) → image c b C (partner k x a) ≡ block Y.ring (kind c b) (eigen_p c b) (eigen_q c b) (if up then Y.ring.zero else d) (if up then d else Y.ring.zero) x
  image_pair x = λ i.
      block Y.ring (kind c b) (eigen_p c b) (eigen_q c b) ((ap C (to_to_c k false x a) ∙ row_symbol false) i) ((ap C (to_to_c k true x a) ∙ row_symbol true) i) (bit_to_c k x a i)

  -- what a block that is computed gives is the image in the partner's row
  pub image_across : (w : Bool) (u : Kind) (p q s t r : Y.Symbol) → up ≡ w → BlockOf c b u p q → s ≡ (if w then Y.ring.zero else d) → t ≡ (if w then d else Y.ring.zero)
      → r ≡ block Y.ring u p q s t (not w) → r ≡ image c b C (other_row c b a)
  image_across w u p q s t r e f es et er =
      er
      ∙ (λ i.
      block Y.ring (f.is_kind i) (f.first i) (f.second i) ((es ∙ ap (λ z. if z then Y.ring.zero else d) (sym e)) i) ((et ∙ ap (λ z. if z then d else Y.ring.zero) (sym e)) i) (not (sym e i)))
      ∙ sym (image_pair (not up))

  -- the partner's row stays where the block does not carry
  image_alone : carries (kind c b) up ≡ false → image c b C (other_row c b a) ≡ Y.ring.zero
  image_alone n = image_pair (not up) ∙ block_alone Y.ring (kind c b) (eigen_p c b) (eigen_q c b) d up n

  -- and so do the rows of other pairs
  image_else : (r : ℕ) → r ≢ a → r ≢ other_row c b a → image c b C r ≡ Y.ring.zero
  image_else r n n' =
      ap₂ (λ s t. block Y.ring (kind c b) (eigen_p c b) (eigen_q c b) s t (odd (digit k r))) (none false) (none true)
      ∙ block_none Y.ring (kind c b) (eigen_p c b) (eigen_q c b) (odd (digit k r))
    where
      in_pair : (x u : Bool) → odd (digit k a) ≡ u → partner k x a ≡ r → ⊥
      in_pair true true e q = n (sym q ∙ ap (λ y. partner k y a) (sym e) ∙ to_bit_c k a)
      in_pair false false e q = n (sym q ∙ ap (λ y. partner k y a) (sym e) ∙ to_bit_c k a)
      in_pair true false e q = n' (sym q ∙ ap (λ y. partner k (not y) a) (sym e))
      in_pair false true e q = n' (sym q ∙ ap (λ y. partner k (not y) a) (sym e))

      none : (x : Bool) → C (partner k x r) ≡ Y.ring.zero
      none x = single_else Y b a d b (partner k x r) (inr λ e. in_pair (odd (digit k r)) up refl (ap (partner k (odd (digit k r))) (sym e) ∙ to_to_c k (odd (digit k r)) x r ∙ to_bit_c k r))

  other_apart : other_row c b a ≢ a
  other_apart q = not_own up (sym (ap (λ r. odd (digit k r)) q) ∙ bit_to_c k (not up) a)

  -- the columns of the file
  module _ (inside : b < 3 * m) where
    zero_image : (e : ℕ) → e ≢ b → (r : ℕ) → image c e (single Y b a d e) r ≡ Y.ring.zero
    zero_image e n r =
        ap₂ (λ s t. block Y.ring (kind c e) (eigen_p c e) (eigen_q c e) s t (odd (digit (shift c e) r)))
        (single_else Y b a d e (partner (shift c e) false r) (inl n)) (single_else Y b a d e (partner (shift c e) true r) (inl n))
        ∙ block_none Y.ring (kind c e) (eigen_p c e) (eigen_q c e) (odd (digit (shift c e) r))

    -- by the three kinds of boxes: a place of a data box, of the first parity, and of the second
    single_columns : (e : ℕ) → e < 3 * m + 2 → (r : ℕ)
        → Y.ring.plus (single Y b a d e r) (Y.ring.plus (single Y (3 * m) a d e r) (if e == suc (3 * m) then image c b C r else Y.ring.zero)) ≡ column c (single Y b a d) e r
    single_columns = by_box c (single Y b a d) (λ e E. (r : ℕ) → total e r ≡ E r)
        (λ e l r.
        ap₂ (λ x y. Y.ring.plus (single Y b a d e r) (Y.ring.plus x y)) (single_else Y (3 * m) a d e r (inl (λ q. omega arith))) (if_other e (suc (3 * m)) (λ q. omega arith) _ _)
        ∙ ap (Y.ring.plus (single Y b a d e r)) (Y.ring.zero_plus Y.ring.zero) ∙ plus_none Y (single Y b a d e r))
        (λ r.
        ap₂ Y.ring.plus (single_else Y b a d (3 * m) r (inl (λ q. omega arith))) (ap (Y.ring.plus (single Y (3 * m) a d (3 * m) r)) (if_other (3 * m) (suc (3 * m)) (λ q. omega arith) _ _))
        ∙ Y.ring.zero_plus _ ∙ plus_none Y (single Y (3 * m) a d (3 * m) r) ∙ same_row (3 * m) r
        ∙ sym (sum_one Y.ring (3 * m) b (λ e. single Y b a d e r) inside (λ e l n. single_else Y b a d e r (inl n))))
        (λ r.
        ap₂ Y.ring.plus (single_else Y b a d (suc (3 * m)) r (inl (λ q. omega arith)))
        (ap₂ Y.ring.plus (single_else Y (3 * m) a d (suc (3 * m)) r (inl (λ q. omega arith))) (if_same (suc (3 * m)) (suc (3 * m)) refl (image c b C r) Y.ring.zero))
        ∙ Y.ring.zero_plus _ ∙ Y.ring.zero_plus (image c b C r)
        ∙ sym (sum_one Y.ring (3 * m) b (λ e. image c e (single Y b a d e) r) inside (λ e l n. zero_image e n r)))
      where
        total : ℕ → ℕ → Y.Symbol
        total e r = Y.ring.plus (single Y b a d e r) (Y.ring.plus (single Y (3 * m) a d e r) (if e == suc (3 * m) then image c b C r else Y.ring.zero))

        same_row : (e r : ℕ) → single Y e a d e r ≡ single Y b a d b r
        same_row e r =
            ⊎_elim (λ q. single_here Y e a d e r refl q ∙ sym (single_here Y b a d b r refl q))
            (λ n. single_else Y e a d e r (inr n) ∙ sym (single_else Y b a d b r (inr n))) (cases_eq r a)

    -- no place that is not touched is in one of the three
    single_touches : (e r : ℕ) → touches c b a e r ≡ false
        → ((e == b && r == a) || ((e == 3 * m && r == a) || (e == suc (3 * m) && in_image c b a r))) ≡ false
    single_touches e r n = in_turn (e == b) (e == 3 * m) (r == a) (e == suc (3 * m) && in_image c b a r) n
      where
        in_turn : (x y z w : Bool) → (((x || y) && z) || w) ≡ false → ((x && z) || ((y && z) || w)) ≡ false
        in_turn false false z w h = h
        in_turn false true z w h = h
        in_turn true false false w h = h
        in_turn true false true w h = absurd (true≢false h)
        in_turn true true false w h = h
        in_turn true true true w h = absurd (true≢false h)

  -- the rows of the second parity that the image is in, one or two
  abbrev imaged : ℕ → ℕ → Y.Symbol
  imaged e r = if e == suc (3 * m) then image c b C r else Y.ring.zero

  not_second : (e r : ℕ) → e ≢ suc (3 * m) → (a' : ℕ) (x : Y.Symbol) → single Y (suc (3 * m)) a' x e r ≡ Y.ring.zero
  not_second e r n a' x = single_else Y (suc (3 * m)) a' x e r (inl n)

  image_two : (own across : Y.Symbol) → own ≡ image c b C a → across ≡ image c b C (other_row c b a) → (e r : ℕ)
      → Y.ring.plus (single Y (suc (3 * m)) a own e r) (single Y (suc (3 * m)) (other_row c b a) across e r) ≡ imaged e r
  image_two own across eo ea e r =
      ⊎_elim
      (λ p. ⊎_elim
      (λ q.
      ap₂ Y.ring.plus (single_here Y (suc (3 * m)) a own e r p q) (single_else Y (suc (3 * m)) (other_row c b a) across e r (inr (λ z. other_apart (sym z ∙ q))))
      ∙ plus_none Y own ∙ eo ∙ ap (image c b C) (sym q) ∙ sym (if_same e (suc (3 * m)) p _ _))
      (λ n. ⊎_elim
      (λ q.
      ap₂ Y.ring.plus (single_else Y (suc (3 * m)) a own e r (inr n)) (single_here Y (suc (3 * m)) (other_row c b a) across e r p q)
      ∙ Y.ring.zero_plus across ∙ ea ∙ ap (image c b C) (sym q) ∙ sym (if_same e (suc (3 * m)) p _ _))
      (λ n'.
      ap₂ Y.ring.plus (single_else Y (suc (3 * m)) a own e r (inr n)) (single_else Y (suc (3 * m)) (other_row c b a) across e r (inr n'))
      ∙ Y.ring.zero_plus Y.ring.zero ∙ sym (image_else r n n') ∙ sym (if_same e (suc (3 * m)) p _ _))
      (cases_eq r (other_row c b a)))
      (cases_eq r a))
      (λ n. ap₂ Y.ring.plus (not_second e r n a own) (not_second e r n (other_row c b a) across) ∙ Y.ring.zero_plus Y.ring.zero ∙ sym (if_other e (suc (3 * m)) n _ _))
      (cases_eq e (suc (3 * m)))

  image_one : (own : Y.Symbol) → own ≡ image c b C a → carries (kind c b) up ≡ false → (e r : ℕ) → single Y (suc (3 * m)) a own e r ≡ imaged e r
  image_one own eo alone e r =
      ⊎_elim
      (λ p. ⊎_elim
      (λ q. single_here Y (suc (3 * m)) a own e r p q ∙ eo ∙ ap (image c b C) (sym q) ∙ sym (if_same e (suc (3 * m)) p _ _))
      (λ n.
      single_else Y (suc (3 * m)) a own e r (inr n) ∙ sym (⊎_elim (λ q. ap (image c b C) q ∙ image_alone alone) (λ n'. image_else r n n') (cases_eq r (other_row c b a)))
      ∙ sym (if_same e (suc (3 * m)) p _ _))
      (cases_eq r a))
      (λ n. not_second e r n a own ∙ sym (if_other e (suc (3 * m)) n _ _))
      (cases_eq e (suc (3 * m)))

  -- so the second parity moves by the image, where the partner's row is written if the block carries
  module _ {T : Type 0} (v : T → Y.Symbol) (from : ℕ) (s t u : Meaning T) (own across : Y.Symbol) (eo : own ≡ image c b C a) (ea : across ≡ image c b C (other_row c b a)) where
    abbrev in_second : ℕ → ℕ → Bool
    in_second e r = e == suc (3 * m) && in_image c b a r

    image_moved : (w : Bool) → w ≡ carries (kind c b) up → Moved Y v m from (single Y (suc (3 * m)) a own) (λ e r. e == suc (3 * m) && r == a) s t
        → OnTrue w (Moved Y v m from (single Y (suc (3 * m)) (other_row c b a) across) (λ e r. e == suc (3 * m) && r == other_row c b a) t u) → OnFalse w (u ≡ t)
        → Moved Y v m from imaged in_second s u
    image_moved true ew first second same =
        moved_as Y v m from _ imaged _ in_second s u
        (moved_then Y v m from _ _ _ _ s t u first second)
        (λ e h r l. image_two own across eo ea e r)
        (λ e r n. both (e == suc (3 * m)) (r == a) (carries (kind c b) up) (r == other_row c b a) (sym ew) n)
      where
        both : (x y w z : Bool) → w ≡ true → (x && (y || (w && z))) ≡ false → ((x && y) || (x && z)) ≡ false
        both false y w z h n = refl
        both true false true false h n = refl
        both true false true true h n = absurd (true≢false n)
        both true false false z h n = absurd (true≢false (sym h))
        both true true w z h n = absurd (true≢false n)
    image_moved false ew first second same =
        moved_as Y v m from _ imaged _ in_second s u (subst (λ x. Moved Y v m from (single Y (suc (3 * m)) a own) (λ e r. e == suc (3 * m) && r == a) s x) (sym same) first)
        (λ e h r l. image_one own eo (sym ew) e r)
        (λ e r n. one (e == suc (3 * m)) (r == a) (carries (kind c b) up && r == other_row c b a) n)
      where
        one : (x y z : Bool) → (x && (y || z)) ≡ false → (x && y) ≡ false
        one false y z n = refl
        one true false z n = refl
        one true true z n = absurd (true≢false n)

    -- by the numbers of the program
    pub image_written : (n r j : ℕ) (w x : Bool) (kd : Kind) → n ≡ suc (3 * m) → r ≡ other_row c b a → w ≡ carries kd x → kd ≡ kind c b → x ≡ odd (digit j a) → j ≡ k
        → Moved Y v m from (single Y n a own) (λ e i. e == n && i == a) s t
        → OnTrue w (Moved Y v m from (single Y n r across) (λ e i. e == n && i == r) t u) → OnFalse w (u ≡ t)
        → Moved Y v m from imaged in_second s u
    image_written n r j w x kd en er ew ek ex ej first second same =
        image_moved w (ew ∙ ap₂ carries ek (ex ∙ ap (λ y. odd (digit y a)) ej)) (subst (λ y. Moved Y v m from (single Y y a own) (λ e i. e == y && i == a) s t) en first)
        (subst (λ y. OnTrue w (Moved Y v m from (single Y (suc (3 * m)) y across) (λ e i. e == suc (3 * m) && i == y) t u)) er
        (subst (λ y. OnTrue w (Moved Y v m from (single Y y r across) (λ e i. e == y && i == r) t u)) en second)) same

  -- and every standing box by its column
  pub change_written : {T : Type 0} (v : T → Y.Symbol) (from : ℕ) (s t u w : Meaning T) (n : ℕ) → b < 3 * m → n ≡ 3 * m
      → Moved Y v m from (single Y b a d) (λ e r. e == b && r == a) s t → Moved Y v m from (single Y n a d) (λ e r. e == n && r == a) t u
      → Moved Y v m from imaged (λ e r. e == suc (3 * m) && in_image c b a r) u w
      → Moved Y v m from (column c (single Y b a d)) (touches c b a) s w
  change_written v from s t u w n inside en first second third =
      moved_as Y v m from _ _ _ (touches c b a) s w
      (moved_then Y v m from _ _ _ _ s t w first
      (moved_then Y v m from _ _ _ _ t u w (subst (λ j. Moved Y v m from (single Y j a d) (λ e r. e == j && r == a) t u) en second) third))
      (λ e h r l. single_columns inside e h r)
      (single_touches inside)

-- the partner of a row of the stripe is one
pub other_inside : (m k a low weight : ℕ) → k < m → a < 2 ^ m → low ≡ partner k false a → weight ≡ 2 ^ k → low + weight < 2 ^ m
other_inside m k a low weight h l el ew = omega (arith, el, ew, partner_lt m k true a h l)
