-- What the program's turns leave is what the blocks lead back. Assumes nothing.
use Rattle.std.proofs.Common.{◌≡◌, ℕ, ◌^◌, ◌<◌, ◌≤◌, ◌≢◌, Bool, true, false, if◌then◌else◌, sym, ◌∙◌, ap₂, subst}
use Rattle.field.specs.Ring.{Ring}
use Rattle.code.specs.Blocks.{◌∸◌}
use Rattle.code.specs.Codes.{Alike, Code, Column, kind, direction, shift, eigen_p, eigen_q, image}
use Rattle.code.specs.Decoding.{Matrix, turn, to_eigen, from_eigen, undo_shift, undo_difference}
use Rattle.code.specs.declared.Kind.{Kind}
use Rattle.code.proofs.Images.{image_same}
use Rattle.code.proofs.Solved.{undone_block, undone_same, undone_apart}
use Rattle.code.proofs.Theory.{shift_below}
use Rattle.decoding.specs.Matrices.{Entrywise, UndoesShift, UndoesDifference}
use Rattle.decoding.proofs.Turns.{turned_same}

-- one of two matrices, by a digit
abbrev pub chosen : {A : Type 0} → Matrix A → Matrix A → Bool → Matrix A
chosen M N r = if r then N else M

chosen_entries : {A : Type 0} (M N : Matrix A) (P : Bool → Matrix A) → Entrywise M (P false) → Entrywise N (P true) → (r : Bool) → Entrywise (chosen M N r) (P r)
chosen_entries M N P h k false = h
chosen_entries M N P h k true = k

module _ {A : Type 0} (R : Ring A) where
  -- the same by the names of the code
  pub shift_named : {u u' : Kind} {p p' q q' z z' : A} (M : Matrix A) → u ≡ u' → p ≡ p' → q ≡ q' → z ≡ z' → UndoesShift R u p q z M → UndoesShift R u' p' q' z' M
  shift_named {u' = u'} {p = p} {p' = p'} {q = q} {q' = q'} {z = z} M eu ep eq ez h =
      subst (λ w. UndoesShift R u' p' q' w M) ez (subst (λ w. UndoesShift R u' p' w z M) eq (subst (λ w. UndoesShift R u' w q z M) ep (subst (λ w. UndoesShift R w p q z M) eu h)))

  pub difference_named : {u u' v v' : Kind} {p p' q q' : A} (M : Matrix A) → u ≡ u' → v ≡ v' → p ≡ p' → q ≡ q' → UndoesDifference R u v p q M → UndoesDifference R u' v' p' q' M
  difference_named {u' = u'} {v = v} {v' = v'} {p = p} {p' = p'} {q = q} M eu ev ep eq h =
      subst (λ w. UndoesDifference R u' v' p' w M) eq (subst (λ w. UndoesDifference R u' v' w q M) ep (subst (λ w. UndoesDifference R u' w p q M) ev (subst (λ w. UndoesDifference R w v p q M) eu h)))

module _ {A : Type 0} (c : Code A) (some : 1 ≤ c.size) where
  abbrev R : Ring A
  R = c.ring

  -- below 2 ^ m, after is what a turn leaves of before
  abbrev pub Turned : ℕ → ℕ → (Bool → Matrix A) → Column c → Column c → Type 0
  Turned k l M before after = (a : ℕ) → a < 2 ^ c.size → after a ≡ turn R k l M before a

  -- the same by the names of the code
  pub turned_named : {n k l k' l' : ℕ} (M N : Matrix A) (before after : Column c) → n ≡ c.size → k ≡ k' → l ≡ l'
      → ((a : ℕ) → a < 2 ^ n → after a ≡ turn R k l (chosen M N) before a) → Turned k' l' (chosen M N) before after
  turned_named M N before after en ek el t a h = t a (subst (λ n. a < 2 ^ n) (sym en) h) ∙ λ i. turn R (ek i) (el i) (chosen M N) before a

  module _ (x : ℕ) (before after : Column c) where
    pub blocks_undone : (M : Matrix A) → UndoesShift R (kind c x) (eigen_p c x) (eigen_q c x) R.zero M → Turned (shift c x) (shift c x) (chosen M M) before after → Alike c before (image c x after)
    blocks_undone M u t a l =
        sym (undone_block c x u.0 u.1 before a)
        ∙ sym (image_same c x after _ (shift_below c x some) (λ b k. t b k ∙ turned_same R (shift c x) (shift c x) c.size (shift_below c x some) (chosen M M) (λ r. undo_shift R (kind c x) (eigen_p c x) (eigen_q c x) R.zero u.0) (chosen_entries M M _ u.2 u.2) before before (λ a l i. before a) b k) a l)

    module _ (y : ℕ) where
      abbrev less : Column c → Column c
      less C a = ◌∸◌ R (image c x C a) (image c y C a)

      less_same : (C E : Column c) → Alike c C E → Alike c (less C) (less E)
      less_same C E h a l = ap₂ (◌∸◌ R) (image_same c x C E (shift_below c x some) h a l) (image_same c y C E (shift_below c y some) h a l)

      pub same_solved : direction c x ≡ direction c y → kind c x ≢ kind c y → (M : Matrix A) → UndoesDifference R (kind c x) (kind c y) (eigen_p c x) (eigen_q c x) M
          → Turned (shift c x) (shift c x) (chosen M M) before after → Alike c before (less after)
      same_solved e n M u t a l =
          sym (undone_same c x y u.0 e n u.1 before a)
          ∙ sym (less_same after _ (λ b k. t b k ∙ turned_same R (shift c x) (shift c x) c.size (shift_below c x some) (chosen M M) (λ r. undo_difference R (kind c x) (kind c y) (eigen_p c x) (eigen_q c x) u.0) (chosen_entries M M _ u.2 u.2) before before (λ a l i. before a) b k) a l)

      module _ (first second : Column c) (M N P Q : Matrix A) where
        abbrev k : ℕ
        k = shift c x

        abbrev l : ℕ
        l = shift c y

        pub apart_solved : k ≢ l → Entrywise M (to_eigen R (kind c y)) → UndoesShift R (kind c x) (eigen_p c x) (eigen_q c x) (eigen_p c y) N
            → UndoesShift R (kind c x) (eigen_p c x) (eigen_q c x) (eigen_q c y) P → Entrywise Q (from_eigen R (kind c y))
            → Turned l l (chosen M M) before first → Turned k l (chosen N P) first second → Turned l l (chosen Q Q) second after → Alike c before (less after)
        apart_solved n em en ep eq t1 t2 t3 a h =
            let hk : k < c.size = shift_below c x some in
            let hl : l < c.size = shift_below c y some in
            let undo : Bool → Matrix A = λ r. if r then undo_shift R (kind c x) (eigen_p c x) (eigen_q c x) (eigen_q c y) ep.0 else undo_shift R (kind c x) (eigen_p c x) (eigen_q c x) (eigen_p c y) en.0 in
            let step1 : Alike c first _ = λ b g. t1 b g ∙ turned_same R l l c.size hl (chosen M M) (λ r. to_eigen R (kind c y)) (chosen_entries M M _ em em) before before (λ a l i. before a) b g in
            let step2 : Alike c second _ = λ b g. t2 b g ∙ turned_same R k l c.size hk (chosen N P) undo (chosen_entries N P undo en.2 ep.2) first _ step1 b g in
            sym (undone_apart c x y en.0 ep.0 n en.1 ep.1 before a)
            ∙ sym (less_same after _ (λ b g. t3 b g ∙ turned_same R l l c.size hl (chosen Q Q) (λ r. from_eigen R (kind c y)) (chosen_entries Q Q _ eq eq) second _ step2 b g) a h)
