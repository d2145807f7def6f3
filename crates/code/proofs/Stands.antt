-- Any two boxes are decoded: whatever the columns of the others, exactly one file has them. And the code's laws. Assumes nothing.
use Rattle.std.proofs.Common.{◌≡◌, ℕ, suc, ◌+◌, ◌-◌, ◌*◌, ◌/◌, ◌^◌, ◌<◌, ◌≤◌, ◌≢◌, [], ◌∷◌, sym, refl, ap, ap₂, ◌∙◌, subst, inl, inr, arith}
use Rattle.std.proofs.lemmas.Bool.{cases_lt, cases_eq, cases_order}
use Rattle.field.specs.Ring.{Ring, Divides}
use Rattle.field.proofs.Solver.{i, ◌⊗◌, ◌≐◌, ◌⟸◌, ◌·◌, ring_by}
use Rattle.code.specs.Blocks.{◌∸◌, half}
use Rattle.code.specs.Codes.{Code, Proper, Column, File, direction, eigen_p, eigen_q, image, parity1, parity2, column, Alike, half_for, kind, shift}
use Rattle.code.specs.Laws.{HasColumns, Decodable, Same, Laws}
use Rattle.code.specs.Rows.{lower}
use Rattle.code.proofs.Columns.{column_data, column_first, column_second, by_box, has_columns, has_data, has_first, has_second}
use Rattle.code.proofs.Cuts.{cut_same}
use Rattle.code.proofs.Decodes.{Has, Decodes, two_decodes, first_decodes, second_decodes, parities_decode}
use Rattle.code.proofs.Digits.{rows}
use Rattle.code.proofs.Images.{image_same}
use Rattle.code.proofs.Pairing.{lower_below, upper_below}
use Rattle.code.proofs.Solved.{Shifts, block_solution, block_solved, difference, same_solution, same_solved, apart_solution, apart_solved}
use Rattle.code.proofs.Spare.{spare}
use Rattle.code.proofs.Sums.{sum_ext}
use Rattle.code.proofs.Theory.{apart, same_if, gap_inverse, trim, trim1, trim2, below, shift_below, restores}
use Rattle.code.proofs.Undone.{Undone}

-- columns that are the same have the same halves
pub same_halves : {A : Type 0} (c : Code A) → 1 ≤ c.size → (x : ℕ) (C E : Column c) → Alike c C E → (j : ℕ) → j < 2 ^ (c.size - 1) → half_for c x C j ≡ half_for c x E j
same_halves c some x C E s j l =
    let k = shift c x in
    let inside = shift_below c x some in
    ap₂ (half c.ring (kind c x)) (s (lower k j) (lower_below c.size k j inside l)) (s (lower k j + 2 ^ k) (upper_below c.size k j inside l))

module _ {A : Type 0} (c : Code A) (ok : Proper c) where
  abbrev R : Ring A
  R = c.ring

  abbrev n : ℕ
  n = c.kinds * c.size

  -- files with the same data have the same columns
  pub same_columns : (f f' : File c) → Same c f f' → (b : ℕ) → b < n + 2 → Alike c (column c f b) (column c f' b)
  same_columns f f' s =
      by_box c f (λ b C. Alike c C (column c f' b))
      (λ b l a k. s b l a k ∙ ap (λ C. C a) (sym (column_data c f' b l)))
      (λ a k. sum_ext R n _ _ (λ b l. s b l a k) ∙ ap (λ C. C a) (sym (column_first c f' n refl)))
      (λ a k. sum_ext R n _ _ (λ b l. image_same c b (f b) (f' b) (shift_below c b ok.some) (s b l) a k) ∙ ap (λ C. C a) (sym (column_second c f' (suc n) refl)))

  -- from all rows to those below 2 ^ m
  trimmed : (x y : ℕ) (f g : ℕ → Column c) → HasColumns c x y f g → Has c x y (λ b. trim c ok (f b)) (λ b. trim c ok (g b))
  trimmed x y f g h = record {
    each = λ b l w v. cut_same R c.size (f b) (g b) (has_data c x y f g h b l w v);
    first = λ w v. trim1 c ok f ∙ cut_same R c.size (parity1 c f) (g n) (has_first c x y f g h w v);
    second = λ w v. trim2 c ok f ∙ cut_same R c.size (parity2 c f) (g (suc n)) (has_second c x y f g h w v);
  }

  module _ (x y : ℕ) (file : (ℕ → Column c) → File c) (d : Decodes c x y file) where
    file_has : (g : ℕ → Column c) → HasColumns c x y (file g) g
    file_has g =
        let h = d.has g in
        has_columns c x y (file g) g (λ b l w v a k. ap (λ C. C a) (h.each b l w v)) (λ w v a k. ap (λ C. C a) (h.first w v)) (λ w v a k. ap (λ C. C a) (h.second w v))

    decodable : Decodable c x y
    decodable = record {
      exists = λ g. (file g, file_has g);
      only = λ g f f' h h' b l. below c ok (f b) (f' b) (d.is _ _ (trimmed x y f g h) b l ∙ sym (d.is _ _ (trimmed x y f' g h') b l));
    }

  turned : (x y : ℕ) → Decodable c y x → Decodable c x y
  turned x y d = record {
    exists = λ g. let r = d.exists g in (r.0, λ b l w v. r.1 b l v w);
    only = λ g f f' h h'. d.only g f f' (λ b l w v. h b l v w) (λ b l w v. h' b l v w);
  }

  -- the marks of two directions differ: marks 2 i - 1 and 2 i are of direction i
  pub marks_apart : (x y : ℕ) → direction c x ≢ direction c y → (j k : ℕ) → (j + 1) / 2 ≡ direction c x → (k + 1) / 2 ≡ direction c y → c.mark j ≢ c.mark k
  marks_apart x y h j k hj hk e =
      let s : 1 ≤ c.size = ok.some in
      let w : j ≡ k = ok.mark_distinct j k (omega arith) (omega arith) (omega arith) (omega arith) e in
      h (omega arith)

  module _ (divides : Divides R) where
    inverse : (a : A) → a ≢ R.zero → (e : A) × (R.times e a ≡ R.one)
    inverse a h = let r = divides a h in (r.0, R.times_comm r.0 a ∙ r.1)

    shifts : (x : ℕ) (z : A) → eigen_p c x ≢ z → eigen_q c x ≢ z → (e : A) × Shifts c x z e
    shifts x z h k =
        let s = ◌∸◌ R (eigen_p c x) z in
        let t = ◌∸◌ R (eigen_q c x) z in
        let e = inverse s (λ w. h (same_if c ok _ _ w)) in
        let f = inverse t (λ w. k (same_if c ok _ _ w)) in
        (R.times e.0 f.0, ring_by R (e.0 ∷ f.0 ∷ s ∷ t ∷ []) (λ e f s t. e ⊗ f ⊗ (s ⊗ t) ≐ i ⟸ (f ⊗ t · e ⊗ s ≐ i) ∷ (i · f ⊗ t ≐ i) ∷ []) refl e.1 f.1)

    block_solvable : (x : ℕ) → (S : Column c → Column c) × Undone R rows (image c x) S
    block_solvable x =
        let s : 1 ≤ c.size = ok.some in
        let e = shifts x R.zero (ok.mark_not_zero (2 * direction c x - 1) (omega arith) (omega arith)) (ok.mark_not_zero (2 * direction c x) (omega arith) (omega arith)) in
        (block_solution c x e.0, block_solved c x e.0 e.1)

    difference_solvable : (x y : ℕ) → x < n → y < n → x ≢ y → (S : Column c → Column c) × Undone R rows (difference c x y) S
    difference_solvable x y hx hy h =
        elim (cases_eq (direction c x) (direction c y)) [
          | inl e ↦
              let d = gap_inverse c ok divides x in
              (same_solution c x y d.0, same_solved c x y d.0 e (apart c ok x y hx hy h (ap (λ j. c.size - j) e)) d.1)
          | inr k ↦
              let s : 1 ≤ c.size = ok.some in
              let e = shifts x (eigen_p c y) (marks_apart x y k _ _ (omega arith) (omega arith)) (marks_apart x y k _ _ (omega arith) (omega arith)) in
              let f = shifts x (eigen_q c y) (marks_apart x y k _ _ (omega arith) (omega arith)) (marks_apart x y k _ _ (omega arith) (omega arith)) in
              (apart_solution c x y e.0 f.0, apart_solved c x y e.0 f.0 (λ w. k (omega arith)) e.1 f.1)
        ]

    data_decodable : (x y : ℕ) → x < n → y < n + 2 → x ≢ y → Decodable c x y
    data_decodable x y hx hy h =
        elim (cases_order y n) [
          | inl e ↦ let s = block_solvable x in subst (Decodable c x) (sym e) (decodable x n _ (first_decodes c x hx s.0 s.1))
          | inr (inl l) ↦ let s = difference_solvable x y hx l h in decodable x y _ (two_decodes c x y s.0 s.1 hx l h)
          | inr (inr l) ↦ let e : y ≡ suc n = omega arith in subst (Decodable c x) (sym e) (decodable x (suc n) _ (second_decodes c x hx))
        ]

    any_two : (x y : ℕ) → x < n + 2 → y < n + 2 → x ≢ y → Decodable c x y
    any_two x y hx hy h =
        elim (cases_lt x n) [
          | inl l ↦ data_decodable x y l hy h
          | inr k ↦
              elim (cases_lt y n) [
                | inl l ↦ turned x y (data_decodable y x l hx (λ e. h (sym e)))
                | inr l ↦ decodable x y _ (parities_decode c x y k hx l hy h)
              ]
        ]

    pub laws : Laws c
    laws = record {
      any_two = any_two;
      any_boxes = λ x y hx hy h f f' e.
          let s = (any_two x y hx hy h).only (column c f') f f' e (λ b l w v a k. refl) in
          (s, same_columns f f' s);
      halves = restores c ok divides;
      none_to_spare = spare c ok divides;
    }
