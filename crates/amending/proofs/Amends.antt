-- Lemmas on a file amended in one symbol, and the boxes moved by their columns of the change. Assumes nothing.
use Rattle.std.proofs.Common.{◌≡◌, ◌≢◌, ℕ, suc, ◌+◌, ◌-◌, ◌*◌, ◌^◌, ◌<◌, ◌≤◌, ◌⊎◌, ⊎_elim, Bool, true, List, [], ◌∷◌, map, length, slice_index_or, slice_set, sym, refl, ap, ap₂, ◌∙◌, subst, inl, inr, arith, get_or-set_other, get_or-set_same}
use mathlib.Core.Path.{fun_ext}
use Rattle.std.proofs.lemmas.Bool.{cases_order}
use Rattle.std.proofs.lemmas.List.{get_or-map, length-map, map-set}
use Rattle.std.proofs.lemmas.Nat.{mul-add-lt}
use Rattle.field.specs.Ring.{Ring}
use Rattle.field.specs.Symbols.{Symbols}
use Rattle.field.proofs.Solver.{i, ◌⊕◌, ◌⊖◌, ◌≐◌, ◌⟸◌, ◌·◌, ring, ring_by}
use Rattle.code.specs.Blocks.{◌∸◌}
use Rattle.code.specs.Codes.{Alike, Code, File, column, data_boxes, full, image}
use Rattle.code.specs.Contents.{at, parts}
use Rattle.code.specs.Laws.{Same}
use Rattle.code.specs.Standing.{Counts, FitsThem}
use Rattle.code.proofs.Columns.{by_box, column_data, column_first, column_second}
use Rattle.code.proofs.Images.{image_same}
use Rattle.code.proofs.Sums.{sum_ext}
use Rattle.shelf.specs.Meaning.{Meaning}
use Rattle.stripe.specs.Stripes.{HoldsFile, StripeFile, held, stands}
use Rattle.amending.specs.Amendments.{Amended, with_cell}
use Rattle.amending.specs.Changes.{Moved, single, touches}
use Rattle.amending.proofs.Moves.{by_place, cell_else, cell_here, plus_none, single_else, single_here}
use Rattle.amending.proofs.Singles.{column_plus}

-- the row of a data box has a place in a file, and one of its own
pub cell_inside : (m b a rows : ℕ) → rows ≡ 2 ^ m → 1 ≤ b → b ≤ 3 * m → a < 2 ^ m → (b - 1) * rows + a < 3 * m * 2 ^ m
cell_inside m b a rows er first last row =
    omega (arith, ap (λ r. (b - 1) * r + a) er, mul-add-lt (b - 1) (2 ^ m) a (3 * m) (omega arith) row)

apart : (n e r b a : ℕ) → r < n → a < n → (e ≢ b) ⊎ (r ≢ a) → e * n + r ≢ b * n + a
apart n e r b a l h w q =
    elim (cases_order e b) [
      | inl x ↦ ⊎_elim (λ y. y x) (λ y. y (omega (arith, ap (λ z. z * n) x))) w
      | inr (inl x) ↦ absurd (omega (arith, mul-add-lt e n r b x l))
      | inr (inr x) ↦ absurd (omega (arith, mul-add-lt b n a e x h))
    ]

-- what is read from a buffer
pub element : (Y : Symbols) {T : Type 0} (v : T → Y.Symbol) (xs : List T) (k : ℕ) (y : T) → k < length xs → y ≡ slice_index_or xs k y → v y ≡ at Y v xs k
element Y v xs k y h e = ap v e ∙ sym (get_or-map v xs k y Y.ring.zero h)

module _ {A : Type 0} (c : Code A) where
  -- columns of files that are the same
  column_same : 1 ≤ c.size → (f g : File c) → Same c f g → (e : ℕ) → e < data_boxes c + 2 → Alike c (column c f e) (column c g e)
  column_same some f g h = by_box c f (λ e C. Alike c C (column c g e))
      (λ e l a w. h e l a w ∙ sym (ap (λ C. C a) (column_data c g e l)))
      (λ a w. sum_ext c.ring (data_boxes c) (λ b. f b a) (λ b. g b a) (λ b l. h b l a w) ∙ sym (ap (λ C. C a) (column_first c g (data_boxes c) refl)))
      (λ a w.
      sum_ext c.ring (data_boxes c) (λ b. image c b (f b) a) (λ b. image c b (g b) a) (λ b l. image_same c b (f b) (g b) (omega arith) (h b l) a w)
      ∙ sym (ap (λ C. C a) (column_second c g (suc (data_boxes c)) refl)))

module _ {A : Type 0} (R : Ring A) where
  open R use {plus as add}

  restored : (x y : A) → add x (◌∸◌ R y x) ≡ y
  restored x y = ring R (x ∷ y ∷ []) (λ x y. x ⊕ (y ⊖ x) ≐ y) refl

  taken_off : (x k : A) → add (◌∸◌ R x k) k ≡ x
  taken_off x k = ring R (x ∷ k ∷ []) (λ x k. (x ⊖ k) ⊕ k ≐ x) refl

  cancel : (x y k : A) → add x k ≡ add y k → x ≡ y
  cancel x y k = ring_by R (x ∷ y ∷ k ∷ []) (λ x y k. x ≐ y ⟸ (i · x ⊕ k ≐ y ⊕ k) ∷ []) refl

-- the stripe's file f becomes g by the file h of changes, where every standing box moves by its column of h
module _ (Y : Symbols) {T : Type 0} (v : T → Y.Symbol) (m from : ℕ) (some : 1 ≤ m) (s t : Meaning T) (f g h : File (full Y m)) (touched : ℕ → ℕ → Bool) where
  abbrev c : Code Y.Symbol
  c = full Y m

  abbrev sums : File c
  sums e r = Y.ring.plus (f e r) (h e r)

  module _ (made : Same c g sums) (moved : Moved Y v m from (column c h) touched s t) where
    columns : (e : ℕ) → e < 3 * m + 2 → (r : ℕ) → r < 2 ^ m → column c g e r ≡ Y.ring.plus (column c f e r) (column c h e r)
    columns e l r w = column_same c some g sums made e l r w ∙ column_plus c f h e l r

    same_stand : (e : ℕ) → stands t e ≡ stands s e
    same_stand e = moved.only.stand (suc e)

    stood : stands t ≡ stands s
    stood = fun_ext same_stand

    holds_then : HoldsFile Y v m from s f → HoldsFile Y v m from t g
    holds_then k e l w r q =
        let u : stands s e ≡ true = sym (same_stand e) ∙ w in
        moved.symbols e l u r q ∙ ap (λ z. Y.ring.plus z (column c h e r)) (k e l u r q) ∙ sym (columns e l r q)

    counted : (e : ℕ) → Counts c (stands t) e → Counts c (stands s) e
    counted e w = subst (λ u. Counts c u e) stood w

    file_then : StripeFile Y v m from s f → StripeFile Y v m from t g
    file_then k = record {
      has = λ e l w r q.
          let u = counted e w in
          columns e l r q ∙ ap (λ z. Y.ring.plus z (column c h e r)) (k.has e l u r q) ∙ sym (moved.symbols e l u.0 r q);
      only = λ g' fits e l r q.
          sym (taken_off Y.ring (g' e r) (h e r)) ∙ ap (λ z. Y.ring.plus z (h e r)) (k.only (before g') (fits_before g' fits) e l r q) ∙ sym (made e l r q);
    }
      where
        before : File c → File c
        before g' e r = ◌∸◌ Y.ring (g' e r) (h e r)

        again : (g' : File c) → Same c g' (λ e r. Y.ring.plus (before g' e r) (h e r))
        again g' e l r q = sym (taken_off Y.ring (g' e r) (h e r))

        fits_before : (g' : File c) → FitsThem c (stands t) (held Y v m from t) g' → FitsThem c (stands s) (held Y v m from s) (before g')
        fits_before g' fits e l u r q =
            cancel Y.ring (column c (before g') e r) (held Y v m from s e r) (column c h e r)
            (sym (column_same c some g' _ (again g') e l r q ∙ column_plus c (before g') h e l r)
            ∙ fits e l (subst (λ w. Counts c w e) (sym stood) u) r q ∙ moved.symbols e l u.0 r q)

-- row a of data box b is amended in the buffer, and written
module _ (Y : Symbols) {T : Type 0} (v : T → Y.Symbol) (m from b a place : ℕ) (some : 1 ≤ m) (row : a < 2 ^ m) (ep : place ≡ b * 2 ^ m + a) (xs : List T) (inside : place < length xs) (x : T) where
  abbrev file : File (full Y m)
  file = parts Y v (2 ^ m) xs

  abbrev after : List T
  after = slice_set xs place x

  cell : (e r : ℕ) → r < 2 ^ m → parts Y v (2 ^ m) after e r ≡ with_cell Y b a (v x) file e r
  cell e r l = by_place b a e r
      (λ p.
      let q : e * 2 ^ m + r ≡ place = ap₂ (λ j k. j * 2 ^ m + k) p.0 p.1 ∙ sym ep in
      ap (at Y v after) q ∙ here ∙ sym (cell_here Y b a (v x) file e r p.0 p.1))
      (λ n. there (e * 2 ^ m + r) (λ q. apart (2 ^ m) e r b a l row n (q ∙ ep)) ∙ sym (cell_else Y b a (v x) file e r n))
    where
      here : at Y v after place ≡ v x
      here =
          let w : place < length (map v xs) = simp length-map inside in
          ap (λ ys. slice_index_or ys place Y.ring.zero) (map-set v xs place x) ∙ get_or-set_same (map v xs) place (v x) Y.ring.zero w

      there : (k : ℕ) → k ≢ place → at Y v after k ≡ at Y v xs k
      there k n = ap (λ ys. slice_index_or ys k Y.ring.zero) (map-set v xs place x) ∙ get_or-set_other (map v xs) place k (v x) Y.ring.zero n

  abbrev change : Y.Symbol
  change = ◌∸◌ Y.ring (v x) (file b a)

  sum_cell : (e r : ℕ) → with_cell Y b a (v x) file e r ≡ Y.ring.plus (file e r) (single Y b a change e r)
  sum_cell e r = by_place b a e r
      (λ p. cell_here Y b a (v x) file e r p.0 p.1 ∙ sym (ap₂ Y.ring.plus (ap₂ file p.0 p.1) (single_here Y b a change e r p.0 p.1) ∙ restored Y.ring (file b a) (v x)))
      (λ n. cell_else Y b a (v x) file e r n ∙ sym (ap (Y.ring.plus (file e r)) (single_else Y b a change e r n) ∙ plus_none Y (file e r)))

  -- the change, by the file's columns
  pub change_is : (z : Y.Symbol) → z ≡ ◌∸◌ Y.ring (v x) (at Y v xs place) → z ≡ change
  change_is z e = e ∙ ap (λ k. ◌∸◌ Y.ring (v x) (at Y v xs k)) ep

  pub amended : (s t : Meaning T) (d : Y.Symbol) (ys : List T) → ys ≡ after → d ≡ change → StripeFile Y v m from s file → Moved Y v m from (column (full Y m) (single Y b a d)) (touches (full Y m) b a) s t
      → Amended Y v m from b a (v x) s t ys
  amended s t d ys ey ed was moves =
      let moved = subst (λ z. Moved Y v m from (column (full Y m) (single Y b a z)) (touches (full Y m) b a) s t) ed moves in
      let made : Same (full Y m) (parts Y v (2 ^ m) after) (λ e r. Y.ring.plus (file e r) (single Y b a change e r)) = λ e l r w. cell e r w ∙ sum_cell e r in
      subst (Amended Y v m from b a (v x) s t) (sym ey) record {
        file = file;
        was = was;
        buffered = λ e l r w. cell e r w;
        moved = moved;
        now = file_then Y v m from some s t file (parts Y v (2 ^ m) after) (single Y b a change) (touches (full Y m) b a) made moved was;
        holds = holds_then Y v m from some s t file (parts Y v (2 ^ m) after) (single Y b a change) (touches (full Y m) b a) made moved;
      }
