-- New shelves have the sizes that are wanted. Assumes nothing.
use Rattle.std.proofs.Common.{◌≡◌, ℕ, ◌+◌, ◌*◌, ◌/◌, ◌^◌, ◌≤◌, Bool, true, false, ◌||◌, if◌then◌else◌, ltb, [], replicate, None, refl, subst, sym, ap, ap₂, ◌∙◌, arith, mul_assoc, pow_pos, length-append}
use Rattle.std.proofs.lemmas.Bool.{and_from, eq-eqb, le-leb, ltb-false, or_parts}
use Rattle.std.proofs.lemmas.List.{length-replicate}
use Rattle.frame.specs.Layouts.{all_out, is_allowed}
use Rattle.joined.specs.Joining.{both, is_joinable, joined, no_boxes}
use Rattle.shelf.specs.Meaning.{Meaning, box_count}
use Rattle.transcripts.specs.Lengths.{AreLengths, IsShelfFor, boxes_for, rows_for, where_sized}

-- a shelf of n boxes with l rows
record IsPart {T : Type 0} (n l : ℕ) (s : Meaning T) : Type 0 where
  boxes : box_count s ≡ n
  rows : s.rows ≡ l

made : {T : Type 0} (n l : ℕ) (b : Bool) → (b ≡ false → (n ≡ 0) × (l ≡ 0)) → IsPart {T = T} n l (if b then record { rows = l; boxes = replicate n None } else record { rows = 0; boxes = [] })
made n l true none = record { boxes = length-replicate n None; rows = refl }
made n l false none = let e = none refl in record { boxes = sym e.0; rows = sym e.1 }

-- k boxes, or none where there is no such size
part : {T : Type 0} (m k n l room : ℕ) → (1 ≤ m → 1 ≤ k) → n ≤ 32 → n ≡ where_sized m k → l ≡ rows_for m → l ≤ 64 → n * l ≤ room → IsPart n l (all_out {T = T} n l room)
part m k n l room some few is_n is_l short fits = made n l (is_allowed n l room) (none (ltb m 1 || ltb 6 m) refl is_n is_l)
  where
    none : (b : Bool) → (ltb m 1 || ltb 6 m) ≡ b → n ≡ (if b then 0 else k) → l ≡ (if b then 0 else (2 ^ m)) → is_allowed n l room ≡ false → (n ≡ 0) × (l ≡ 0)
    none true t en el not_allowed = (en, el)
    none false t en el not_allowed =
        let one : 1 ≤ m = ltb-false m 1 (or_parts (ltb m 1) (ltb 6 m) t).0 in
        let allowed : is_allowed n l room ≡ true =
        and_from _ _ (le-leb 1 n (omega (arith, en, some one))) (and_from _ _ (le-leb n 32 few) (and_from _ _ (le-leb 1 l (omega (arith, el, pow_pos m))) (and_from _ _ (le-leb l 4096 (omega (arith, short))) (le-leb (n * l) room fits)))) in
        absurd (let no = sym allowed ∙ not_allowed in cc)

-- three bytes hold a word
pub thirds : (parities rows bytes : ℕ) → bytes ≡ 3 * parities * rows → parities * rows ≤ bytes / 3
thirds parities rows bytes e = omega (arith, e ∙ mul_assoc 3 parities rows)

-- the shelf of a script, in lengths that a program made for its m
module _ {T : Type 0} (m size data_boxes parities rows pairs : ℕ) (same : size ≡ m) (lengths : AreLengths size data_boxes parities rows pairs) (s : Meaning T) where
  shelf_for : box_count s ≡ boxes_for size → s.rows ≡ rows → IsShelfFor m s
  shelf_for boxes long = subst (λ k. IsShelfFor k s) same (record { boxes = boxes; rows = long ∙ lengths.column.0 })

  -- all boxes on one shelf
  pub flat_for : (n room : ℕ) → n ≡ boxes_for size → n ≤ 20 → n * rows ≤ room → s ≡ all_out n rows room → IsShelfFor m s
  flat_for n room is few fits new =
      let p = part {T = T} size (3 * size + 2) n rows room (λ some. omega arith) (omega (arith, few)) is lengths.column.0 lengths.column.1 fits in
      shelf_for (ap box_count new ∙ p.boxes ∙ is) (ap (λ t. t.rows) new ∙ p.rows)

  -- data boxes and parity boxes on two
  pub joined_for : (first second : ℕ) → data_boxes * rows ≤ first → parities * rows ≤ second → s ≡ joined (all_out data_boxes rows first) (all_out parities rows second) → IsShelfFor m s
  joined_for first second fits_data fits_parities new =
      let d = part {T = T} size (3 * size) data_boxes rows first (λ some. omega arith) (omega (arith, lengths.boxes.1)) lengths.boxes.0 lengths.column.0 lengths.column.1 fits_data in
      let p = part {T = T} size 2 parities rows second (λ some. omega arith) (omega (arith, lengths.two.1)) lengths.two.0 lengths.column.0 lengths.column.1 fits_parities in
      let a : Meaning T = all_out data_boxes rows first in
      let b : Meaning T = all_out parities rows second in
      let together : is_joinable a b ≡ true = and_from _ _ (eq-eqb a.rows b.rows (d.rows ∙ sym p.rows)) (le-leb _ 32 (omega (arith, d.boxes, p.boxes, lengths.boxes.1, lengths.two.1))) in
      let is : s ≡ both a b = new ∙ ap (λ test. if test then both a b else no_boxes) together in
      shelf_for (ap box_count is ∙ length-append a.boxes b.boxes ∙ ap₂ (λ j k. j + k) (d.boxes ∙ lengths.boxes.0) (p.boxes ∙ lengths.two.0) ∙ sum (ltb size 1 || ltb 6 size)) (ap (λ t. t.rows) is ∙ d.rows)
    where
      sum : (t : Bool) → (if t then 0 else (3 * size)) + (if t then 0 else 2) ≡ (if t then 0 else (3 * size + 2))
      sum true = refl
      sum false = refl
