-- What the calls of a frame make of a row of symbols that it divides. Assumes nothing.
use Rattle.std.proofs.Common.{◌≡◌, ℕ, zero, suc, ◌+◌, ◌-◌, ◌*◌, ◌≤◌, ◌<◌, Bool, true, false, not, ◌&&◌, nat_le, nat_lt, if◌then◌else◌, List, length, take, drop, slice_get, slice_index_or, slice_range, slice_set, Some, None, is_some, refl, sym, ap, ◌∙◌, arith, inl, inr, length-set, length-take}
use Rattle.std.proofs.Math.Nat.{mul-le-mul_right, suc-mul}
use Rattle.std.proofs.Math.Seq.{take-set-lt}
use Rattle.std.proofs.lemmas.Bool.{and_parts, cases_lt, not-true, leb-true, le-leb, lt-leb, ltb-true}
use Rattle.std.proofs.lemmas.List.{drop-drop, drop-take, get_or-take, get_or_past, length-take-le, take-take}
use Rattle.std.proofs.lemmas.Option.{cond_some}
use Rattle.std.specs.declared.ops.Range.{Range}
use Rattle.shelf.specs.Meaning.{box_count, column, has_row, is_out, is_standing, symbol_at, symbol_of, with_out, with_standing, with_symbol}
use Rattle.shelf.proofs.Cuts.{slice_get-drop, slice_get-take}
use Rattle.shelf.specs.Rows.{has_rows, overwritten, rows_at, rows_of, with_rows}
use Rattle.shelf.proofs.Columns.{length-overwritten}
use Rattle.frame.specs.Layouts.{Layout, box_of, boxes_in, end_of, filled, is_marked, is_numbered, is_out_in, laid, place_in, places_in, room_in, rows_in, stands_in, start_of, with_mark}
use Rattle.frame.specs.Frames.{layout_fits, length-cut}
use Rattle.frame.proofs.Cuts.{cut_in, cut_out, cut_set, cut_written, in_place-cut, length-filled}

is_some-box_of : {T : Type 0} (mark : Bool) (xs : List T) → is_some (box_of mark xs) ≡ mark
is_some-box_of true xs = refl
is_some-box_of false xs = refl

some_if : {C : Type 0} (t : Bool) (c : C) → t ≡ is_some (if t then Some c else None)
some_if true c = refl
some_if false c = refl

-- rows of l places from s on
range_inside : {T : Type 0} (s l from n : ℕ) (xs : List T) → from + n ≤ l → slice_range (take l (drop s xs)) from (from + n) ≡ slice_range xs (s + from) (s + from + n)
range_inside s l from n xs h =
    let rest : l ≡ from + (l - from) = omega arith in
    let some : from + n - from ≡ n = omega arith in
    let same : s + from + n - (s + from) ≡ n = omega arith in
    let sum : from + s ≡ s + from = omega arith in
    rw (some, same)
    (ap (λ k. take n (drop from (take k (drop s xs)))) rest
    ∙ ap (take n) (drop-take from (l - from) (drop s xs))
    ∙ take-take n (l - from) (drop from (drop s xs)) (omega arith)
    ∙ ap (take n) (drop-drop from s xs))

-- the marks of the first n boxes
mark_of_first : (n i : ℕ) (marks : List Bool) → slice_index_or (take n marks) i false ≡ (nat_le (suc i) n && slice_index_or marks i false)
mark_of_first n i marks = elim (cases_lt i n) [
  | inl h ↦ get_or-take n marks i false h ∙ sym (ap (λ t. t && slice_index_or marks i false) (le-leb (suc i) n h))
  | inr h ↦ get_or_past (take n marks) i false (simp length-take (omega arith)) ∙ sym (ap (λ t. t && slice_index_or marks i false) (lt-leb (suc i) n (omega arith)))
]

module _ {T : Type 0} (y : Layout) (xs : List T) where
  abbrev l : ℕ
  l = rows_in y (length xs)

  column-laid : (i : ℕ) → column (laid y xs) (suc i) ≡ box_of (nat_le (suc i) (boxes_in y (length xs)) && slice_index_or y.marks i false) (take l (drop (i * l) xs))
  column-laid i =
      let n = boxes_in y (length xs) in
      in_place-cut l i (take n y.marks) xs ∙ ap (λ t. box_of t (take l (drop (i * l) xs))) (mark_of_first n i y.marks)

  pub is_standing-laid : (b : ℕ) → is_standing (laid y xs) b ≡ stands_in y (length xs) b
  is_standing-laid zero = refl
  is_standing-laid (suc i) =
      let e : suc i - 1 ≡ i = omega arith in
      ap is_some (column-laid i) ∙ is_some-box_of _ _ ∙ rw (e, le-leb 1 (suc i) (omega arith)) refl

  pub box_count-laid : box_count (laid y xs) ≡ boxes_in y (length xs)
  box_count-laid = let fits = layout_fits y (length xs) in length-cut l (take (boxes_in y (length xs)) y.marks) xs ∙ length-take-le _ _ (omega arith)

  pub is_out-laid : (b : ℕ) → is_out (laid y xs) b ≡ is_out_in y (length xs) b
  is_out-laid b = rw (is_standing-laid b, box_count-laid) (without (is_numbered y (length xs) b) (is_marked y b))
    where
      without : (s t : Bool) → (s && not (s && t)) ≡ (s && not t)
      without true t = refl
      without false t = refl

  pub has_row-laid : (b a : ℕ) → has_row (laid y xs) b a ≡ is_some (place_in y (length xs) b a)
  has_row-laid b a = rw (is_standing-laid b) (some_if (stands_in y (length xs) b && nat_lt a l) (start_of l b + a))

  pub has_rows-laid : (b from n : ℕ) → has_rows (laid y xs) b from n ≡ is_some (places_in y (length xs) b from n)
  has_rows-laid b from n =
      rw (is_standing-laid b) (some_if (stands_in y (length xs) b && nat_le (from + n) l) (record { start = start_of l b + from; end = start_of l b + from + n }))

  -- a box that stands
  record Standing (b : ℕ) : Type 0 where
    some : 1 ≤ b
    most : b ≤ boxes_in y (length xs)
    mark : slice_index_or y.marks (b - 1) false ≡ true

  standing : (b : ℕ) → stands_in y (length xs) b ≡ true → Standing b
  standing b e =
      let p = and_parts (is_numbered y (length xs) b) _ e in
      let q = and_parts (nat_le 1 b) _ p.0 in
      record { some = leb-true 1 b q.0; most = leb-true b _ q.1; mark = p.1 }

  column_standing : (i : ℕ) → Standing (suc i) → column (laid y xs) (suc i) ≡ Some (take l (drop (i * l) xs))
  column_standing i s =
      let k : suc i - 1 ≡ i = omega arith in
      let m : slice_index_or y.marks i false ≡ true = rw k at s.mark in
      column-laid i ∙ rw (m, le-leb (suc i) (boxes_in y (length xs)) s.most) refl

  -- a row of a box that stands, and where it lies
  record Placed (b a i : ℕ) : Type 0 where
    stands : Standing b
    below : a < l
    place : i ≡ start_of l b + a

  placed : (b a i : ℕ) → place_in y (length xs) b a ≡ Some i → Placed b a i
  placed b a i e =
      let p = cond_some (stands_in y (length xs) b && nat_lt a l) (start_of l b + a) i e in
      let q = and_parts (stands_in y (length xs) b) _ p.0 in
      record { stands = standing b q.0; below = ltb-true a l q.1; place = sym p.1 }

  -- a box has its room in the row
  box_within : (b : ℕ) → 1 ≤ b → b ≤ boxes_in y (length xs) → end_of l b ≤ length xs
  box_within b some most =
      let fits = layout_fits y (length xs) in
      let k : suc (b - 1) ≤ boxes_in y (length xs) = omega arith in
      let room = mul-le-mul_right l k in
      let s = suc-mul (b - 1) l in
      omega arith

  pub place_within : (b a i : ℕ) → place_in y (length xs) b a ≡ Some i → i < length xs
  place_within b a i e =
      let p = placed b a i e in
      let h = box_within b p.stands.some p.stands.most in
      omega arith

  pub symbol_at-laid : (b a i : ℕ) → place_in y (length xs) b a ≡ Some i → symbol_at (laid y xs) b a ≡ slice_get xs i
  symbol_at-laid zero a i e = let p = placed zero a i e in absurd (omega (arith, p.stands.some))
  symbol_at-laid (suc j) a i e =
      let p = placed (suc j) a i e in
      let k : suc j - 1 ≡ j = omega arith in
      ap (λ o. symbol_of o a) (column_standing j p.stands)
      ∙ slice_get-take l (drop (j * l) xs) a p.below ∙ slice_get-drop (j * l) xs a ∙ ap (slice_get xs) (sym (rw k at p.place))

  pub with_symbol-laid : (b a i : ℕ) (x : T) → place_in y (length xs) b a ≡ Some i → laid y (slice_set xs i x) ≡ with_symbol (laid y xs) b a x
  with_symbol-laid zero a i x e = let p = placed zero a i e in absurd (omega (arith, p.stands.some))
  with_symbol-laid (suc j) a i x e =
      let p = placed (suc j) a i e in
      let k : suc j - 1 ≡ j = omega arith in
      let n = boxes_in y (length xs) in
      let fits = layout_fits y (length xs) in
      let inside : j < length (take n y.marks) = rw (length-take-le n y.marks (omega arith)) (omega (arith, p.stands.most)) in
      rw (p.place, k, length-set) (ap (λ cs. record { rows = l; boxes = cs }) (cut_set l j (take n y.marks) xs inside a x p.below))

  -- several rows of a box that stands, and where they lie
  record RowsPlaced (b from n : ℕ) (places : Range ℕ) : Type 0 where
    stands : Standing b
    fit : from + n ≤ l
    first : places.start ≡ start_of l b + from
    last : places.end ≡ start_of l b + from + n

  rows_placed : (b from n : ℕ) (places : Range ℕ) → places_in y (length xs) b from n ≡ Some places → RowsPlaced b from n places
  rows_placed b from n places e =
      let p = cond_some (stands_in y (length xs) b && nat_le (from + n) l) (record { start = start_of l b + from; end = start_of l b + from + n }) places e in
      let q = and_parts (stands_in y (length xs) b) _ p.0 in
      record { stands = standing b q.0; fit = leb-true (from + n) l q.1; first = sym (ap (λ t. t.start) p.1); last = sym (ap (λ t. t.end) p.1) }

  pub rows_within : (b from n : ℕ) (places : Range ℕ) → places_in y (length xs) b from n ≡ Some places → (places.end ≡ places.start + n) × (places.end ≤ length xs)
  rows_within b from n places e =
      let p = rows_placed b from n places e in
      let h = box_within b p.stands.some p.stands.most in
      (omega (arith, p.first, p.last), omega (arith, p.fit, p.last))

  pub rows_at-laid : (b from n : ℕ) (places : Range ℕ) → places_in y (length xs) b from n ≡ Some places → rows_at (laid y xs) b from n ≡ slice_range xs places.start places.end
  rows_at-laid zero from n places e = let p = rows_placed zero from n places e in absurd (omega (arith, p.stands.some))
  rows_at-laid (suc j) from n places e =
      let p = rows_placed (suc j) from n places e in
      let k : suc j - 1 ≡ j = omega arith in
      rw (p.first, p.last, k) (ap (λ o. rows_of o from n) (column_standing j p.stands) ∙ range_inside (j * l) l from n xs p.fit)

  pub with_rows-laid : (b from n : ℕ) (places : Range ℕ) (ys : List T) → places_in y (length xs) b from n ≡ Some places → length ys ≡ n
      → laid y (overwritten places.start ys xs) ≡ with_rows (laid y xs) b from ys
  with_rows-laid zero from n places ys e size = let p = rows_placed zero from n places e in absurd (omega (arith, p.stands.some))
  with_rows-laid (suc j) from n places ys e size =
      let p = rows_placed (suc j) from n places e in
      let k : suc j - 1 ≡ j = omega arith in
      let count = boxes_in y (length xs) in
      let fits = layout_fits y (length xs) in
      let inside : j < length (take count y.marks) = rw (length-take-le count y.marks (omega arith)) (omega (arith, p.stands.most)) in
      let h = box_within (suc j) p.stands.some p.stands.most in
      rw (p.first, k, length-overwritten)
      (ap (λ cs. record { rows = l; boxes = cs }) (cut_written l j (take count y.marks) xs inside from ys (omega (arith, p.fit)) (rw k at h)))

  -- a box that is out, and where its column will lie
  pub record Room (b : ℕ) (places : Range ℕ) : Type 0 where
    pub out : is_out_in y (length xs) b ≡ true
    some : 1 ≤ b
    most : b ≤ boxes_in y (length xs)
    mark : slice_index_or y.marks (b - 1) false ≡ false
    first : places.start ≡ start_of l b
    last : places.end ≡ end_of l b

  pub room : (b : ℕ) (places : Range ℕ) → room_in y (length xs) b ≡ Some places → Room b places
  room b places e =
      let p = cond_some (is_out_in y (length xs) b) (record { start = start_of l b; end = end_of l b }) places e in
      let q = and_parts (is_numbered y (length xs) b) _ p.0 in
      let r = and_parts (nat_le 1 b) _ q.0 in
      record {
        out = p.0;
        some = leb-true 1 b r.0;
        most = leb-true b _ r.1;
        mark = not-true _ q.1;
        first = sym (ap (λ t. t.start) p.1);
        last = sym (ap (λ t. t.end) p.1);
      }

  pub room_within : (b : ℕ) (places : Range ℕ) → room_in y (length xs) b ≡ Some places → (places.start ≤ places.end) × (places.end ≤ length xs)
  room_within b places e =
      let r = room b places e in
      let h = box_within b r.some r.most in
      let s = r.first in
      let t = r.last in
      (omega arith, omega arith)

  pub with_standing-laid : (b : ℕ) (places : Range ℕ) (x : T) → room_in y (length xs) b ≡ Some places
      → laid (with_mark y b true) (filled xs places.start places.end x) ≡ with_standing (laid y xs) b x
  with_standing-laid zero places x e = let r = room zero places e in absurd (omega (arith, r.some))
  with_standing-laid (suc j) places x e =
      let r = room (suc j) places e in
      let k : suc j - 1 ≡ j = omega arith in
      let n = boxes_in y (length xs) in
      let fits = layout_fits y (length xs) in
      let h = box_within (suc j) r.some r.most in
      let long : length (filled xs (j * l) (j * l + l) x) ≡ length xs = length-filled xs (j * l) (j * l + l) x (omega arith) (rw k at h) in
      let inside : j < length (take n y.marks) = rw (length-take-le n y.marks (omega arith)) (omega (arith, r.most)) in
      let mark : slice_index_or (take n y.marks) j false ≡ false = get_or-take n y.marks j false (omega (arith, r.most)) ∙ (rw k at r.mark) in
      rw (r.first, r.last, k, long, length-set, take-set-lt n y.marks j true (omega (arith, r.most)))
      (ap (λ cs. record { rows = l; boxes = cs }) (cut_in l j (take n y.marks) xs inside x (rw k at h) mark))

  pub with_out-standing : (b : ℕ) → stands_in y (length xs) b ≡ true → laid (with_mark y b false) xs ≡ with_out (laid y xs) b
  with_out-standing zero e = let s = standing zero e in absurd (omega (arith, s.some))
  with_out-standing (suc j) e =
      let s = standing (suc j) e in
      let k : suc j - 1 ≡ j = omega arith in
      let n = boxes_in y (length xs) in
      let fits = layout_fits y (length xs) in
      let inside : j < length (take n y.marks) = rw (length-take-le n y.marks (omega arith)) (omega (arith, s.most)) in
      rw (k, length-set, take-set-lt n y.marks j false (omega (arith, s.most)))
      (ap (λ cs. record { rows = l; boxes = cs }) (cut_out l j (take n y.marks) xs inside))

  -- each column that stands lies in its place
  pub column_placed : (b : ℕ) → column (laid y xs) b ≡ (if stands_in y (length xs) b then Some (slice_range xs ((b - 1) * l) (b * l)) else None)
  column_placed zero = refl
  column_placed (suc j) =
      let k : suc j - 1 ≡ j = omega arith in
      let s = suc-mul j l in
      let size : suc j * l - j * l ≡ l = omega arith in
      column-laid j ∙ rw (k, size, le-leb 1 (suc j) (omega arith)) (by_mark _ (take l (drop (j * l) xs)))
    where
      by_mark : (mark : Bool) (zs : List T) → box_of mark zs ≡ (if mark then Some zs else None)
      by_mark true zs = refl
      by_mark false zs = refl
