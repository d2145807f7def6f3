-- Lemmas on a row of symbols that is cut into boxes: what lies in one, and what changes with it. Assumes nothing.
use Rattle.std.proofs.Common.{◌≡◌, ℕ, zero, suc, ◌+◌, ◌-◌, ◌*◌, ◌≤◌, ◌<◌, Bool, true, false, List, [], ◌∷◌, ◌++◌, length, take, drop, replicate, slice_get, slice_index_or, slice_range, slice_set, Option, Some, refl, sym, ap, ◌∙◌, append_assoc, arith, inl, inr, length-append, length-drop, length-take}
use Rattle.std.proofs.Math.Nat.{suc-mul, zero-mul}
use Rattle.std.proofs.Math.Seq.{take-add, take-set-lt}
use Rattle.std.proofs.lemmas.List.{append_cancel_left, drop-drop, drop-set-add, drop-set-lt, drop_at, drop_more, length-replicate, length-take-le, replicate_more, set-append_right, set-get_or, take-set-le, take_all, take-take, take_at}
use Rattle.std.proofs.lemmas.Bool.{cases_lt}
use Rattle.std.proofs.lemmas.Option.{slice_get_past}
use Rattle.shelf.specs.Meaning.{in_place, nothing, unless_standing, with_place, with_row}
use Rattle.shelf.specs.Rows.{overwritten, with_stretch}
use Rattle.shelf.proofs.Columns.{length-overwritten, range_after, range_before, rows_determine, slice_get-after, slice_get-before, slice_get-within}
use Rattle.shelf.proofs.Cuts.{slice_get-drop, slice_get-take}
use Rattle.frame.specs.Layouts.{box_of, cut, filled}

pub in_place-cut : {T : Type 0} (l i : ℕ) (marks : List Bool) (xs : List T) → in_place (cut l marks xs) i ≡ box_of (slice_index_or marks i false) (take l (drop (i * l) xs))
in_place-cut l i [] xs = refl
in_place-cut l zero (m ∷ ms) xs = ap (λ k. box_of m (take l (drop k xs))) (sym (zero-mul l))
in_place-cut l (suc i) (m ∷ ms) xs =
    in_place-cut l i ms (drop l xs)
    ∙ ap (λ zs. box_of (slice_index_or ms i false) (take l zs)) (drop-drop (i * l) l xs ∙ ap (λ k. drop k xs) (let e = suc-mul i l in omega arith))

-- one box changes, by its mark or its symbols
cut_change : {T : Type 0} (l i : ℕ) (marks : List Bool) (mark : Bool) (xs ys : List T) (f : Option (List T) → Option (List T))
    → i < length marks
    → take (i * l) ys ≡ take (i * l) xs
    → drop (suc i * l) ys ≡ drop (suc i * l) xs
    → box_of mark (take l (drop (i * l) ys)) ≡ f (box_of (slice_index_or marks i false) (take l (drop (i * l) xs)))
    → cut l (slice_set marks i mark) ys ≡ with_place (cut l marks xs) i f
cut_change l i [] mark xs ys f h before after here = absurd (omega arith)
cut_change l zero (m ∷ ms) mark xs ys f h before after here =
    let one : suc 0 * l ≡ l = (let e = suc-mul 0 l in let z = zero-mul l in omega arith) in
    let a : drop l ys ≡ drop l xs = (rw one at after) in
    let b : box_of mark (take l ys) ≡ f (box_of m (take l xs)) = (rw (zero-mul l) at here) in
    cc
cut_change l (suc i) (m ∷ ms) mark xs ys f h before after here =
    let e : suc i * l ≡ l + i * l = (let s = suc-mul i l in omega arith) in
    let e2 : suc (suc i) * l ≡ l + suc i * l = (let s = suc-mul (suc i) l in omega arith) in
    let k : l ≤ suc i * l = omega arith in
    let first : take l ys ≡ take l xs = sym (take-take l (suc i * l) ys k) ∙ ap (take l) before ∙ take-take l (suc i * l) xs k in
    let split : take l ys ++ take (i * l) (drop l ys) ≡ take l xs ++ take (i * l) (drop l xs) =
    sym (take-add l (i * l) ys) ∙ (rw e at before) ∙ take-add l (i * l) xs in
    let rest : take (i * l) (drop l ys) ≡ take (i * l) (drop l xs) = append_cancel_left (take l xs) _ _ (rw first at split) in
    let end : drop (suc i * l) (drop l ys) ≡ drop (suc i * l) (drop l xs) = drop-drop (suc i * l) l ys ∙ (rw e2 at after) ∙ sym (drop-drop (suc i * l) l xs) in
    let at-ys : drop (i * l) (drop l ys) ≡ drop (suc i * l) ys = drop-drop (i * l) l ys ∙ ap (λ n. drop n ys) (sym e) in
    let at-xs : drop (i * l) (drop l xs) ≡ drop (suc i * l) xs = drop-drop (i * l) l xs ∙ ap (λ n. drop n xs) (sym e) in
    let now : box_of mark (take l (drop (i * l) (drop l ys))) ≡ f (box_of (slice_index_or ms i false) (take l (drop (i * l) (drop l xs)))) = rw (at-ys, at-xs) here in
    let tail = cut_change l i ms mark (drop l xs) (drop l ys) f (omega arith) rest end now in
    cc

-- what lies before places that are written, and what lies after them
take_before : {T : Type 0} (from : ℕ) (ys xs : List T) (n : ℕ) → n ≤ from → take n (overwritten from ys xs) ≡ take n xs
take_before {T} from ys xs n h =
    let e : 0 + n - 0 ≡ n = omega arith in
    let before : slice_range {X = T} (overwritten from ys xs) 0 (0 + n) ≡ slice_range xs 0 (0 + n) = range_before from ys xs 0 n (omega arith) in
    rw e at before

drop_after : {T : Type 0} (from : ℕ) (ys xs : List T) (n : ℕ) → from + length ys ≤ n → drop n (overwritten from ys xs) ≡ drop n xs
drop_after {T} from ys xs n h =
    let size = length-overwritten from ys xs in
    sym (all (overwritten from ys xs) (omega arith)) ∙ range_after from ys xs n (length xs) h ∙ all xs (omega arith)
  where
    all : (zs : List T) → length zs ≤ length xs → slice_range zs n (n + length xs) ≡ drop n zs
    all zs k = take_all (n + length xs - n) (drop n zs) (simp length-drop (omega arith))

-- places that are written within l places from s on
module _ {T : Type 0} (s l from : ℕ) (ys xs : List T) (fit : from + length ys ≤ l) (room : s + l ≤ length xs) where
  abbrev part : List T → List T
  part zs = take l (drop s zs)

  length-part : (zs : List T) → length zs ≡ length xs → length (part zs) ≡ l
  length-part zs e = length-take-le l (drop s zs) (simp length-drop (omega arith))

  part_get : (zs : List T) (a : ℕ) → a < l → slice_get (part zs) a ≡ slice_get zs (s + a)
  part_get zs a h = slice_get-take l (drop s zs) a h ∙ slice_get-drop s zs a

  abbrev all : List T
  all = overwritten (s + from) ys xs

  inside : (a : ℕ) → a < l → slice_get all (s + a) ≡ slice_get (overwritten from ys (part xs)) a
  inside a h =
      let long = length-part xs refl in
      elim (cases_lt a from) [
        | inl k ↦ slice_get-before (s + from) ys xs (s + a) (omega arith) ∙ sym (part_get xs a h) ∙ sym (slice_get-before from ys (part xs) a k)
        | inr k ↦ elim (cases_lt a (from + length ys)) [
          | inl r ↦
              let e : s + a - (s + from) ≡ a - from = omega arith in
              slice_get-within (s + from) ys xs (s + a) (omega arith) (omega arith) (omega arith)
              ∙ ap (slice_get ys) e
              ∙ sym (slice_get-within from ys (part xs) a (omega arith) k r)
          | inr r ↦ slice_get-after (s + from) ys xs (s + a) (omega arith) ∙ sym (part_get xs a h) ∙ sym (slice_get-after from ys (part xs) a r)
        ]
      ]

  overwritten_inside : part all ≡ overwritten from ys (part xs)
  overwritten_inside =
      let size = length-overwritten (s + from) ys xs in
      let long = length-part all size in
      let same = length-overwritten from ys (part xs) in
      let rest = length-part xs refl in
      rows_determine (part all) (overwritten from ys (part xs)) (λ a. elim (cases_lt a l) [
        | inl h ↦ part_get all a h ∙ inside a h
        | inr h ↦ slice_get_past (part all) a (omega arith) ∙ sym (slice_get_past (overwritten from ys (part xs)) a (omega arith))
      ])

module _ {T : Type 0} (l i : ℕ) (marks : List Bool) (xs : List T) (h : i < length marks) where
  -- a symbol is set
  pub cut_set : (a : ℕ) (x : T) → a < l → cut l marks (slice_set xs (i * l + a) x) ≡ with_place (cut l marks xs) i (with_row a x)
  cut_set a x lt =
      let s = suc-mul i l in
      ap (λ ms. cut l ms (slice_set xs (i * l + a) x)) (sym (set-get_or marks i false))
      ∙ cut_change l i marks (slice_index_or marks i false) xs (slice_set xs (i * l + a) x) (with_row a x) h
      (take-set-le (i * l) xs (i * l + a) x (omega arith)) (drop-set-lt (suc i * l) xs (i * l + a) x (omega arith)) (here (slice_index_or marks i false))
    where
      here : (t : Bool) → box_of t (take l (drop (i * l) (slice_set xs (i * l + a) x))) ≡ with_row a x (box_of t (take l (drop (i * l) xs)))
      here true = ap Some (ap (take l) (drop-set-add (i * l) xs a x) ∙ take-set-lt l (drop (i * l) xs) a x lt)
      here false = refl

  -- several rows of a box are written
  pub cut_written : (from : ℕ) (ys : List T) → from + length ys ≤ l → i * l + l ≤ length xs
      → cut l marks (overwritten (i * l + from) ys xs) ≡ with_place (cut l marks xs) i (with_stretch from ys)
  cut_written from ys fit room =
      let s = suc-mul i l in
      ap (λ ms. cut l ms (overwritten (i * l + from) ys xs)) (sym (set-get_or marks i false))
      ∙ cut_change l i marks (slice_index_or marks i false) xs (overwritten (i * l + from) ys xs) (with_stretch from ys) h
      (take_before (i * l + from) ys xs (i * l) (omega arith)) (drop_after (i * l + from) ys xs (suc i * l) (omega arith)) (here (slice_index_or marks i false))
    where
      here : (t : Bool) → box_of t (take l (drop (i * l) (overwritten (i * l + from) ys xs))) ≡ with_stretch from ys (box_of t (take l (drop (i * l) xs)))
      here true = ap Some (overwritten_inside (i * l) l from ys xs fit room)
      here false = refl

  -- a box goes out
  pub cut_out : cut l (slice_set marks i false) xs ≡ with_place (cut l marks xs) i nothing
  cut_out = cut_change l i marks false xs xs nothing h refl refl refl

  -- a box comes in, with one symbol in every row
  pub cut_in : (x : T) → i * l + l ≤ length xs → slice_index_or marks i false ≡ false
      → cut l (slice_set marks i true) (filled xs (i * l) (i * l + l) x) ≡ with_place (cut l marks xs) i (unless_standing (replicate l x))
  cut_in x room out =
      let front : length (take (i * l) xs) ≡ i * l = length-take-le (i * l) xs (omega arith) in
      let rest = drop (i * l + l) xs in
      let ys = take (i * l) xs ++ (replicate l x ++ rest) in
      let size : i * l + l - i * l ≡ l = omega arith in
      let from : drop (i * l) ys ≡ replicate l x ++ rest = drop_at (take (i * l) xs) (replicate l x ++ rest) (i * l) front in
      let end : drop (i * l + l) ys ≡ rest = sym (drop-drop l (i * l) ys) ∙ ap (drop l) from ∙ drop_at (replicate l x) rest l (length-replicate l x) in
      let e = suc-mul i l in
      rw size (cut_change l i marks true xs ys (unless_standing (replicate l x)) h
      (take_at (take (i * l) xs) (replicate l x ++ rest) (i * l) front)
      (rw e end)
      (ap Some (ap (take l) from ∙ take_at (replicate l x) rest l (length-replicate l x))
      ∙ ap (λ t. unless_standing (replicate l x) (box_of t (take l (drop (i * l) xs)))) (sym out)))

pub length-filled : {T : Type 0} (xs : List T) (start end : ℕ) (x : T) → start ≤ end → end ≤ length xs → length (filled xs start end x) ≡ length xs
length-filled xs start end x h k = simp (length-append, length-replicate, length-take, length-drop) (omega arith)

-- a row is filled place by place
pub filled_more : {T : Type 0} (xs : List T) (start i : ℕ) (x : T) → start ≤ i → i < length xs → slice_set (filled xs start i x) i x ≡ filled xs start (i + 1) x
filled_more xs start i x h k =
    let front : length (take start xs) ≡ start = length-take-le start xs (omega arith) in
    let done = replicate (i - start) x in
    let none : i - start - (i - start) ≡ 0 = omega arith in
    let more : i - start + 1 ≡ i + 1 - start = omega arith in
    set-append_right (take start xs) (done ++ drop i xs) start i x front h
    ∙ ap (λ ys. take start xs ++ ys) (set-append_right done (drop i xs) (i - start) (i - start) x (length-replicate (i - start) x) (omega arith)
    ∙ rw (none, drop_more xs i x k) (sym (append_assoc done (x ∷ []) (drop (i + 1) xs)))
    ∙ ap (λ ys. ys ++ drop (i + 1) xs) (replicate_more (i - start) x ∙ ap (λ n. replicate n x) more))
