-- What a frame makes of a row of symbols: always a shelf. Assumes nothing.
use Rattle.std.specs.Prelude.{◌≡◌, ℕ, suc, ◌+◌, ◌*◌, ◌≤◌, ◌<◌, Bool, true, false, List, [], ◌∷◌, length, take, drop, slice_get, slice_range, slice_set, None, refl}
use Rattle.std.proofs.Common.{ap, arith, length-drop, length-take}
use Rattle.std.proofs.Math.Nat.{mul-le-mul_right, suc-mul}
use Rattle.std.proofs.lemmas.Bool.Decides.{nat_tests}
use Rattle.std.proofs.lemmas.List.{length-take-le}
use Rattle.std.specs.declared.ops.Range.{Range}
use Rattle.shelf.specs.Meaning.{AllHave, IsShelf, Meaning, has_row, is_out, symbol_at, with_standing, with_symbol}
use Rattle.shelf.specs.Rows.{has_rows, overwritten, rows_at, with_rows}
use Rattle.frame.specs.Layouts.{Layout, boxes_in, cut, filled, laid, rows_in}
use Rattle.frame.specs.declared.Frame.{Frame}

-- the frame as one plain value
abbrev pub layout : Frame → Layout
layout f = record { marks = f.marks; boxes = f.boxes; rows = f.rows }

-- the shelf in the row xs
abbrev pub framed : {T : Type 0} → Frame → List T → Meaning T
framed f xs = laid (layout f) xs

-- there are as many boxes as marks
pub length-cut : {T : Type 0} (l : ℕ) (marks : List Bool) (xs : List T) → length (cut l marks xs) ≡ length marks
length-cut l [] xs = refl
length-cut l (mark ∷ marks) xs = ap suc (length-cut l marks (drop l xs))

-- every column has l symbols, if there are so many
cut_full : {T : Type 0} (l : ℕ) (marks : List Bool) (xs : List T) → length marks * l ≤ length xs → AllHave l (cut l marks xs)
cut_full l [] xs h = tt
cut_full l (false ∷ marks) xs h = let e = suc-mul (length marks) l in cut_full l marks (drop l xs) (simp length-drop (omega arith))
cut_full l (true ∷ marks) xs h =
    let e = suc-mul (length marks) l in
    (length-take-le l xs (omega arith), cut_full l marks (drop l xs) (simp length-drop (omega arith)))

-- what there is of the boxes in a row is a shelf, and has room there
pub record Fits (y : Layout) (len : ℕ) : Type 0 where
  pub few : boxes_in y len ≤ 32
  pub marked : boxes_in y len ≤ length y.marks
  pub some : rows_in y len ≡ 0 → boxes_in y len ≡ 0
  pub short : rows_in y len ≤ 4096
  pub room : boxes_in y len * rows_in y len ≤ len

pub layout_fits : (y : Layout) (len : ℕ) → Fits y len
layout_fits y len = record { few = grind (arith, nat_tests); marked = grind (arith, nat_tests); some = λ e. grind (arith, nat_tests); short = grind (arith, nat_tests); room = grind (arith, nat_tests) }

pub framed_sound : {T : Type 0} (f : Frame) (xs : List T) → IsShelf (framed f xs)
framed_sound f xs =
    let n = boxes_in (layout f) (length xs) in
    let l = rows_in (layout f) (length xs) in
    let fits = layout_fits (layout f) (length xs) in
    let few = fits.few in
    let room = fits.room in
    let all : length (take n f.marks) ≤ n = simp length-take (omega arith) in
    let enough = mul-le-mul_right l all in
    record {
      few = rw length-cut (omega arith);
      some = λ e. let none = fits.some e in rw length-cut (omega arith);
      short = fits.short;
      full = cut_full l (take n f.marks) xs (omega arith);
    }

-- place i holds row a of box b
pub record Present {T : Type 0} (f : Frame) (xs : List T) (b a i : ℕ) : Type 0 where
  pub within : i < length xs
  pub row : has_row (framed f xs) b a ≡ true
  pub symbol : symbol_at (framed f xs) b a ≡ slice_get xs i
  pub changed : (x : T) → with_symbol (framed f xs) b a x ≡ framed f (slice_set xs i x)

-- box b is out, or has no row a
pub record Absent {T : Type 0} (f : Frame) (xs : List T) (b a : ℕ) : Type 0 where
  pub row : has_row (framed f xs) b a ≡ false
  pub symbol : symbol_at (framed f xs) b a ≡ None

-- these places hold n rows of box b, from row `from` on
pub record RowsPresent {T : Type 0} (f : Frame) (xs : List T) (b from n : ℕ) (places : Range ℕ) : Type 0 where
  pub size : places.end ≡ places.start + n
  pub within : places.end ≤ length xs
  pub rows : has_rows (framed f xs) b from n ≡ true
  pub symbols : rows_at (framed f xs) b from n ≡ slice_range xs places.start places.end
  pub changed : (ys : List T) → length ys ≡ n → with_rows (framed f xs) b from ys ≡ framed f (overwritten places.start ys xs)

-- box b is out, or has not so many rows
pub record RowsAbsent {T : Type 0} (f : Frame) (xs : List T) (b from n : ℕ) : Type 0 where
  pub rows : has_rows (framed f xs) b from n ≡ false
  pub same : (ys : List T) → length ys ≡ n → with_rows (framed f xs) b from ys ≡ framed f xs

-- box b has come in, and its column lies in these places: g is the frame that has it
pub record Opened {T : Type 0} (f g : Frame) (xs : List T) (b : ℕ) (places : Range ℕ) : Type 0 where
  pub rising : places.start ≤ places.end
  pub within : places.end ≤ length xs
  pub out : is_out (framed f xs) b ≡ true
  pub changed : (x : T) → with_standing (framed f xs) b x ≡ framed g (filled xs places.start places.end x)

-- there is no box b that is out, and all is as it was
pub record Shut {T : Type 0} (f g : Frame) (xs : List T) (b : ℕ) : Type 0 where
  pub out : is_out (framed f xs) b ≡ false
  pub same : framed g xs ≡ framed f xs
