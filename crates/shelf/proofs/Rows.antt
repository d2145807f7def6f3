-- Lemmas on rows of a shelf that are read and written together. Assumes nothing.
use Rattle.std.proofs.Common.{◌≡◌, ◌≢◌, ℕ, zero, suc, ◌+◌, ◌-◌, ◌≤◌, ◌<◌, true, false, ◌&&◌, nat_le, List, [], ◌∷◌, ◌++◌, length, drop, slice_get, slice_range, Option, Some, None, is_some, refl, sym, ap, ◌∙◌, ◌⊎◌, ⊎_elim, subst, arith, tests}
use Rattle.std.proofs.lemmas.Bool.{cases_eq, cond-true}
use Rattle.std.proofs.lemmas.List.{length-drop, length-take}
use Rattle.shelf.specs.Meaning.{AllHave, IsShelf, Meaning, box_count, change, column, in_box, in_place, is_standing, symbol_at, symbol_of, with_box, with_place}
use Rattle.shelf.proofs.Places.{in_box-with_other, length-with_box, with_box-like, with_box-twice}
use Rattle.shelf.proofs.Meanings.{change-same, column_length, standing_column}
use Rattle.shelf.specs.Rows.{has_rows, overwritten, rows_at, rows_of, rows_read, with_rows, with_stretch}
use Rattle.shelf.specs.RowLaws.{Apart, RowsStand}
use Rattle.shelf.proofs.Columns.{length-overwritten, overwritten-adjoining, overwritten-again, overwritten-apart, overwritten-same, overwritten_read, overwritten_refused, range_after, range_before, slice_get-after, slice_get-before, slice_get-range, slice_get-within}

-- changes of boxes apart may go in either order
with_place-apart : {C : Type 0} (cs : List (Option C)) (i j : ℕ) (f h : Option C → Option C) → i ≢ j → with_place (with_place cs i f) j h ≡ with_place (with_place cs j h) i f
with_place-apart [] i j f h n = refl
with_place-apart (c ∷ cs) zero zero f h n = absurd (n refl)
with_place-apart (c ∷ cs) zero (suc j) f h n = refl
with_place-apart (c ∷ cs) (suc i) zero f h n = refl
with_place-apart (c ∷ cs) (suc i) (suc j) f h n = ap (λ ds. c ∷ ds) (with_place-apart cs i j f h (λ e. n (ap suc e)))

with_box-apart : {C : Type 0} (cs : List (Option C)) (b d : ℕ) (f h : Option C → Option C) → b ≢ d → with_box (with_box cs b f) d h ≡ with_box (with_box cs d h) b f
with_box-apart cs zero d f h n = refl
with_box-apart cs (suc i) zero f h n = refl
with_box-apart cs (suc i) (suc j) f h n = with_place-apart cs i j f h (λ e. n (ap suc e))

-- what a change under which no box comes makes of the box
in_place-with : {C : Type 0} (cs : List (Option C)) (i : ℕ) (f : Option C → Option C) → f None ≡ None → in_place (with_place cs i f) i ≡ f (in_place cs i)
in_place-with [] i f e = sym e
in_place-with (c ∷ cs) zero f e = refl
in_place-with (c ∷ cs) (suc i) f e = in_place-with cs i f e

in_box-with : {C : Type 0} (cs : List (Option C)) (b : ℕ) (f : Option C → Option C) → f None ≡ None → in_box (with_box cs b f) b ≡ f (in_box cs b)
in_box-with cs zero f e = sym e
in_box-with cs (suc i) f e = in_place-with cs i f e

module _ {T : Type 0} where
  -- two changes of one box are one
  pub changed_twice : (m : Meaning T) (b : ℕ) (f h k : Option (List T) → Option (List T)) → h (f (column m b)) ≡ k (column m b) → change (change m b f) b h ≡ change m b k
  changed_twice m b f h k e =
      ap (λ cs. record { rows = m.rows; boxes = cs }) (with_box-twice m.boxes b f h ∙ with_box-like m.boxes b (λ c. h (f c)) k e)

  column_written : (m : Meaning T) (b from : ℕ) (xs : List T) → column (with_rows m b from xs) b ≡ with_stretch from xs (column m b)
  column_written m b from xs = in_box-with m.boxes b (with_stretch from xs) refl

  -- the column of a box that has the rows
  pub column_there : (m : Meaning T) (b from n : ℕ) → IsShelf m → has_rows m b from n ≡ true → (ys : List T) × (column m b ≡ Some ys) × (from + n ≤ length ys)
  column_there m b from n s e =
      let t : is_standing m b ≡ true = grind (arith, tests) in
      let c = standing_column m b t in
      let l = column_length m b c.0 s c.1 in
      (c.0, c.1, grind (arith, tests))

  pub rows_counted : (m : Meaning T) (b from n : ℕ) → IsShelf m → has_rows m b from n ≡ true → length (rows_at m b from n) ≡ n
  rows_counted m b from n s e =
      let c = column_there m b from n s e in
      ap (λ o. length (rows_of o from n)) c.1
      ∙ omega (arith, c.2, length-take (from + n - from) (drop from c.0), length-drop from c.0)

  pub row_read : (m : Meaning T) (b from n i : ℕ) → i < n → slice_get (rows_at m b from n) i ≡ symbol_at m b (from + i)
  row_read m b from n i l = by (column m b)
    where
      by : (o : Option (List T)) → slice_get (rows_of o from n) i ≡ symbol_of o (from + i)
      by None = refl
      by (Some ys) = slice_get-range ys from n i l

  -- a buffer, once the rows were read
  pub rows_read_there : (m : Meaning T) (b from : ℕ) (xs : List T) → has_rows m b from (length xs) ≡ true → rows_read m b from xs ≡ rows_at m b from (length xs)
  rows_read_there m b from xs e = cond-true (has_rows m b from (length xs)) (rows_at m b from (length xs)) xs e

  pub refused : (m : Meaning T) (b from : ℕ) (xs : List T) → IsShelf m → has_rows m b from (length xs) ≡ false → with_rows m b from xs ≡ m
  refused m b from xs s e = change-same m b (with_stretch from xs) (by (column m b) refl)
    where
      by : (o : Option (List T)) → column m b ≡ o → with_stretch from xs o ≡ o
      by None q = refl
      by (Some ys) q =
          let l = column_length m b ys s q in
          let t : is_standing m b ≡ true = ap is_some q in
          ap Some (overwritten_refused from xs ys (grind (arith, tests)))

  pub read_back : (m : Meaning T) (b from n : ℕ) (xs : List T) → IsShelf m → length xs ≡ n → has_rows m b from n ≡ true → rows_at (with_rows m b from xs) b from n ≡ xs
  read_back m b from n xs s l e =
      let c = column_there m b from n s e in
      ap (λ o. rows_of o from n) (column_written m b from xs ∙ ap (with_stretch from xs) c.1)
      ∙ ap (λ k. slice_range (overwritten from xs c.0) from (from + k)) (sym l)
      ∙ overwritten_read from xs c.0 (omega (arith, c.2))

  row_written : (m : Meaning T) (b from : ℕ) (xs : List T) (a : ℕ) → IsShelf m → has_rows m b from (length xs) ≡ true → from ≤ a → a < from + length xs
      → symbol_at (with_rows m b from xs) b a ≡ slice_get xs (a - from)
  row_written m b from xs a s e l h =
      let c = column_there m b from (length xs) s e in
      ap (λ o. symbol_of o a) (column_written m b from xs ∙ ap (with_stretch from xs) c.1)
      ∙ slice_get-within from xs c.0 a c.2 l h

  pub row_stays : (m : Meaning T) (b from : ℕ) (xs : List T) (a : ℕ) → (a < from) ⊎ (from + length xs ≤ a) → symbol_at (with_rows m b from xs) b a ≡ symbol_at m b a
  row_stays m b from xs a h = ap (λ o. symbol_of o a) (column_written m b from xs) ∙ by (column m b)
    where
      by : (o : Option (List T)) → symbol_of (with_stretch from xs o) a ≡ symbol_of o a
      by None = refl
      by (Some ys) = ⊎_elim (slice_get-before from xs ys a) (slice_get-after from xs ys a) h

  pub column_stays : (m : Meaning T) (b from : ℕ) (xs : List T) (d : ℕ) → b ≢ d → column (with_rows m b from xs) d ≡ column m d
  column_stays m b from xs d n = in_box-with_other m.boxes b d (with_stretch from xs) n

  rows_of_stay : (m : Meaning T) (b from : ℕ) (xs : List T) (other n : ℕ) → (from + length xs ≤ other) ⊎ (other + n ≤ from) → rows_at (with_rows m b from xs) b other n ≡ rows_at m b other n
  rows_of_stay m b from xs other n h = ap (λ o. rows_of o other n) (column_written m b from xs) ∙ by (column m b)
    where
      by : (o : Option (List T)) → rows_of (with_stretch from xs o) other n ≡ rows_of o other n
      by None = refl
      by (Some ys) = ⊎_elim (range_after from xs ys other n) (range_before from xs ys other n) h

  rows_stay : (m : Meaning T) (b from : ℕ) (xs : List T) (d other n : ℕ) → Apart b from (length xs) d other n → rows_at (with_rows m b from xs) d other n ≡ rows_at m d other n
  rows_stay m b from xs d other n h = ⊎_elim others (λ r. ⊎_elim (λ e. subst (λ k. rows_at (with_rows m b from xs) k other n ≡ rows_at m k other n) e (rows_of_stay m b from xs other n r)) others (cases_eq b d)) h
    where
      others : b ≢ d → rows_at (with_rows m b from xs) d other n ≡ rows_at m d other n
      others ne = ap (λ o. rows_of o other n) (column_stays m b from xs d ne)

  pub standing_stays : (m : Meaning T) (b from : ℕ) (xs : List T) (d : ℕ) → is_standing (with_rows m b from xs) d ≡ is_standing m d
  standing_stays m b from xs d =
      ⊎_elim
      (λ e. subst (λ k. is_standing (with_rows m b from xs) k ≡ is_standing m k) e (ap is_some (column_written m b from xs) ∙ by (column m b)))
      (λ n. ap is_some (column_stays m b from xs d n))
      (cases_eq b d)
    where
      by : (o : Option (List T)) → is_some (with_stretch from xs o) ≡ is_some o
      by None = refl
      by (Some ys) = refl

  pub box_count_stays : (m : Meaning T) (b from : ℕ) (xs : List T) → box_count (with_rows m b from xs) ≡ box_count m
  box_count_stays m b from xs = length-with_box m.boxes b (with_stretch from xs)

  pub has_rows_stays : (m : Meaning T) (b from : ℕ) (xs : List T) (d other n : ℕ) → has_rows (with_rows m b from xs) d other n ≡ has_rows m d other n
  has_rows_stays m b from xs d other n = ap (λ t. t && nat_le (other + n) m.rows) (standing_stays m b from xs d)

  -- the columns keep their lengths
  full_place : (l : ℕ) (cs : List (Option (List T))) (i from : ℕ) (xs : List T) → AllHave l cs → AllHave l (with_place cs i (with_stretch from xs))
  full_place l [] i from xs h = h
  full_place l (None ∷ cs) zero from xs h = h
  full_place l (Some ys ∷ cs) zero from xs h = (length-overwritten from xs ys ∙ h.0, h.1)
  full_place l (None ∷ cs) (suc i) from xs h = full_place l cs i from xs h
  full_place l (Some ys ∷ cs) (suc i) from xs h = (h.0, full_place l cs i from xs h.1)

  full_box : (l : ℕ) (cs : List (Option (List T))) (b from : ℕ) (xs : List T) → AllHave l cs → AllHave l (with_box cs b (with_stretch from xs))
  full_box l cs zero from xs h = h
  full_box l cs (suc i) from xs h = full_place l cs i from xs h

  still_shelf : (m : Meaning T) (b from : ℕ) (xs : List T) → IsShelf m → IsShelf (with_rows m b from xs)
  still_shelf m b from xs s = record {
    few = omega (arith, s.few, box_count_stays m b from xs);
    some = λ z. omega (arith, s.some z, box_count_stays m b from xs);
    short = s.short;
    full = full_box m.rows m.boxes b from xs s.full;
  }

  same_written : (m : Meaning T) (b from n : ℕ) → with_rows m b from (rows_at m b from n) ≡ m
  same_written m b from n = change-same m b (with_stretch from (rows_at m b from n)) (by (column m b))
    where
      by : (o : Option (List T)) → with_stretch from (rows_of o from n) o ≡ o
      by None = refl
      by (Some ys) = ap Some (overwritten-same from n ys)

  pub written_again : (m : Meaning T) (b from : ℕ) (xs ys : List T) → length xs ≡ length ys → with_rows (with_rows m b from xs) b from ys ≡ with_rows m b from ys
  written_again m b from xs ys n = changed_twice m b (with_stretch from xs) (with_stretch from ys) (with_stretch from ys) (by (column m b))
    where
      by : (o : Option (List T)) → with_stretch from ys (with_stretch from xs o) ≡ with_stretch from ys o
      by None = refl
      by (Some zs) = ap Some (overwritten-again from xs ys zs n)

  adjoining : (m : Meaning T) (b from : ℕ) (xs ys : List T) → IsShelf m → has_rows m b from (length xs + length ys) ≡ true
      → with_rows (with_rows m b from xs) b (from + length xs) ys ≡ with_rows m b from (xs ++ ys)
  adjoining m b from xs ys s e =
      let c = column_there m b from (length xs + length ys) s e in
      changed_twice m b (with_stretch from xs) (with_stretch (from + length xs) ys) (with_stretch from (xs ++ ys))
      (ap (λ o. with_stretch (from + length xs) ys (with_stretch from xs o)) c.1
      ∙ ap Some (overwritten-adjoining from xs ys c.0 (omega (arith, c.2)))
      ∙ sym (ap (with_stretch from (xs ++ ys)) c.1))

  apart_after : (m : Meaning T) (b from : ℕ) (xs : List T) (other : ℕ) (ys : List T) → from + length xs ≤ other
      → with_rows (with_rows m b from xs) b other ys ≡ with_rows (with_rows m b other ys) b from xs
  apart_after m b from xs other ys h =
      changed_twice m b (with_stretch from xs) (with_stretch other ys) (λ o. with_stretch from xs (with_stretch other ys o)) (by (column m b))
      ∙ sym (changed_twice m b (with_stretch other ys) (with_stretch from xs) (λ o. with_stretch from xs (with_stretch other ys o)) refl)
    where
      by : (o : Option (List T)) → with_stretch other ys (with_stretch from xs o) ≡ with_stretch from xs (with_stretch other ys o)
      by None = refl
      by (Some zs) = ap Some (overwritten-apart from other xs ys zs h)

  apart : (m : Meaning T) (b from : ℕ) (xs : List T) (d other : ℕ) (ys : List T) → Apart b from (length xs) d other (length ys)
      → with_rows (with_rows m b from xs) d other ys ≡ with_rows (with_rows m d other ys) b from xs
  apart m b from xs d other ys h = ⊎_elim others (λ r. ⊎_elim (λ e. subst (λ k. with_rows (with_rows m b from xs) k other ys ≡ with_rows (with_rows m k other ys) b from xs) e (same r)) others (cases_eq b d)) h
    where
      others : b ≢ d → with_rows (with_rows m b from xs) d other ys ≡ with_rows (with_rows m d other ys) b from xs
      others n = ap (λ cs. record { rows = m.rows; boxes = cs }) (with_box-apart m.boxes b d (with_stretch from xs) (with_stretch other ys) n)

      same : (from + length xs ≤ other) ⊎ (other + length ys ≤ from) → with_rows (with_rows m b from xs) b other ys ≡ with_rows (with_rows m b other ys) b from xs
      same r = ⊎_elim (apart_after m b from xs other ys) (λ l. sym (apart_after m b other ys from xs l)) r

pub laws : (T : Type 0) → RowsStand T
laws T = record {
  rows_counted = rows_counted;
  row_read = row_read;
  refused = refused;
  read_back = read_back;
  row_written = row_written;
  row_stays = row_stays;
  column_stays = column_stays;
  rows_stay = rows_stay;
  standing_stays = standing_stays;
  row_count_stays = λ m b from xs. refl;
  box_count_stays = box_count_stays;
  has_rows_stays = has_rows_stays;
  still_shelf = still_shelf;
  same_written = same_written;
  written_again = written_again;
  adjoining = adjoining;
  apart = apart;
}
