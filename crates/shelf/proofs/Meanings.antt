-- Lemmas on what shelves mean: what is refused, and what a refusal leaves. Assumes nothing.
use Rattle.std.proofs.Common.{◌≡◌, ℕ, zero, suc, ◌≤◌, ◌<◌, Bool, true, false, List, [], ◌∷◌, length, replicate, slice_get, slice_set, Option, Some, None, is_some, refl, sym, ap, ◌∙◌, true≢false, arith, tests}
use Rattle.std.proofs.lemmas.Option.{slice_get_past}
use Rattle.shelf.specs.Meaning.{AllHave, IsShelf, Meaning, box_count, column, change, has_row, in_place, is_box, is_out, is_standing, symbol_at, symbol_of, unless_standing, nothing, with_out, with_row, with_standing, with_symbol}
use Rattle.shelf.proofs.Places.{with_box-same, with_box_past}

-- every column has the shelf's rows
place_length : {T : Type 0} (l : ℕ) (cs : List (Option (List T))) (i : ℕ) (xs : List T) → AllHave l cs → in_place cs i ≡ Some xs → length xs ≡ l
place_length l [] i xs h e = absurd (grind arith)
place_length l (None ∷ cs) zero xs h e = absurd (grind arith)
place_length l (Some ys ∷ cs) zero xs h e = let s : ys ≡ xs = grind arith in ap length (sym s) ∙ h.0
place_length l (None ∷ cs) (suc i) xs h e = place_length l cs i xs h e
place_length l (Some ys ∷ cs) (suc i) xs h e = place_length l cs i xs h.1 e

pub column_length : {T : Type 0} (m : Meaning T) (b : ℕ) (xs : List T) → IsShelf m → column m b ≡ Some xs → length xs ≡ m.rows
column_length m zero xs s e = absurd (grind arith)
column_length m (suc i) xs s e = place_length m.rows m.boxes i xs s.full e

-- a box that stands has a number from 1 to the count
place_stands : {C : Type 0} (cs : List (Option C)) (i : ℕ) → is_some (in_place cs i) ≡ true → i < length cs
place_stands [] i e = absurd (true≢false (sym e))
place_stands (c ∷ cs) zero e = omega arith
place_stands (c ∷ cs) (suc i) e = omega (arith, place_stands cs i e)

pub standing_inside : {T : Type 0} (m : Meaning T) (b : ℕ) → is_standing m b ≡ true → (1 ≤ b) × (b ≤ box_count m)
standing_inside m zero e = absurd (true≢false (sym e))
standing_inside m (suc i) e = let h = place_stands m.boxes i e in (omega arith, omega arith)

pub standing_column : {T : Type 0} (m : Meaning T) (b : ℕ) → is_standing m b ≡ true → (xs : List T) × (column m b ≡ Some xs)
standing_column {T} m b e = by (column m b) e
  where
    by : (o : Option (List T)) → is_some o ≡ true → (xs : List T) × (o ≡ Some xs)
    by None h = absurd (true≢false (sym h))
    by (Some xs) h = (xs, refl)

pub out_column : {T : Type 0} (m : Meaning T) (b : ℕ) → is_standing m b ≡ false → column m b ≡ None
out_column {T} m b e = by (column m b) e
  where
    by : (o : Option (List T)) → is_some o ≡ false → o ≡ None
    by None h = refl
    by (Some xs) h = absurd (true≢false h)

module _ {T : Type 0} (m : Meaning T) where
  -- nothing changes where a change leaves the box as it is
  pub change-same : (b : ℕ) (f : Option (List T) → Option (List T)) → f (column m b) ≡ column m b → change m b f ≡ m
  change-same b f e = ap (λ cs. record { rows = m.rows; boxes = cs }) (with_box-same m.boxes b f e)

  with_row-past : (a : ℕ) (x : T) (o : Option (List T)) → ((xs : List T) → o ≡ Some xs → length xs ≤ a) → with_row a x o ≡ o
  with_row-past a x None h = refl
  with_row-past a x (Some xs) h = ap Some (set_past xs a x (h xs refl))
    where
      set_past : (ys : List T) (a : ℕ) (x : T) → length ys ≤ a → slice_set ys a x ≡ ys
      set_past [] a x l = refl
      set_past (y ∷ ys) zero x l = absurd (omega arith)
      set_past (y ∷ ys) (suc a) x l = ap (λ zs. y ∷ zs) (set_past ys a x (omega arith))

  symbol_of-past : (a : ℕ) (o : Option (List T)) → ((xs : List T) → o ≡ Some xs → length xs ≤ a) → symbol_of o a ≡ None
  symbol_of-past a None h = refl
  symbol_of-past a (Some xs) h = slice_get_past xs a (h xs refl)

  -- without the row there is no column that is so long
  short_column : IsShelf m → (b a : ℕ) → has_row m b a ≡ false → (xs : List T) → column m b ≡ Some xs → length xs ≤ a
  short_column s b a e xs h =
      let l = column_length m b xs s h in
      let t : is_standing m b ≡ true = ap is_some h in
      grind (arith, tests)

  -- what is refused changes nothing
  pub with_symbol_refused : IsShelf m → (b a : ℕ) (x : T) → has_row m b a ≡ false → with_symbol m b a x ≡ m
  with_symbol_refused s b a x e = change-same b (with_row a x) (with_row-past a x (column m b) (short_column s b a e))

  pub symbol_at_refused : IsShelf m → (b a : ℕ) → has_row m b a ≡ false → symbol_at m b a ≡ None
  symbol_at_refused s b a e = symbol_of-past a (column m b) (short_column s b a e)

  pub with_out_refused : (b : ℕ) → is_standing m b ≡ false → with_out m b ≡ m
  with_out_refused b e = change-same b nothing (sym (out_column m b e))

  pub with_standing_refused : (b : ℕ) (x : T) → is_out m b ≡ false → with_standing m b x ≡ m
  with_standing_refused b x e = by (is_standing m b) refl
    where
      stays : (o : Option (List T)) → is_some o ≡ true → unless_standing (replicate m.rows x) o ≡ o
      stays None h = absurd (true≢false (sym h))
      stays (Some xs) h = refl

      by : (t : Bool) → is_standing m b ≡ t → with_standing m b x ≡ m
      by true h = change-same b (unless_standing (replicate m.rows x)) (stays (column m b) h)
      by false h = no_box b (let n : is_box m b ≡ false = grind (arith, tests) in n)
        where
          no_box : (b : ℕ) → is_box m b ≡ false → with_standing m b x ≡ m
          no_box zero n = refl
          no_box (suc i) n =
              ap (λ cs. record { rows = m.rows; boxes = cs }) (with_box_past m.boxes (suc i) (unless_standing (replicate m.rows x)) (grind (arith, tests)))

  -- a row that is there is fetched
  pub symbol_at_there : IsShelf m → (b a : ℕ) → has_row m b a ≡ true → (x : T) × (symbol_at m b a ≡ Some x)
  symbol_at_there s b a e = by (standing_column m b (grind (arith, tests)))
    where
      some_at : (xs : List T) (a : ℕ) → a < length xs → (x : T) × (slice_get xs a ≡ Some x)
      some_at [] a h = absurd (omega arith)
      some_at (x ∷ xs) zero h = (x, refl)
      some_at (x ∷ xs) (suc a) h = some_at xs a (omega arith)

      by : ((xs : List T) × (column m b ≡ Some xs)) → (x : T) × (symbol_at m b a ≡ Some x)
      by c =
          let l = column_length m b c.0 s c.1 in
          let g = some_at c.0 a (grind (arith, tests)) in
          (g.0, ap (λ o. symbol_of o a) c.1 ∙ g.1)
