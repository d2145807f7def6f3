-- What the calls of a frame f make of a row of symbols xs, as its callers meet it. Assumes nothing.
use Rattle.std.proofs.Common.{◌≡◌, ℕ, zero, suc, ◌*◌, ◌≤◌, Bool, true, false, if◌then◌else◌, List, ◌∷◌, length, take, drop, replicate, slice_range, Option, MatchOption, ◌-◌, Some, None, is_some, refl, sym, ap, ◌∙◌, subst, arith, inl, inr}
use Rattle.std.proofs.lemmas.Bool.{cases_Bool, cond-false, cond-true, le-leb}
use Rattle.std.proofs.lemmas.Bool.Decides.{nat_tests}
use Rattle.std.proofs.lemmas.Option.{none-some}
use Rattle.std.specs.declared.ops.Range.{Range}
use Rattle.shelf.specs.Calls.{after_all}
use Rattle.shelf.specs.declared.calls.Call.{Call}
use Rattle.shelf.specs.Meaning.{Meaning, box_count, column, has_row, is_out, is_standing, with_out, with_standing, with_symbol}
use Rattle.shelf.proofs.Meanings.{symbol_at_refused, with_out_refused, with_standing_refused, with_symbol_refused}
use Rattle.shelf.specs.Rows.{has_rows}
use Rattle.shelf.proofs.Rows.{refused}
use Rattle.frame.specs.Frames.{Absent, Opened, Present, RowsAbsent, RowsPresent, Shut, framed, framed_sound, layout}
use Rattle.frame.specs.Layouts.{Keeps, all_out, boxes_in, cut, filled, fits, is_allowed, is_out_in, laid, place_in, places_in, room_in, rows_in, stands_in, with_mark}
use Rattle.frame.specs.declared.Frame.{Frame}
use Rattle.frame.proofs.Rows.{box_count-laid, column_placed, has_row-laid, has_rows-laid, is_out-laid, is_standing-laid, place_within, room, room_within, rows_at-laid, rows_within, symbol_at-laid, with_out-standing, with_rows-laid, with_standing-laid, with_symbol-laid}

cut-all_out : {T : Type 0} (l n k : ℕ) (xs : List T) → n ≤ k → cut l (take n (replicate k false)) xs ≡ replicate n None
cut-all_out l zero k xs h = refl
cut-all_out l (suc n) zero xs h = absurd (omega arith)
cut-all_out l (suc n) (suc k) xs h = ap (λ cs. None ∷ cs) (cut-all_out l n k (drop l xs) (omega arith))

-- what a frame is told of its row, and what that means
module _ {T : Type 0} (f : Frame) (xs : List T) where
  pub box_count_told : box_count (framed f xs) ≡ boxes_in (layout f) (length xs)
  box_count_told = box_count-laid (layout f) xs

  pub standing_told : (b : ℕ) → is_standing (framed f xs) b ≡ stands_in (layout f) (length xs) b
  standing_told b = is_standing-laid (layout f) xs b

  pub out_told : (b : ℕ) → with_out (framed f xs) b ≡ laid (if stands_in (layout f) (length xs) b then with_mark (layout f) b false else layout f) xs
  out_told b = elim (cases_Bool (stands_in (layout f) (length xs) b)) [
    | inl h ↦ sym (ap (λ y. laid y xs) (cond-true _ _ _ h) ∙ with_out-standing (layout f) xs b h)
    | inr h ↦ with_out_refused (framed f xs) b (standing_told b ∙ h) ∙ sym (ap (λ y. laid y xs) (cond-false _ _ _ h))
  ]

  pub column_told : (b : ℕ) → column (framed f xs) b ≡ (if stands_in (layout f) (length xs) b then Some (slice_range xs ((b - 1) * rows_in (layout f) (length xs)) (b * rows_in (layout f) (length xs))) else None)
  column_told b = column_placed (layout f) xs b

  -- what is refused changes nothing
  pub no_row : (b a : ℕ) (x : T) → has_row (framed f xs) b a ≡ false → with_symbol (framed f xs) b a x ≡ framed f xs
  no_row b a x h = with_symbol_refused (framed f xs) (framed_sound f xs) b a x h

  pub not_out : (b : ℕ) (x : T) → is_out (framed f xs) b ≡ false → with_standing (framed f xs) b x ≡ framed f xs
  not_out b x h = with_standing_refused (framed f xs) b x h

-- len is the length that the frame is told
module _ {T : Type 0} (f : Frame) (xs : List T) (len : ℕ) (size : len ≡ length xs) where
  pub located : (b a : ℕ) (r : Option ℕ) → r ≡ place_in (layout f) len b a → MatchOption r (Absent f xs b a) (Present f xs b a)
  located b a r answer = by r (sym (answer ∙ ap (λ n. place_in (layout f) n b a) size))
    where
      by : (r : Option ℕ) → place_in (layout f) (length xs) b a ≡ r → MatchOption r (Absent f xs b a) (Present f xs b a)
      by None e =
          let h = has_row-laid (layout f) xs b a ∙ ap is_some e in
          record { row = h; symbol = symbol_at_refused (framed f xs) (framed_sound f xs) b a h }
      by (Some i) e = record {
        within = place_within (layout f) xs b a i e;
        row = has_row-laid (layout f) xs b a ∙ ap is_some e;
        symbol = symbol_at-laid (layout f) xs b a i e;
        changed = λ x. sym (with_symbol-laid (layout f) xs b a i x e);
      }

  pub rows_located : (b from n : ℕ) (r : Option (Range ℕ)) → r ≡ places_in (layout f) len b from n → MatchOption r (RowsAbsent f xs b from n) (RowsPresent f xs b from n)
  rows_located b from n r answer = by r (sym (answer ∙ ap (λ k. places_in (layout f) k b from n) size))
    where
      by : (r : Option (Range ℕ)) → places_in (layout f) (length xs) b from n ≡ r → MatchOption r (RowsAbsent f xs b from n) (RowsPresent f xs b from n)
      by None e =
          let h = has_rows-laid (layout f) xs b from n ∙ ap is_some e in
          record { rows = h; same = λ ys k. refused (framed f xs) b from ys (framed_sound f xs) (ap (has_rows (framed f xs) b from) k ∙ h) }
      by (Some places) e =
          let w = rows_within (layout f) xs b from n places e in
          record {
            size = w.0;
            within = w.1;
            rows = has_rows-laid (layout f) xs b from n ∙ ap is_some e;
            symbols = rows_at-laid (layout f) xs b from n places e;
            changed = λ ys k. sym (with_rows-laid (layout f) xs b from n places ys e k);
          }

  pub opened : (g : Frame) (b : ℕ) (r : Option (Range ℕ)) → r ≡ room_in (layout f) len b → layout g ≡ (if is_out_in (layout f) len b then with_mark (layout f) b true else layout f)
      → MatchOption r (Shut f g xs b) (Opened f g xs b)
  opened g b r answer after = by r (sym (answer ∙ ap (λ n. room_in (layout f) n b) size)) (after ∙ ap (λ n. if is_out_in (layout f) n b then with_mark (layout f) b true else layout f) size)
    where
      no_room : (t : Bool) (p : Range ℕ) → (if t then Some p else None) ≡ None → t ≡ false
      no_room true p h = absurd (none-some p (sym h))
      no_room false p h = refl

      by : (r : Option (Range ℕ)) → room_in (layout f) (length xs) b ≡ r → layout g ≡ (if is_out_in (layout f) (length xs) b then with_mark (layout f) b true else layout f)
          → MatchOption r (Shut f g xs b) (Opened f g xs b)
      by None e after =
          let h : is_out_in (layout f) (length xs) b ≡ false = no_room (is_out_in (layout f) (length xs) b) _ e in
          record { out = is_out-laid (layout f) xs b ∙ h; same = ap (λ y. laid y xs) (after ∙ cond-false _ _ _ h) }
      by (Some places) e after =
          let out = (room (layout f) xs b places e).out in
          let w = room_within (layout f) xs b places e in
          record {
            rising = w.0;
            within = w.1;
            out = is_out-laid (layout f) xs b ∙ out;
            changed = λ x. sym (ap (λ y. laid y (filled xs places.start places.end x)) (after ∙ cond-true _ _ _ out) ∙ with_standing-laid (layout f) xs b places x e);
          }

-- a frame that has just been made
pub begun_told : {T : Type 0} (n l : ℕ) (xs : List T) → all_out n l (length xs) ≡ laid (record { marks = replicate 32 false; boxes = n; rows = l }) xs
begun_told n l xs = sym (elim (cases_Bool (is_allowed n l (length xs))) [
  | inl h ↦
      let few : n ≤ 32 = grind (arith, nat_tests) in
      rw (h, le-leb n 32 few, cut-all_out l n 32 xs few) refl
  | inr h ↦
      let none : fits (record { marks = replicate 32 false; boxes = n; rows = l }) (length xs) ≡ false = grind (arith, nat_tests) in
      rw (none, h) refl
])

-- what is kept of a shelf k after calls is kept of m, if the two are the same
pub kept_after : {T : Type 0} (m k n : Meaning T) (calls : List (Call T)) (xs : List T) → k ≡ m → n ≡ after_all k calls → Keeps n xs → Keeps (after_all m calls) xs
kept_after m k n calls xs e f h = subst (λ j. Keeps j xs) (f ∙ ap (λ j. after_all j calls) e) h
