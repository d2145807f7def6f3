-- The laws of shelves. Assumes nothing.
use Rattle.std.proofs.Common.{◌≡◌, ◌≢◌, ℕ, zero, suc, ◌≤◌, ◌<◌, Bool, true, false, List, [], ◌∷◌, length, replicate, slice_get, slice_set, Option, Some, None, is_some, refl, sym, ap, ap₂, ◌∙◌, inl, inr, true≢false, arith, tests}
use Rattle.std.proofs.lemmas.Bool.{cases_eq}
use Rattle.std.proofs.lemmas.Option.{same_Some}
use Rattle.shelf.specs.Meaning.{IsShelf, Meaning, box_count, column, change, has_row, is_out, is_standing, symbol_at, symbol_of, unless_standing, nothing, with_out, with_row, with_standing, with_symbol}
use Rattle.shelf.specs.Laws.{AnswerAlike, Inserted, OthersStay, SameSizes, ShelfLaws, Stored, Withdrawn}
use Rattle.shelf.proofs.Places.{boxes_determine, in_box-with_other, in_box-with_same, length-with_box}
use Rattle.shelf.proofs.Meanings.{change-same, column_length, standing_column, standing_inside, out_column, symbol_at_refused, symbol_at_there, with_out_refused, with_standing_refused, with_symbol_refused}

module _ {T : Type 0} (m : Meaning T) where
  change_sizes : (b : ℕ) (f : Option (List T) → Option (List T)) → SameSizes m (change m b f)
  change_sizes b f = record { boxes = length-with_box m.boxes b f; rows = refl }

  change_others : (b : ℕ) (f : Option (List T) → Option (List T)) → OthersStay m (change m b f) b
  change_others b f d n = in_box-with_other m.boxes b d f (λ e. n (sym e))

  -- the box that a change is of
  change_here : (b : ℕ) (f : Option (List T) → Option (List T)) → 1 ≤ b → b ≤ box_count m → column (change m b f) b ≡ f (column m b)
  change_here b f = in_box-with_same m.boxes b f

  standing_here : (b : ℕ) (f : Option (List T) → Option (List T)) → is_standing m b ≡ true → column (change m b f) b ≡ f (column m b)
  standing_here b f e = let h = standing_inside m b e in change_here b f h.0 h.1

  fetched : IsShelf m → (b a : ℕ) → is_some (symbol_at m b a) ≡ has_row m b a
  fetched s b a = by (has_row m b a) refl
    where
      by : (t : Bool) → has_row m b a ≡ t → is_some (symbol_at m b a) ≡ t
      by true e = ap is_some ((symbol_at_there m s b a e).1)
      by false e = ap is_some (symbol_at_refused m s b a e)

  withdrawn : (b : ℕ) → Withdrawn m (with_out m b) b
  withdrawn b = record {
    sizes = change_sizes b nothing;
    here = by (is_standing m b) refl;
    others = change_others b nothing;
    refused = with_out_refused m b;
  }
    where
      by : (t : Bool) → is_standing m b ≡ t → is_standing (with_out m b) b ≡ false
      by true e = ap is_some (standing_here b nothing e)
      by false e = ap (λ k. is_standing k b) (with_out_refused m b e) ∙ e

  -- a change that keeps what is out applies to every box
  column_after : (b : ℕ) (f : Option (List T) → Option (List T)) → f None ≡ None → column (change m b f) b ≡ f (column m b)
  column_after b f k = by (is_standing m b) refl
    where
      by : (t : Bool) → is_standing m b ≡ t → column (change m b f) b ≡ f (column m b)
      by true e = standing_here b f e
      by false e =
          let o = out_column m b e in
          let stays : f (column m b) ≡ column m b = ap f o ∙ k ∙ sym o in
          ap (λ n. column n b) (change-same m b f stays) ∙ sym stays

  stored : IsShelf m → (b a : ℕ) (x : T) → Stored m (with_symbol m b a x) b a x
  stored s b a x = record {
    sizes = change_sizes b (with_row a x);
    here = λ e. let t : is_standing m b ≡ true = grind (arith, tests) in
        let c = standing_column m b t in
        let l = column_length m b c.0 s c.1 in
        ap (λ o. symbol_of o a) (after b refl ∙ ap (with_row a x) c.1) ∙ set_here c.0 a (grind (arith, tests));
    boxes = λ d. elim (cases_eq d b) [
      | inl e ↦ ap is_some (after d e) ∙ still (column m d)
      | inr n ↦ ap is_some (change_others b (with_row a x) d n)
    ];
    elsewhere = λ d c h. elim (cases_eq d b) [
      | inl e ↦ ap (λ o. symbol_of o c) (after d e) ∙ elsewhere (column m d) c (elim h [ inl n ↦ absurd (n e) | inr n ↦ n ])
      | inr n ↦ ap (λ o. symbol_of o c) (change_others b (with_row a x) d n)
    ];
    refused = with_symbol_refused m s b a x;
  }
    where
      after : (d : ℕ) → d ≡ b → column (with_symbol m b a x) d ≡ with_row a x (column m d)
      after d e = ap (λ k. column (with_symbol m k a x) d) (sym e) ∙ column_after d (with_row a x) refl

      set_here : (xs : List T) (i : ℕ) → i < length xs → slice_get (slice_set xs i x) i ≡ Some x
      set_here [] i h = absurd (omega arith)
      set_here (y ∷ ys) zero h = refl
      set_here (y ∷ ys) (suc i) h = set_here ys i (omega arith)

      set_elsewhere : (xs : List T) (i c : ℕ) → c ≢ i → slice_get (slice_set xs i x) c ≡ slice_get xs c
      set_elsewhere [] i c n = refl
      set_elsewhere (y ∷ ys) zero zero n = absurd (n refl)
      set_elsewhere (y ∷ ys) zero (suc c) n = refl
      set_elsewhere (y ∷ ys) (suc i) zero n = refl
      set_elsewhere (y ∷ ys) (suc i) (suc c) n = set_elsewhere ys i c (λ e. n (ap suc e))

      still : (o : Option (List T)) → is_some (with_row a x o) ≡ is_some o
      still None = refl
      still (Some xs) = refl

      elsewhere : (o : Option (List T)) (c : ℕ) → c ≢ a → symbol_of (with_row a x o) c ≡ symbol_of o c
      elsewhere None c n = refl
      elsewhere (Some xs) c n = set_elsewhere xs a c n

  inserted : (b : ℕ) (x : T) → Inserted m (with_standing m b x) b x
  inserted b x = record {
    sizes = change_sizes b (unless_standing (replicate m.rows x));
    here = λ e. ap is_some (after e);
    filled = λ e a h. ap (λ o. symbol_of o a) (after e) ∙ filled m.rows a h;
    others = change_others b (unless_standing (replicate m.rows x));
    refused = with_standing_refused m b x;
  }
    where
      after : is_out m b ≡ true → column (with_standing m b x) b ≡ Some (replicate m.rows x)
      after e =
          change_here b (unless_standing (replicate m.rows x)) (grind (arith, tests)) (grind (arith, tests))
          ∙ ap (unless_standing (replicate m.rows x)) (out_column m b (grind (arith, tests)))

      filled : (n a : ℕ) → a < n → slice_get (replicate n x) a ≡ Some x
      filled zero a h = absurd (omega arith)
      filled (suc n) zero h = refl
      filled (suc n) (suc a) h = filled n a (omega arith)

determined : {T : Type 0} (m k : Meaning T) → IsShelf m → IsShelf k → AnswerAlike m k → k ≡ m
determined {T} m k s t h =
    ap₂ (λ l cs. record { rows = l; boxes = cs }) h.sizes.rows (boxes_determine k.boxes m.boxes h.sizes.boxes same)
  where
    -- two columns with the same symbols are the same
    alike : (xs ys : List T) → length xs ≡ length ys → ((a : ℕ) → slice_get xs a ≡ slice_get ys a) → xs ≡ ys
    alike [] [] l e = refl
    alike [] (y ∷ ys) l e = absurd (omega arith)
    alike (x ∷ xs) [] l e = absurd (omega arith)
    alike (x ∷ xs) (y ∷ ys) l e = ap₂ (λ z zs. z ∷ zs) (same_Some x y (e zero)) (alike xs ys (omega arith) (λ a. e (suc a)))

    columns : (b : ℕ) (o p : Option (List T)) → column k b ≡ o → column m b ≡ p → is_some o ≡ is_some p → ((a : ℕ) → symbol_of o a ≡ symbol_of p a) → o ≡ p
    columns b None None eo ep i e = refl
    columns b None (Some ys) eo ep i e = absurd (true≢false (sym i))
    columns b (Some xs) None eo ep i e = absurd (true≢false i)
    columns b (Some xs) (Some ys) eo ep i e =
        ap Some (alike xs ys (column_length k b xs t eo ∙ h.sizes.rows ∙ sym (column_length m b ys s ep)) e)

    same : (b : ℕ) → column k b ≡ column m b
    same b = columns b (column k b) (column m b) refl refl (h.stands b) (h.fetch b)

pub lawful : {T : Type 0} → ShelfLaws T
lawful = record {
  numbered = standing_inside;
  fetched = fetched;
  stored = stored;
  withdrawn = withdrawn;
  inserted = inserted;
  determined = determined;
}
