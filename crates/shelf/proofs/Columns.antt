-- Lemmas on a column with some of its rows overwritten. Assumes nothing.
use Rattle.std.proofs.Common.{◌≡◌, ℕ, zero, suc, ◌+◌, ◌-◌, ◌≤◌, ◌<◌, List, [], ◌∷◌, ◌++◌, length, take, drop, slice_get, slice_set, slice_range, slice_index_or, None, refl, sym, ap, ap₂, ◌∙◌, ⊎_elim, append_assoc, add-one, arith, tests}
use Rattle.std.proofs.lemmas.Bool.{cases_lt}
use Rattle.std.proofs.lemmas.Option.{slice_get_past}
use Rattle.std.proofs.lemmas.List.{length-append, length-take, length-take-le, length-drop, set_split, take_all, take_more}
use Rattle.shelf.proofs.Cuts.{slice_get-drop, slice_get-take}
use Rattle.shelf.specs.Rows.{overwritten}

module _ {T : Type 0} where
  -- columns that have the same in every row are the same
  pub rows_determine : (xs ys : List T) → ((i : ℕ) → slice_get xs i ≡ slice_get ys i) → xs ≡ ys
  rows_determine [] [] h = refl
  rows_determine [] (y ∷ ys) h = let e = h zero in absurd (grind arith)
  rows_determine (x ∷ xs) [] h = let e = h zero in absurd (grind arith)
  rows_determine (x ∷ xs) (y ∷ ys) h =
      let e = h zero in
      let first : x ≡ y = grind arith in
      ap₂ (λ z zs. z ∷ zs) first (rows_determine xs ys (λ i. h (suc i)))

  slice_get-left : (xs ys : List T) (i : ℕ) → i < length xs → slice_get (xs ++ ys) i ≡ slice_get xs i
  slice_get-left [] ys i h = absurd (omega arith)
  slice_get-left (x ∷ xs) ys zero h = refl
  slice_get-left (x ∷ xs) ys (suc i) h = slice_get-left xs ys i (omega arith)

  slice_get-right : (xs ys : List T) (i : ℕ) → length xs ≤ i → slice_get (xs ++ ys) i ≡ slice_get ys (i - length xs)
  slice_get-right [] ys i h = ap (slice_get ys) (omega arith)
  slice_get-right (x ∷ xs) ys zero h = absurd (omega arith)
  slice_get-right (x ∷ xs) ys (suc i) h = slice_get-right xs ys i (omega arith) ∙ ap (slice_get ys) (omega arith)

  -- a row of some that are read
  pub slice_get-range : (ys : List T) (from n i : ℕ) → i < n → slice_get (slice_range ys from (from + n)) i ≡ slice_get ys (from + i)
  slice_get-range ys from n i h = slice_get-take (from + n - from) (drop from ys) i (omega arith) ∙ slice_get-drop from ys i

  length-range : (ys : List T) (from n : ℕ) → length (slice_range ys from (from + n)) ≤ n
  length-range ys from n = omega (arith, length-take (from + n - from) (drop from ys))

  slice_get-range_past : (ys : List T) (from n i : ℕ) → n ≤ i → slice_get (slice_range ys from (from + n)) i ≡ None
  slice_get-range_past ys from n i h = slice_get_past (slice_range ys from (from + n)) i (omega (arith, length-range ys from n))

  ranges_determine : (xs ys : List T) (from n : ℕ) → ((i : ℕ) → i < n → slice_get xs (from + i) ≡ slice_get ys (from + i)) → slice_range xs from (from + n) ≡ slice_range ys from (from + n)
  ranges_determine xs ys from n h =
      rows_determine (slice_range xs from (from + n)) (slice_range ys from (from + n)) (λ i.
      ⊎_elim
      (λ l. slice_get-range xs from n i l ∙ h i l ∙ sym (slice_get-range ys from n i l))
      (λ l. slice_get-range_past xs from n i l ∙ sym (slice_get-range_past ys from n i l))
      (cases_lt i n))

  module _ (from : ℕ) (xs ys : List T) where
    overwritten_there : from + length xs ≤ length ys → overwritten from xs ys ≡ take from ys ++ xs ++ drop (from + length xs) ys
    overwritten_there h = grind (arith, tests)

    pub overwritten_refused : length ys < from + length xs → overwritten from xs ys ≡ ys
    overwritten_refused h = grind (arith, tests)

    pub length-overwritten : length (overwritten from xs ys) ≡ length ys
    length-overwritten =
        ⊎_elim
        (λ h. ap length (overwritten_refused h))
        (λ h. ap length (overwritten_there h) ∙ (grind (arith, length-append {A = T}, length-take {A = T}, length-drop {A = T})))
        (cases_lt (length ys) (from + length xs))

    -- a row before those that are overwritten, one of them, or one after them
    pub slice_get-before : (a : ℕ) → a < from → slice_get (overwritten from xs ys) a ≡ slice_get ys a
    slice_get-before a l =
        ⊎_elim
        (λ h. ap (λ zs. slice_get zs a) (overwritten_refused h))
        (λ h.
        let n = length-take-le from ys (omega arith) in
        let k = length-append (take from ys) xs in
        ap (λ zs. slice_get zs a) (overwritten_there h)
        ∙ slice_get-left (take from ys ++ xs) (drop (from + length xs) ys) a (omega arith)
        ∙ slice_get-left (take from ys) xs a (omega arith)
        ∙ slice_get-take from ys a l)
        (cases_lt (length ys) (from + length xs))

    pub slice_get-within : (a : ℕ) → from + length xs ≤ length ys → from ≤ a → a < from + length xs → slice_get (overwritten from xs ys) a ≡ slice_get xs (a - from)
    slice_get-within a h l r =
        let n = length-take-le from ys (omega arith) in
        let k = length-append (take from ys) xs in
        ap (λ zs. slice_get zs a) (overwritten_there h)
        ∙ slice_get-left (take from ys ++ xs) (drop (from + length xs) ys) a (omega arith)
        ∙ slice_get-right (take from ys) xs a (omega arith)
        ∙ ap (λ i. slice_get xs (a - i)) n

    pub slice_get-after : (a : ℕ) → from + length xs ≤ a → slice_get (overwritten from xs ys) a ≡ slice_get ys a
    slice_get-after a l =
        ⊎_elim
        (λ h. ap (λ zs. slice_get zs a) (overwritten_refused h))
        (λ h.
        let n = length-take-le from ys (omega arith) in
        let k = length-append (take from ys) xs in
        ap (λ zs. slice_get zs a) (overwritten_there h)
        ∙ slice_get-right (take from ys ++ xs) (drop (from + length xs) ys) a (omega arith)
        ∙ slice_get-drop (from + length xs) ys _
        ∙ ap (slice_get ys) (omega arith))
        (cases_lt (length ys) (from + length xs))

  -- only the column's length, and what lay in the row before, count
  slice_get-like : (from : ℕ) (xs ys zs : List T) (a : ℕ) → length ys ≡ length zs → slice_get ys a ≡ slice_get zs a → slice_get (overwritten from xs ys) a ≡ slice_get (overwritten from xs zs) a
  slice_get-like from xs ys zs a n e =
      ⊎_elim
      (λ l. slice_get-before from xs ys a l ∙ e ∙ sym (slice_get-before from xs zs a l))
      (λ l.
      ⊎_elim
      (λ r.
      ⊎_elim
      (λ h. ap (λ z. slice_get z a) (overwritten_refused from xs ys h) ∙ e ∙ sym (ap (λ z. slice_get z a) (overwritten_refused from xs zs (omega arith))))
      (λ h. slice_get-within from xs ys a h l r ∙ sym (slice_get-within from xs zs a (omega arith) l r))
      (cases_lt (length ys) (from + length xs)))
      (λ r. slice_get-after from xs ys a r ∙ e ∙ sym (slice_get-after from xs zs a r))
      (cases_lt a (from + length xs)))
      (cases_lt a from)

  -- what was written is read back
  pub overwritten_read : (from : ℕ) (xs ys : List T) → from + length xs ≤ length ys → slice_range (overwritten from xs ys) from (from + length xs) ≡ xs
  overwritten_read from xs ys h =
      rows_determine (slice_range (overwritten from xs ys) from (from + length xs)) xs (λ i.
      ⊎_elim
      (λ l.
      let e : from + i - from ≡ i = omega arith in
      slice_get-range (overwritten from xs ys) from (length xs) i l
      ∙ slice_get-within from xs ys (from + i) h (omega arith) (omega arith)
      ∙ ap (slice_get xs) e)
      (λ l. slice_get-range_past (overwritten from xs ys) from (length xs) i l ∙ sym (slice_get_past xs i l))
      (cases_lt i (length xs)))

  -- rows before or after those that are overwritten stay
  pub range_before : (from : ℕ) (xs ys : List T) (other n : ℕ) → other + n ≤ from → slice_range (overwritten from xs ys) other (other + n) ≡ slice_range ys other (other + n)
  range_before from xs ys other n h =
      ranges_determine (overwritten from xs ys) ys other n (λ i l. slice_get-before from xs ys (other + i) (omega arith))

  pub range_after : (from : ℕ) (xs ys : List T) (other n : ℕ) → from + length xs ≤ other → slice_range (overwritten from xs ys) other (other + n) ≡ slice_range ys other (other + n)
  range_after from xs ys other n h =
      ranges_determine (overwritten from xs ys) ys other n (λ i l. slice_get-after from xs ys (other + i) (omega arith))

  -- of two writes of the same rows the later one counts
  pub overwritten-again : (from : ℕ) (xs zs ys : List T) → length xs ≡ length zs → overwritten from zs (overwritten from xs ys) ≡ overwritten from zs ys
  overwritten-again from xs zs ys n =
      rows_determine (overwritten from zs (overwritten from xs ys)) (overwritten from zs ys) (λ a.
      ⊎_elim
      (λ l. slice_get-like from zs (overwritten from xs ys) ys a (length-overwritten from xs ys) (slice_get-before from xs ys a l))
      (λ l.
      ⊎_elim
      (λ r.
      ⊎_elim
      (λ h. ap (λ z. slice_get (overwritten from zs z) a) (overwritten_refused from xs ys h))
      (λ h. slice_get-within from zs (overwritten from xs ys) a (omega (arith, length-overwritten from xs ys)) l (omega arith) ∙ sym (slice_get-within from zs ys a (omega arith) l (omega arith)))
      (cases_lt (length ys) (from + length xs)))
      (λ r. slice_get-like from zs (overwritten from xs ys) ys a (length-overwritten from xs ys) (slice_get-after from xs ys a r))
      (cases_lt a (from + length xs)))
      (cases_lt a from))

  pub overwritten_none : (from : ℕ) (ys : List T) → overwritten from [] ys ≡ ys
  overwritten_none from ys =
      rows_determine (overwritten from [] ys) ys (λ a.
      ⊎_elim
      (slice_get-before from [] ys a)
      (λ l. slice_get-after from [] ys a (omega arith))
      (cases_lt a from))

  -- writing what is there changes nothing
  pub overwritten-same : (from n : ℕ) (ys : List T) → overwritten from (slice_range ys from (from + n)) ys ≡ ys
  overwritten-same from n ys =
      let xs = slice_range ys from (from + n) in
      rows_determine (overwritten from xs ys) ys (λ a.
      ⊎_elim
      (λ l. slice_get-before from xs ys a l)
      (λ l.
      ⊎_elim
      (λ r.
      ⊎_elim
      (λ h. ap (λ z. slice_get z a) (overwritten_refused from xs ys h))
      (λ h.
      let e : from + (a - from) ≡ a = omega arith in
      slice_get-within from xs ys a h l r
      ∙ slice_get-range ys from n (a - from) (omega (arith, length-range ys from n))
      ∙ ap (slice_get ys) e)
      (cases_lt (length ys) (from + length xs)))
      (λ r. slice_get-after from xs ys a r)
      (cases_lt a (from + length xs)))
      (cases_lt a from))

  -- adjoining rows
  pub overwritten-adjoining : (from : ℕ) (xs zs ys : List T) → from + length xs + length zs ≤ length ys → overwritten (from + length xs) zs (overwritten from xs ys) ≡ overwritten from (xs ++ zs) ys
  overwritten-adjoining from xs zs ys h =
      let n = length-append xs zs in
      let k = length-overwritten from xs ys in
      rows_determine (overwritten (from + length xs) zs (overwritten from xs ys)) (overwritten from (xs ++ zs) ys) (λ a.
      ⊎_elim
      (λ l.
      slice_get-before (from + length xs) zs (overwritten from xs ys) a l
      ∙ ⊎_elim
      (λ r. slice_get-before from xs ys a r ∙ sym (slice_get-before from (xs ++ zs) ys a r))
      (λ r.
      slice_get-within from xs ys a (omega arith) r l
      ∙ sym (slice_get-left xs zs (a - from) (omega arith))
      ∙ sym (slice_get-within from (xs ++ zs) ys a (omega arith) r (omega arith)))
      (cases_lt a from))
      (λ l.
      ⊎_elim
      (λ r.
      let e : a - (from + length xs) ≡ a - from - length xs = omega arith in
      slice_get-within (from + length xs) zs (overwritten from xs ys) a (omega arith) l r
      ∙ ap (slice_get zs) e
      ∙ sym (slice_get-right xs zs (a - from) (omega arith))
      ∙ sym (slice_get-within from (xs ++ zs) ys a (omega arith) (omega arith) (omega arith)))
      (λ r.
      slice_get-after (from + length xs) zs (overwritten from xs ys) a r
      ∙ slice_get-after from xs ys a l
      ∙ sym (slice_get-after from (xs ++ zs) ys a (omega arith)))
      (cases_lt a (from + length xs + length zs)))
      (cases_lt a (from + length xs)))

  -- rows apart from one another
  pub overwritten-apart : (from other : ℕ) (xs zs ys : List T) → from + length xs ≤ other → overwritten other zs (overwritten from xs ys) ≡ overwritten from xs (overwritten other zs ys)
  overwritten-apart from other xs zs ys h =
      rows_determine (overwritten other zs (overwritten from xs ys)) (overwritten from xs (overwritten other zs ys)) (λ a.
      ⊎_elim
      (λ l.
      slice_get-before other zs (overwritten from xs ys) a l
      ∙ slice_get-like from xs ys (overwritten other zs ys) a (sym (length-overwritten other zs ys)) (sym (slice_get-before other zs ys a l)))
      (λ l.
      slice_get-like other zs (overwritten from xs ys) ys a (length-overwritten from xs ys) (slice_get-after from xs ys a (omega arith))
      ∙ sym (slice_get-after from xs (overwritten other zs ys) a (omega arith)))
      (cases_lt a other))

  -- one symbol is a list of one
  slice_set_one : (ys : List T) (a : ℕ) (x : T) → a < length ys → slice_set ys a x ≡ overwritten a (x ∷ []) ys
  slice_set_one ys a x h =
      set_split ys a x h
      ∙ sym (append_assoc (take a ys) (x ∷ []) (drop (suc a) ys))
      ∙ ap (λ k. take a ys ++ x ∷ [] ++ drop k ys) (sym (add-one a))
      ∙ sym (overwritten_there a (x ∷ []) ys (omega arith))

  -- one symbol more
  pub overwritten-more : (from : ℕ) (xs ys : List T) (i : ℕ) (x : T) → i < length xs → x ≡ slice_index_or xs i x → from + length xs ≤ length ys → slice_set (overwritten from (take i xs) ys) (from + i) x ≡ overwritten from (take (i + 1) xs) ys
  overwritten-more from xs ys i x l e h =
      let n : length (take i xs) ≡ i = length-take-le i xs (omega arith) in
      slice_set_one (overwritten from (take i xs) ys) (from + i) x (omega (arith, length-overwritten from (take i xs) ys))
      ∙ ap (λ k. overwritten (from + k) (x ∷ []) (overwritten from (take i xs) ys)) (sym n)
      ∙ overwritten-adjoining from (take i xs) (x ∷ []) ys (omega arith)
      ∙ ap (λ zs. overwritten from zs ys) (ap (λ y. take i xs ++ y ∷ []) e ∙ sym (take_more xs i x l))

  pub overwritten_all : (xs ys : List T) → length xs ≡ length ys → overwritten zero xs ys ≡ xs
  overwritten_all xs ys l =
      sym (take_all (zero + length xs - zero) (overwritten zero xs ys) (omega (arith, length-overwritten zero xs ys)))
      ∙ overwritten_read zero xs ys (omega arith)
