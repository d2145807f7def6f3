-- What a slice's symbols stand for, as loops read and write them. Assumes nothing.
use Rattle.std.proofs.Common.{◌≡◌, ℕ, ◌+◌, ◌-◌, ◌*◌, ◌^◌, ◌<◌, ◌≤◌, ◌≢◌, List, ◌++◌, map, length, slice_index_or, take, drop, slice_set, sym, ap, ◌∙◌, subst, inl, inr, arith, length-set, get_or-set_other, get_or-set_same}
use Rattle.std.proofs.lemmas.List.{take-map, drop-map, map-set, length-map, get_or-map, get_or-take, get_or-drop, get_or_append_left, get_or-append-add, map-append, length-append}
use Rattle.std.proofs.lemmas.Bool.{cases_eq}
use Rattle.field.specs.Symbols.{Symbols}
use Rattle.code.specs.Blocks.{◌∸◌}
use Rattle.code.specs.Contents.{at, parts}
use Rattle.code.specs.Rows.{lower, pair_of}
use Rattle.columns.specs.Sides.{less}
use Rattle.code.proofs.Pairing.{row_cases, pair_lower, pair_upper, pair_below}

module _ (Y : Symbols) {S : Type 0} (value : S → Y.Symbol) where
  -- an element that is read, by its place or by its index
  pub element : (xs : List S) (i : ℕ) (d : S) → i < length xs → value (slice_index_or xs i d) ≡ at Y value xs i
  element xs i d h = sym (get_or-map value xs i d Y.ring.zero h)

  pub read : (xs : List S) (i : ℕ) (r : S) → i < length xs → r ≡ slice_index_or xs i r → value r ≡ at Y value xs i
  read xs i r h e = ap value e ∙ element xs i r h

  -- an element that is written, and the others
  pub written : (xs : List S) (i : ℕ) (r : S) → i < length xs → at Y value (slice_set xs i r) i ≡ value r
  written xs i r h =
      let l : i < length (map value xs) = simp length-map h in
      ap (λ ys. slice_index_or ys i Y.ring.zero) (map-set value xs i r) ∙ get_or-set_same (map value xs) i (value r) Y.ring.zero l

  pub written_else : (xs : List S) (i k : ℕ) (r : S) → k ≢ i → at Y value (slice_set xs i r) k ≡ at Y value xs k
  written_else xs i k r n =
      ap (λ ys. slice_index_or ys k Y.ring.zero) (map-set value xs i r) ∙ get_or-set_other (map value xs) i k (value r) Y.ring.zero n

  -- a part that is lent on: part b of n symbols
  pub part : (xs : List S) (n b s k : ℕ) → s ≡ b * n → k ≡ n → (a : ℕ) → a < n → at Y value (take k (drop s xs)) a ≡ parts Y value n xs b a
  part xs n b s k start size a l =
      let h : a < k = omega arith in
      ap (λ ys. slice_index_or ys a Y.ring.zero) (sym (take-map value k (drop s xs)) ∙ ap (take k) (sym (drop-map value s xs)))
      ∙ get_or-take k (drop s (map value xs)) a Y.ring.zero h
      ∙ get_or-drop s (map value xs) a Y.ring.zero
      ∙ ap (λ i. slice_index_or (map value xs) (i + a) Y.ring.zero) start

  -- what is left of a slice after k parts of n symbols
  pub record Left (n k : ℕ) (xs rest : List S) : Type 0 where
    pub here : (a : ℕ) → at Y value rest a ≡ at Y value xs (k * n + a)
    pub long : k * n + length rest ≡ length xs

  module _ (n k : ℕ) (xs rest x after : List S) (cut : rest ≡ x ++ after) (size : length x ≡ n) (l : Left n k xs rest) where
    -- the next part
    pub left_part : (a : ℕ) → a < n → at Y value x a ≡ parts Y value n xs k a
    left_part a h =
        let long : a < length (map value x) = simp length-map (omega arith) in
        sym (get_or_append_left (map value x) (map value after) Y.ring.zero a long)
        ∙ ap (λ ys. slice_index_or ys a Y.ring.zero) (sym (map-append value x after) ∙ ap (map value) (sym cut)) ∙ l.here a

    pub left_more : Left n (k + 1) xs after
    left_more =
        let whole : length (map value x) ≡ n = simp length-map size in
        let sides : length rest ≡ length x + length after = ap length cut ∙ length-append x after in
        record {
          here = λ a.
              sym (get_or-append-add (map value x) (map value after) a Y.ring.zero)
              ∙ (λ i. slice_index_or (sym (map-append value x after) i) (whole i + a) Y.ring.zero)
              ∙ ap (λ ys. at Y value ys (n + a)) (sym cut) ∙ l.here (n + a) ∙ ap (at Y value xs) (omega arith);
          long = omega (arith, sides, l.long);
        }

  -- the rows whose place is below n hold f, the others what they held
  pub record Written (place : ℕ → ℕ) (f : ℕ → Y.Symbol) (before : List S) (n : ℕ) (xs : List S) : Type 0 where
    pub done : (a : ℕ) → place a < n → a < length before → at Y value xs a ≡ f a
    pub left : (a : ℕ) → n ≤ place a → at Y value xs a ≡ at Y value before a

  -- row by row, and pair by pair along the digit k
  abbrev pub Rowwise : (ℕ → Y.Symbol) → List S → ℕ → List S → Type 0
  Rowwise = Written (λ a. a)

  abbrev pub Pairwise : ℕ → (ℕ → Y.Symbol) → List S → ℕ → List S → Type 0
  Pairwise k = Written (pair_of k)

  pub rowwise_more : (f : ℕ → Y.Symbol) (before : List S) (k : ℕ) (xs : List S) (r : S) → k < length xs → value r ≡ f k → Rowwise f before k xs → Rowwise f before (k + 1) (slice_set xs k r)
  rowwise_more f before k xs r h e w = record {
    done = λ a l b. elim (cases_eq a k) [
      | inl z ↦ subst (λ n. at Y value (slice_set xs k r) n ≡ f n) (sym z) (written xs k r h ∙ e)
      | inr z ↦ written_else xs k a r z ∙ w.done a (omega arith) b
    ];
    left = λ a l. written_else xs k a r (λ z. omega arith) ∙ w.left a (omega arith);
  }

  -- once all pairs are written
  pub pairwise_all : (m k digits n : ℕ) (f : ℕ → Y.Symbol) (before xs : List S) → digits ≡ m → 2 ^ (digits - 1) ≤ n → k < m → 2 ^ m ≤ length before
      → Pairwise k f before n xs → (a : ℕ) → a < 2 ^ m → at Y value xs a ≡ f a
  pairwise_all m k digits n f before xs size all h long w a l =
      let below : pair_of k a < 2 ^ (digits - 1) = rw size (pair_below m k a h l) in
      w.done a (omega arith) (omega arith)

  -- the two rows of pair j are written
  module _ (k j low high : ℕ) (el : low ≡ lower k j) (eh : high ≡ lower k j + 2 ^ k) (rising : low < high) (xs : List S) (s t : S) (h : high < length xs) where
    abbrev both : List S
    both = slice_set (slice_set xs low s) high t

    at_low : at Y value both low ≡ value s
    at_low = written_else (slice_set xs low s) high low t (λ e. omega arith) ∙ written xs low s (omega arith)

    at_high : at Y value both high ≡ value t
    at_high = let l : high < length (slice_set xs low s) = simp length-set h in written (slice_set xs low s) high t l

    at_else : (a : ℕ) → (pair_of k a ≡ j → ⊥) → at Y value both a ≡ at Y value xs a
    at_else a n =
        written_else (slice_set xs low s) high a t (λ e. n (ap (pair_of k) (e ∙ eh) ∙ pair_upper k j))
        ∙ written_else xs low a s (λ e. n (ap (pair_of k) (e ∙ el) ∙ pair_lower k j))

    pub pairwise_more : (n : ℕ) → n ≡ j + 1 → (f : ℕ → Y.Symbol) (before : List S) → value s ≡ f low → value t ≡ f high → Pairwise k f before j xs → Pairwise k f before n both
    pairwise_more n next f before es et w = record {
      done = λ a l b. elim (cases_eq (pair_of k a) j) [
        | inl z ↦ elim (row_cases k j a z) [
          | inl u ↦ subst (λ n. at Y value both n ≡ f n) (el ∙ sym u) (at_low ∙ es)
          | inr u ↦ subst (λ n. at Y value both n ≡ f n) (eh ∙ sym u) (at_high ∙ et)
        ]
        | inr z ↦ at_else a z ∙ w.done a (omega arith) b
      ];
      left = λ a l. at_else a (λ z. omega arith) ∙ w.left a (omega arith);
    }

  -- something is taken off both
  module _ (k j low high : ℕ) (el : low ≡ lower k j) (eh : high ≡ lower k j + 2 ^ k) (E : ℕ → Y.Symbol) (before xs ys : List S)
      (es : at Y value ys low ≡ ◌∸◌ Y.ring (at Y value xs low) (E low)) (et : at Y value ys high ≡ ◌∸◌ Y.ring (at Y value xs high) (E high))
      (rest : (a : ℕ) → a ≢ low → a ≢ high → at Y value ys a ≡ at Y value xs a) where
    rest_else : (a : ℕ) → (pair_of k a ≡ j → ⊥) → at Y value ys a ≡ at Y value xs a
    rest_else a n = rest a (λ e. n (ap (pair_of k) (e ∙ el) ∙ pair_lower k j)) (λ e. n (ap (pair_of k) (e ∙ eh) ∙ pair_upper k j))

    abbrev Less : ℕ → List S → Type 0
    Less = Pairwise k (less Y (at Y value before) E) before

    pub pairwise_less : (n : ℕ) → n ≡ j + 1 → Less j xs → Less n ys
    pairwise_less n next w =
        let low_left : at Y value ys low ≡ less Y (at Y value before) E low =
        es ∙ ap (λ z. ◌∸◌ Y.ring z (E low)) (w.left low (omega (arith, ap (pair_of k) el ∙ pair_lower k j))) in
        let high_left : at Y value ys high ≡ less Y (at Y value before) E high =
        et ∙ ap (λ z. ◌∸◌ Y.ring z (E high)) (w.left high (omega (arith, ap (pair_of k) eh ∙ pair_upper k j))) in
        record {
          done = λ a l b. elim (cases_eq (pair_of k a) j) [
            | inl z ↦ elim (row_cases k j a z) [
              | inl u ↦ subst (λ n. at Y value ys n ≡ less Y (at Y value before) E n) (el ∙ sym u) low_left
              | inr u ↦ subst (λ n. at Y value ys n ≡ less Y (at Y value before) E n) (eh ∙ sym u) high_left
            ]
            | inr z ↦ rest_else a z ∙ w.done a (omega arith) b
          ];
          left = λ a l. rest_else a (λ z. omega arith) ∙ w.left a (omega arith);
        }
