-- One column of a file lent out, and what the file holds afterwards. Assumes nothing.
use Rattle.std.proofs.Common.{◌≡◌, ℕ, ◌+◌, ◌-◌, ◌*◌, ◌^◌, ◌<◌, ◌≤◌, List, ◌++◌, map, length, slice_index_or, take, drop, sym, refl, ap, ap₂, ◌∙◌, subst, inl, inr, arith, mul-le-mul_right}
use Rattle.std.proofs.lemmas.Bool.{cases_order}
use Rattle.std.proofs.lemmas.List.{take-map, drop-map, length-map, length-take, length-drop, get_or-take, get_or-drop}
use Rattle.std.proofs.lemmas.Nat.{mul-add-lt}
use borrow.Rule.Slice.PartMut.{put_mid}
use Rattle.field.specs.Symbols.{Symbols}
use Rattle.code.specs.Codes.{full}
use Rattle.code.specs.Contents.{added, at, parts}
use Rattle.columns.specs.Parities.{share}
use Rattle.columns.specs.declared.parity.Parity.{Parity}
use Rattle.columns.proofs.Mids.{map_mid, mid_after, mid_before, mid_inside}
use Rattle.columns.proofs.Shares.{share_same}
use Rattle.columns.proofs.Slices.{part}
use Rattle.decoding.specs.Steps.{Kept, Replaced}

module _ (Y : Symbols) {S : Type 0} (v : S → Y.Symbol) where
  -- the column in place x of a file of columns of n symbols is overwritten
  replaced : (n x s k : ℕ) (xs ys : List S) (C : ℕ → Y.Symbol) → s ≡ x * n → k ≡ n → x * n + n ≤ length xs → length ys ≡ n
      → ((a : ℕ) → a < n → at Y v ys a ≡ C a) → Replaced n x (parts Y v n xs) C (parts Y v n (put_mid s k xs ys))
  replaced n x s k xs ys C es ek fits size holds = record {
    here = λ a l.
        ap (λ i. at Y v (put_mid s k xs ys) (i + a)) (sym es) ∙ ap (λ zs. slice_index_or zs (s + a) Y.ring.zero) (map_mid v s k xs ys)
        ∙ mid_inside s k (map v xs) (map v ys) a Y.ring.zero (simp length-map (omega arith)) (simp length-map (omega arith)) ∙ holds a l;
    others = λ b n' a l.
        ap (λ zs. slice_index_or zs (b * n + a) Y.ring.zero) (map_mid v s k xs ys)
        ∙ elim (cases_order b x) [
          | inl e ↦ absurd (n' e)
          | inr (inl h) ↦ mid_before s k (map v xs) (map v ys) (b * n + a) Y.ring.zero (simp length-map (omega arith)) (omega (arith, mul-add-lt b n a x h l))
          | inr (inr h) ↦ mid_after s k (map v xs) (map v ys) (b * n + a) Y.ring.zero (simp length-map (omega arith)) (simp length-map (omega arith)) (omega (arith, mul-le-mul_right n h))
        ];
  }

  -- the column in place x of N, lent as a part
  module _ (n N x rows : ℕ) (er : rows ≡ n) (xs : List S) (whole : length xs ≡ N * n) (hx : x < N) where
    abbrev start : ℕ
    start = x * rows

    abbrev size : ℕ
    size = (x + 1) * rows - x * rows

    is_start : start ≡ x * n
    is_start = ap (λ r. x * r) er

    is_size : size ≡ n
    is_size = omega (arith, er)

    fits : x * n + n ≤ length xs
    fits = omega (arith, whole, mul-le-mul_right n hx)

    abbrev lent : List S
    lent = take size (drop start xs)

    pub lent_long : length lent ≡ n
    lent_long = simp (length-take, length-drop) (omega (arith, is_size, is_start, fits))

    pub lent_at : (a : ℕ) → a < n → at Y v lent a ≡ parts Y v n xs x a
    lent_at = part Y v xs n x start size is_start is_size

    -- what is written there stands in the file, and the other columns are kept
    module _ (ys : List S) (e : length ys ≡ length lent) where
      done : Replaced n x (parts Y v n xs) (at Y v ys) (parts Y v n (put_mid start size xs ys))
      done = replaced n x start size xs ys (at Y v ys) is_start is_size fits (e ∙ lent_long) (λ a l. refl)

      pub lent_here : (a : ℕ) → a < n → parts Y v n (put_mid start size xs ys) x a ≡ at Y v ys a
      lent_here = done.here

      pub lent_kept : Kept n x (parts Y v n xs) (parts Y v n (put_mid start size xs ys))
      lent_kept = done.others

    pub lent_replaced : (ys : List S) (C : ℕ → Y.Symbol) → length ys ≡ length lent → ((a : ℕ) → a < n → at Y v ys a ≡ C a) → Replaced n x (parts Y v n xs) C (parts Y v n (put_mid start size xs ys))
    lent_replaced ys C e = replaced n x start size xs ys C is_start is_size fits (e ∙ lent_long)

  at_take : (k : ℕ) (xs : List S) (i : ℕ) → i < k → at Y v (take k xs) i ≡ at Y v xs i
  at_take k xs i h = ap (λ ys. slice_index_or ys i Y.ring.zero) (sym (take-map v k xs)) ∙ get_or-take k (map v xs) i Y.ring.zero h

  at_drop : (k : ℕ) (xs : List S) (i : ℕ) → at Y v (drop k xs) i ≡ at Y v xs (k + i)
  at_drop k xs i = ap (λ ys. slice_index_or ys i Y.ring.zero) (sym (drop-map v k xs)) ∙ get_or-drop k (map v xs) i Y.ring.zero

  -- the column in place x of 3m, split off from those before and those after it
  module _ (m x rows : ℕ) (er : rows ≡ 2 ^ m) (xs : List S) (whole : length xs ≡ 3 * m * 2 ^ m) (hx : x < 3 * m) (before rest column after : List S)
      (eb : before ≡ take (x * rows) xs) (et : rest ≡ drop (x * rows) xs) (ec : column ≡ take rows rest) (ea : after ≡ drop rows rest) where
    abbrev n : ℕ
    n = 2 ^ m

    split_column : (a : ℕ) → a < n → at Y v column a ≡ parts Y v n xs x a
    split_column a l =
        ap (λ ys. at Y v ys a) (ec ∙ ap (take rows) et) ∙ at_take rows (drop (x * rows) xs) a (omega (arith, er)) ∙ at_drop (x * rows) xs a
        ∙ ap (λ r. at Y v xs (x * r + a)) er

    pub split_before : (b : ℕ) → b < x → (a : ℕ) → a < n → parts Y v rows before b a ≡ parts Y v n xs b a
    split_before b h a l =
        ap (λ r. parts Y v r before b a) er ∙ ap (λ ys. at Y v ys (b * n + a)) (eb ∙ ap (λ r. take (x * r) xs) er)
        ∙ at_take (x * n) xs (b * n + a) (omega (arith, mul-add-lt b n a x h l))

    pub split_after : (b : ℕ) → x < b → (a : ℕ) → a < n → parts Y v rows after (b - x - 1) a ≡ parts Y v n xs b a
    split_after b h a l =
        let between : x + 1 + (b - x - 1) ≡ b = omega arith in
        ap (λ r. parts Y v r after (b - x - 1) a) er ∙ ap (λ ys. at Y v ys ((b - x - 1) * n + a)) (ea ∙ ap₂ drop er et ∙ ap (λ r. drop n (drop (x * r) xs)) er)
        ∙ at_drop n (drop (x * n) xs) ((b - x - 1) * n + a) ∙ at_drop (x * n) xs (n + ((b - x - 1) * n + a))
        ∙ ap (at Y v xs) (omega (arith, ap (λ k. k * n) between))

    split_replaced : (ys : List S) (C : ℕ → Y.Symbol) → length ys ≡ n → ((a : ℕ) → a < n → at Y v ys a ≡ C a) → Replaced n x (parts Y v n xs) C (parts Y v n (before ++ (ys ++ after)))
    split_replaced ys C e holds =
        subst (λ zs. Replaced n x (parts Y v n xs) C (parts Y v n zs)) (sym (ap₂ (λ bs zs. bs ++ (ys ++ zs)) eb (ea ∙ ap (drop rows) et)))
        (replaced n x (x * rows) rows xs ys C (ap (λ r. x * r) er) er (omega (arith, whole, mul-le-mul_right n hx)) e holds)

    -- the share of another column, which was lent beside it, is added
    pub split_added : 1 ≤ m → (which : Parity) (b : ℕ) (ys other : List S) → length ys ≡ n → ((a : ℕ) → a < n → at Y v other a ≡ parts Y v n xs b a)
        → ((a : ℕ) → a < n → at Y v ys a ≡ added Y (at Y v column) (share which (full Y m) b (at Y v other)) a)
        → Replaced n x (parts Y v n xs) (added Y (parts Y v n xs x) (share which (full Y m) b (parts Y v n xs b))) (parts Y v n (before ++ (ys ++ after)))
    split_added some which b ys other e same sums =
        split_replaced ys _ e λ a l. sums a l ∙ ap₂ Y.ring.plus (split_column a l) (share_same which (full Y m) b (at Y v other) (parts Y v n xs b) some same a l)
