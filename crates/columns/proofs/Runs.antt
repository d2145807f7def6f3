-- Columns by their runs: with w the weight of a digit, each 2w rows in which row i and row i + w are partners. Assumes nothing.
use Rattle.std.proofs.Common.{◌≡◌, ℕ, suc, ◌+◌, ◌-◌, ◌*◌, ◌/◌, ◌^◌, ◌<◌, ◌≤◌, ◌≢◌, true, false, List, map, length, slice_index_or, slice_set, sym, ap, ap₂, ◌∙◌, subst, inl, inr, pow-suc, pow-add, mul-le-mul_right, arith, length-set}
use Rattle.std.proofs.lemmas.Bool.{cases_eq, cases_lt}
use Rattle.std.proofs.lemmas.List.{length-map}
use Rattle.std.proofs.lemmas.Nat.{shr_high, mod_low, shl-shr}
use Rattle.std.proofs.Math.Nat.{div-mul-le_self}
use borrow.Rule.Slice.PartMut.{put_mid}
use Rattle.field.specs.Symbols.{Symbols}
use Rattle.code.specs.Contents.{at}
use Rattle.code.specs.Rows.{lower}
use Rattle.code.specs.Blocks.{block}
use Rattle.code.specs.Codes.{Code, kind, shift, eigen_p, eigen_q, image}
use Rattle.code.specs.declared.Kind.{Kind}
use Rattle.code.proofs.Images.{image_at_low, image_at_high}
use Rattle.columns.proofs.Mids.{map_mid, mid_before, mid_inside, mid_after}
use Rattle.columns.proofs.Slices.{Rowwise, written, written_else}

-- row i of run r is the lower row of a pair
pub run_row : (k r i : ℕ) → i < 2 ^ k → r * 2 ^ suc k + i ≡ lower k (r * 2 ^ k + i)
run_row k r i l = sym (ap₂ (λ q s. q * 2 ^ suc k + s) (shr_high r k i l) (mod_low r k i l))

-- a run stands inside of the column
pub run_inside : (r n run : ℕ) → r < n / run → r * run + run ≤ n
run_inside r n run h = omega (arith, mul-le-mul_right run h, div-mul-le_self n run)

-- a run has two halves
twice : (k w : ℕ) → w ≡ 2 ^ k → 2 * w ≡ 2 ^ suc k
twice k w is = omega (arith, is, pow-suc 2 k)

-- the runs are all of the column
pub runs_all : (m k w n r : ℕ) → k < m → w ≡ 2 ^ k → n ≡ 2 ^ m → n / (2 * w) ≤ r → 2 ^ m ≤ r * (2 * w)
runs_all m k w n r h is rows all =
    let whole : 2 ^ m ≡ 2 ^ (m - suc k) * 2 ^ suc k = ap (λ n. 2 ^ n) (omega arith) ∙ pow-add 2 (m - suc k) (suc k) in
    let count : n / (2 * w) ≡ 2 ^ (m - suc k) = ap₂ ◌/◌ (rows ∙ whole) (twice k w is) ∙ shl-shr (2 ^ (m - suc k)) (suc k) in
    let back : 2 ^ m ≡ n / (2 * w) * (2 * w) = whole ∙ sym (ap₂ ◌*◌ count (twice k w is)) in
    omega (arith, back, mul-le-mul_right (2 * w) all)

-- what a block makes of row i of the halves of run r is the image there
module _ {A : Type 0} (c : Code A) (b r w i : ℕ) (is : w ≡ 2 ^ shift c b) (below : i < w) (C : ℕ → A) (u : Kind) (p q s t : A) (eu : u ≡ kind c b) (ep : p ≡ eigen_p c b) (eq : q ≡ eigen_q c b)
    (es : s ≡ C (r * (2 * w) + i)) (et : t ≡ C (r * (2 * w) + i + w)) where
  abbrev k : ℕ
  k = shift c b

  is_low : r * (2 * w) + i ≡ lower k (r * 2 ^ k + i)
  is_low = ap (λ n. r * n + i) (twice k w is) ∙ run_row k r i (omega (arith, is))

  is_high : r * (2 * w) + i + w ≡ lower k (r * 2 ^ k + i) + 2 ^ k
  is_high = ap₂ ◌+◌ is_low is

  pub image_low : block c.ring u p q s t false ≡ image c b C (r * (2 * w) + i)
  image_low = image_at_low c b C (r * 2 ^ k + i) _ _ is_low is_high u p q s t eu ep eq es et

  pub image_high : block c.ring u p q s t true ≡ image c b C (r * (2 * w) + i + w)
  image_high = image_at_high c b C (r * 2 ^ k + i) _ _ is_low is_high u p q s t eu ep eq es et

module _ (Y : Symbols) {S : Type 0} (v : S → Y.Symbol) where
  -- of a run, the first n rows of each half hold f and g, the others what they held
  pub record Halves (w : ℕ) (f g : ℕ → Y.Symbol) (before : List S) (n : ℕ) (xs : List S) : Type 0 where
    pub low : (i : ℕ) → i < n → at Y v xs i ≡ f i
    pub high : (i : ℕ) → i < n → at Y v xs (i + w) ≡ g i
    pub low_left : (i : ℕ) → n ≤ i → i < w → at Y v xs i ≡ at Y v before i
    pub high_left : (i : ℕ) → n ≤ i → at Y v xs (i + w) ≡ at Y v before (i + w)

  -- row i of both halves is written
  module _ (w i : ℕ) (below : i < w) (xs : List S) (s t : S) (long : length xs ≡ 2 * w) where
    abbrev both : List S
    both = slice_set (slice_set xs i s) (i + w) t

    at_low : at Y v both i ≡ v s
    at_low = written_else Y v (slice_set xs i s) (i + w) i t (λ e. omega arith) ∙ written Y v xs i s (omega arith)

    at_high : at Y v both (i + w) ≡ v t
    at_high = let l : i + w < length (slice_set xs i s) = simp length-set (omega arith) in written Y v (slice_set xs i s) (i + w) t l

    at_else : (a : ℕ) → a ≢ i → a ≢ i + w → at Y v both a ≡ at Y v xs a
    at_else a l h = written_else Y v (slice_set xs i s) (i + w) a t h ∙ written_else Y v xs i a s l

    pub halves_more : (f g : ℕ → Y.Symbol) (before : List S) → v s ≡ f i → v t ≡ g i → Halves w f g before i xs → Halves w f g before (i + 1) both
    halves_more f g before es et h = record {
      low = λ a l. elim (cases_eq a i) [
        | inl z ↦ subst (λ n. at Y v both n ≡ f n) (sym z) (at_low ∙ es)
        | inr z ↦ at_else a z (λ e. omega arith) ∙ h.low a (omega arith)
      ];
      high = λ a l. elim (cases_eq a i) [
        | inl z ↦ subst (λ n. at Y v both (n + w) ≡ g n) (sym z) (at_high ∙ et)
        | inr z ↦ at_else (a + w) (λ e. omega arith) (λ e. z (omega arith)) ∙ h.high a (omega arith)
      ];
      low_left = λ a l b. at_else a (λ e. omega arith) (λ e. omega arith) ∙ h.low_left a (omega arith) b;
      high_left = λ a l. at_else (a + w) (λ e. omega arith) (λ e. omega arith) ∙ h.high_left a (omega arith);
    }

  -- one run more is written
  module _ (w start k : ℕ) (size : k ≡ 2 * w) (xs ys : List S) (fits : start + k ≤ length xs) (long : length ys ≡ k) where
    abbrev after : List S
    after = put_mid start k xs ys

    inside : (i : ℕ) → i < k → at Y v after (start + i) ≡ at Y v ys i
    inside i l =
        ap (λ zs. slice_index_or zs (start + i) Y.ring.zero) (map_mid v start k xs ys)
        ∙ mid_inside start k (map v xs) (map v ys) i Y.ring.zero (simp length-map (omega arith)) (simp length-map (omega arith))

    outside_before : (a : ℕ) → a < start → at Y v after a ≡ at Y v xs a
    outside_before a l =
        ap (λ zs. slice_index_or zs a Y.ring.zero) (map_mid v start k xs ys) ∙ mid_before start k (map v xs) (map v ys) a Y.ring.zero (simp length-map (omega arith)) l

    outside_after : (a : ℕ) → start + k ≤ a → at Y v after a ≡ at Y v xs a
    outside_after a l =
        ap (λ zs. slice_index_or zs a Y.ring.zero) (map_mid v start k xs ys)
        ∙ mid_after start k (map v xs) (map v ys) a Y.ring.zero (simp length-map (omega arith)) (simp length-map long) l

    module _ (f : ℕ → Y.Symbol) (low : (i : ℕ) → i < w → at Y v ys i ≡ f (start + i)) (high : (i : ℕ) → i < w → at Y v ys (i + w) ≡ f (start + i + w)) where
      row : (i : ℕ) → i < k → at Y v ys i ≡ f (start + i)
      row i l = elim (cases_lt i w) [
        | inl h ↦ low i h
        | inr h ↦
            let back : i - w + w ≡ i = omega arith in
            ap (at Y v ys) (sym back) ∙ high (i - w) (omega arith) ∙ ap f (omega arith)
      ]

      written_row : (a : ℕ) → start ≤ a → a < start + k → at Y v after a ≡ f a
      written_row a h l =
          let there : start + (a - start) ≡ a = omega arith in
          subst (λ n. at Y v after n ≡ f n) there (inside (a - start) (omega arith) ∙ row (a - start) (omega arith))

      pub run_more : (before : List S) (next : ℕ) → next ≡ start + k → Rowwise Y v f before start xs → Rowwise Y v f before next after
      run_more before next e so = record {
        done = λ a l b. elim (cases_lt a start) [
          | inl h ↦ outside_before a h ∙ so.done a h b
          | inr h ↦ written_row a h (omega arith)
        ];
        left = λ a l. outside_after a (omega arith) ∙ so.left a (omega arith);
      }
