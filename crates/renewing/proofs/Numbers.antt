-- Lemmas on the halves that boxes of a shelf send. Assumes nothing.
use Rattle.std.proofs.Common.{◌≡◌, ◌≢◌, ℕ, zero, suc, ◌+◌, ◌-◌, ◌*◌, ◌^◌, ◌<◌, ◌≤◌, Bool, true, List, map, length, slice_index_or, if◌then◌else◌, nat_lt, sym, ap, ap₂, ◌∙◌, inl, inr, arith, tests, mul-le-mul_right}
use Rattle.std.proofs.lemmas.Bool.{cases_order}
use Rattle.std.proofs.lemmas.List.{length-map}
use Rattle.std.proofs.lemmas.Nat.{mul-add-lt}
use borrow.Rule.Slice.PartMut.{put_mid}
use Rattle.field.specs.Symbols.{Symbols}
use Rattle.code.specs.Codes.{full, half_for, helper}
use Rattle.code.specs.Contents.{Holds, at, parts}
use Rattle.columns.proofs.Mids.{map_mid, mid_before, mid_inside}
use Rattle.shelf.specs.Meaning.{Meaning, is_standing}
use Rattle.shelf.specs.Rows.{has_rows, rows_at}
use Rattle.stripe.specs.Stripes.{has_stripe, held, stands}
use Rattle.stripe.proofs.Held.{held_number, stripe_rows}
use Rattle.renewing.specs.Renewals.{HalvesOf, others_stand}

-- each of the other boxes stands
other_stands : (up : ℕ → Bool) (x n b : ℕ) → others_stand up x n ≡ true → b < n → b ≢ x → up b ≡ true
other_stands up x zero b e h n = absurd (omega arith)
other_stands up x (suc k) b e h n =
    elim (cases_order b k) [
      | inl q ↦ grind (arith, tests)
      | inr (inl l) ↦ other_stands up x k b (grind (arith, tests)) l n
      | inr (inr l) ↦ absurd (omega arith)
    ]

module _ {T : Type 0} (s : Meaning T) where
  -- so has each helper the rows of the stripe
  pub helper_rows : (m from lost h b : ℕ) → has_stripe m from s ≡ true → others_stand (stands s) (lost - 1) (3 * m + 2) ≡ true → h < 3 * m + 1
      → b ≡ suc (if nat_lt h (lost - 1) then h else suc h) → has_rows s b from (2 ^ m) ≡ true
  helper_rows m from lost h b e o l r =
      let x = lost - 1 in
      let place : ℕ = if nat_lt h x then h else suc h in
      let other : place ≢ x = grind (arith, tests) in
      let below : place < 3 * m + 2 = grind (arith, tests) in
      stripe_rows m from s b e (ap (is_standing s) r ∙ other_stands (stands s) x (3 * m + 2) place o below other)

module _ (Y : Symbols) {T : Type 0} (v : T → Y.Symbol) where
  -- a half, by the box's number
  pub half_sent : (m from x b : ℕ) (s t : Meaning T) (xs : List T) → 1 ≤ b → t ≡ s → Holds Y v (2 ^ (m - 1)) xs (half_for (full Y m) x (at Y v (rows_at t b from (2 ^ m))))
      → Holds Y v (2 ^ (m - 1)) xs (half_for (full Y m) x (held Y v m from s (b - 1)))
  half_sent m from x b s t xs first same h a l =
      h a l ∙ ap (λ C. half_for (full Y m) x C a) (ap (λ w. at Y v (rows_at w b from (2 ^ m))) same ∙ sym (held_number Y v m from s b first))

  -- one half more is taken, into part h of n numbers
  halves_more : (n h s k : ℕ) (xs ys : List T) (G : ℕ → ℕ → Y.Symbol) → s ≡ h * n → k ≡ n → h * n + n ≤ length xs → length ys ≡ n
      → ((i : ℕ) → i < h → (j : ℕ) → j < n → parts Y v n xs i j ≡ G i j) → ((j : ℕ) → j < n → at Y v ys j ≡ G h j)
      → (i : ℕ) → i < h + 1 → (j : ℕ) → j < n → parts Y v n (put_mid s k xs ys) i j ≡ G i j
  halves_more n h s k xs ys G es ek fits size before here i l j below =
      ap (λ zs. slice_index_or zs (i * n + j) Y.ring.zero) (map_mid v s k xs ys)
      ∙ elim (cases_order i h) [
        | inl e ↦
            let q : i * n + j ≡ s + j = omega (arith, ap (λ z. z * n) e) in
            ap (λ a. slice_index_or (put_mid s k (map v xs) (map v ys)) a Y.ring.zero) q
            ∙ mid_inside s k (map v xs) (map v ys) j Y.ring.zero (simp length-map (omega arith)) (simp length-map (omega arith))
            ∙ here j below ∙ ap (λ z. G z j) (sym e)
        | inr (inl w) ↦ mid_before s k (map v xs) (map v ys) (i * n + j) Y.ring.zero (simp length-map (omega arith)) (omega (arith, mul-add-lt i n j h w below)) ∙ before i w j below
        | inr (inr w) ↦ absurd (omega arith)
      ]

  module _ (m from x : ℕ) (s : Meaning T) where
    -- the halves of the first n helpers are taken
    pub record Taken (n : ℕ) (xs : List T) : Type 0 where
      pub numbers : (h : ℕ) → h < n → (j : ℕ) → j < 2 ^ (m - 1) → parts Y v (2 ^ (m - 1)) xs h j ≡ half_for (full Y m) x (held Y v m from s (helper (full Y m) x h)) j

    pub taken_none : (xs : List T) → Taken 0 xs
    taken_none xs = record { numbers = λ h l. absurd (omega arith) }

    pub taken_more : (h b p start size : ℕ) (t : Meaning T) (xs ys : List T) → p ≡ 2 ^ (m - 1) → start ≡ h * p → size ≡ p → length xs ≡ (3 * m + 1) * 2 ^ (m - 1) → h < 3 * m + 1 → length ys ≡ 2 ^ (m - 1)
        → b ≡ suc (if nat_lt h x then h else suc h) → t ≡ s → Holds Y v (2 ^ (m - 1)) ys (half_for (full Y m) x (at Y v (rows_at t b from (2 ^ m))))
        → Taken h xs → Taken (h + 1) (put_mid start size xs ys)
    taken_more h b p start size t xs ys ep es ek whole l long eb et here before = record {
      numbers =
          halves_more (2 ^ (m - 1)) h start size xs ys (λ i. half_for (full Y m) x (held Y v m from s (helper (full Y m) x i)))
          (es ∙ ap (λ r. h * r) ep) (ek ∙ ep) (omega (arith, whole, mul-le-mul_right (2 ^ (m - 1)) l)) long before.numbers
          (λ j w. here j w ∙ ap₂ (λ u c. half_for (full Y m) x (at Y v (rows_at u c from (2 ^ m))) j) et eb);
    }

    pub taken_all : (h : ℕ) (xs : List T) → 3 * m + 1 ≤ h → Taken h xs → HalvesOf Y v m from x s (parts Y v (2 ^ (m - 1)) xs)
    taken_all h xs l t i w = t.numbers i (omega arith)
