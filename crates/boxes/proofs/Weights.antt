-- The arithmetic of rows, as the program does it. Assumes nothing.
use Rattle.std.proofs.Common.{Option, Some, MatchOption, subst, ◌≡◌, ℕ, ◌+◌, ◌-◌, ◌%◌, ◌^◌, ◌<◌, ◌≤◌, ap, ◌∙◌, ap₂, arith}
use Rattle.std.proofs.lemmas.Nat.{shr_split}
use Rattle.std.proofs.lemmas.Option.{MatchOption-at_some}
use Rattle.code.specs.Rows.{lower}
use Rattle.code.proofs.Pairing.{lower_is, upper_below}
use Rattle.boxes.specs.Pairs.{RowsOfPair}

-- the power of a small exponent
pub power_is : (k r : ℕ) → k ≤ 6 → r ≡ 2 ^ (k % 64) → r ≡ 2 ^ k
power_is k r h e = e ∙ ap (λ n. 2 ^ n) (omega arith)

-- j, and once more all of it but the rest below a weight
low_is : (k w j : ℕ) → w ≡ 2 ^ k → j + (j - j % w) ≡ lower k j
low_is k w j e = rw e (omega (arith, lower_is k j, shr_split j k))

pub rows_of_pair : (m k j w : ℕ) → m ≤ 6 → k < m → j < 2 ^ (m - 1) → w ≡ 2 ^ k → 1 ≤ w → RowsOfPair m k j (j + (j - j % w)) (j + (j - j % w) + w)
rows_of_pair m k j w hm hk below is positive =
    let low : j + (j - j % w) ≡ lower k j = low_is k w j is in
    record {
      size = hm;
      digit = hk;
      pair = below;
      is_low = low;
      is_high = ap₂ ◌+◌ low is;
      rising = omega arith;
      bound = omega (arith, upper_below m k j hk below);
    }

-- the rows of a pair, by the size and the digit that the code names
pub rows_named : {m k m' k' j low high : ℕ} → m ≡ m' → k ≡ k' → RowsOfPair m k j low high → RowsOfPair m' k' j low high
rows_named {m = m} {k' = k'} {j = j} {low = low} {high = high} em ek rows =
    subst (λ n. RowsOfPair n k' j low high) em (subst (λ n. RowsOfPair m n j low high) ek rows)

-- and of a pair that is there
pub rows_are : {o : Option (ℕ × ℕ)} {m k m' k' j : ℕ} (p : ℕ × ℕ) → o ≡ Some p → MatchOption o (2 ^ (m - 1) ≤ j) (λ q. RowsOfPair m k j q.0 q.1) → m ≡ m' → k ≡ k' → RowsOfPair m' k' j p.0 p.1
rows_are {m = m} {k = k} {j = j} p is rows em ek = rows_named em ek (MatchOption-at_some _ (λ q. RowsOfPair m k j q.0 q.1) p is rows)
