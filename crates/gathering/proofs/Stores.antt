-- A store with one half put into its place. Assumes nothing.
use Rattle.std.proofs.Common.{◌≡◌, ℕ, ◌+◌, ◌*◌, ◌<◌, ◌≤◌, ◌≢◌, ◌⊎◌, inl, inr, ⊎_elim, List, length, arith, rules}
use Rattle.std.proofs.lemmas.Nat.{rows}
use Rattle.std.proofs.lemmas.List.{places, same_lists}
use Rattle.std.proofs.lemmas.Bool.{cases_lt}
use Rattle.gathering.specs.Gatherings.{with_half, half_in}

-- parts of n symbols rise
pub below : (k h n : ℕ) → k < h → k * n + n ≤ h * n
below k h n l = grind (arith, rows)

-- parts k and h of n symbols have nothing in common
apart : (k h n : ℕ) → k ≢ h → (k * n + n ≤ h * n) ⊎ (h * n + n ≤ k * n)
apart k h n other = ⊎_elim (λ l. inl (below k h n l)) (λ l. inr (below h k n (omega arith))) (cases_lt k h)

module _ {S : Type 0} (n h : ℕ) (half store : List S) (size : length half ≡ n) (inside : h * n + n ≤ length store) where
  pub length_with : length (with_half n h half store) ≡ length store
  length_with = search (rules, places)

  -- it is there
  pub half_put : half_in n h (with_half n h half store) ≡ half
  half_put = same_lists _ _ (search (rules, places)) (λ k d l. grind (arith, places))

  before : (k : ℕ) → k * n + n ≤ h * n → half_in n k (with_half n h half store) ≡ half_in n k store
  before k l = same_lists _ _ (search (rules, places)) (λ i d b. grind (arith, places))

  after : (k : ℕ) → h * n + n ≤ k * n → half_in n k (with_half n h half store) ≡ half_in n k store
  after k l = same_lists _ _ (search (rules, places)) (λ i d b. grind (arith, places))

  -- and the others are as they were
  pub half_kept : (k : ℕ) → k ≢ h → half_in n k (with_half n h half store) ≡ half_in n k store
  half_kept k other = ⊎_elim (before k) (after k) (apart k h n other)
