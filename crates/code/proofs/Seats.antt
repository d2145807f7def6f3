-- The helpers of a lost box in rising order, and the place of each. Assumes nothing.
use Rattle.std.proofs.Common.{◌≡◌, ℕ, suc, ◌-◌, ◌<◌, ◌≤◌, ◌≢◌, arith}
use Rattle.std.proofs.lemmas.Bool.Decides.{nat_tests}
use Rattle.code.specs.Codes.{Code, helper}
use Rattle.code.specs.Recovery.{seat}

pub seat_above : (x b : ℕ) → x ≤ b → seat x b ≡ b - 1
seat_above x b l = grind (arith, nat_tests)

-- distinct helpers have distinct places
pub seat_apart : (x a b : ℕ) → a ≢ x → b ≢ x → a ≢ b → seat x a ≢ seat x b
seat_apart x a b ha hb h e = grind (arith, nat_tests)

pub seat_most : (x b n : ℕ) → x < suc n → b ≢ x → b < suc n → seat x b < n
seat_most x b n h k l = grind (arith, nat_tests)

module _ {A : Type 0} (c : Code A) (x : ℕ) where
  pub seat_helper : (h : ℕ) → seat x (helper c x h) ≡ h
  seat_helper h = grind (arith, nat_tests)

  pub helper_seat : (b : ℕ) → b ≢ x → helper c x (seat x b) ≡ b
  helper_seat b n = grind (arith, nat_tests)

  pub helper_apart : (h : ℕ) → helper c x h ≢ x
  helper_apart h e = grind (arith, nat_tests)

  pub helper_most : (h n : ℕ) → h < n → helper c x h < suc n
  helper_most h n l = grind (arith, nat_tests)
