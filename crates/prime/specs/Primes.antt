-- The primes of the crate, by a computed test of each number below. Assumes nothing.
use Rattle.std.specs.Prelude.{ℕ, ◌%◌, ◌<◌, Bool, IsTrue, ◌||◌, nat_lt, refl}
use Rattle.std.proofs.Common.{inl, inr, arith}
use Rattle.std.proofs.lemmas.Bool.{or_cases, ltb-true}
use Rattle.field.specs.Computed.{all, all_at}
use Rattle.field.specs.Residues.{Prime}

-- d is 0 or 1, or leaves a rest of p
abbrev leaves : ℕ → ℕ → Bool
leaves p d = nat_lt d 2 || nat_lt 0 (p % d)

pub prime_by : (p : ℕ) → IsTrue (all (leaves p) p) → Prime p
prime_by p t d h k e =
    elim (or_cases (nat_lt d 2) (nat_lt 0 (p % d)) (all_at (leaves p) p t d k)) [
      | inl s ↦ let l : d < 2 = ltb-true _ _ s in omega arith
      | inr s ↦ let l : 0 < p % d = ltb-true _ _ s in omega arith
    ]

pub prime_5 : Prime 5
prime_5 = prime_by 5 refl

pub prime_65537 : Prime 65537
prime_65537 = prime_by 65537 refl
