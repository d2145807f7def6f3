-- The tests of the reasons, and what each says. Assumes nothing.
use Rattle.std.proofs.Common.{◌≡◌, ◌≢◌, ℕ, ◌<◌, ◌≤◌, ◌⊎◌, Bool, true, false, not, ◌&&◌, ◌||◌, ◌==◌, nat_le, nat_lt, [], ◌∷◌, Option, Some, None, refl, sym, arith}
use Rattle.std.specs.Option.{is_none}
use Rattle.std.proofs.lemmas.Bool.Decides.{nat_tests}
use Rattle.refusal.specs.Refusals.{any_wrong}
use Rattle.ledger.specs.Fitting.{Outside}

-- the test t says P
pub record Says (t : Bool) (P : Type 0) : Type 0 where
  pub if_true : t ≡ true → P
  pub if_holds : P → t ≡ true

pub negated : (t : Bool) → Says (not t) (t ≡ false)
negated true = record { if_true = λ h. sym h; if_holds = λ h. sym h }
negated false = record { if_true = λ h. refl; if_holds = λ h. refl }

pub absent : (o : Option ℕ) → Says (is_none o) (o ≡ None)
absent None = record { if_true = λ h. refl; if_holds = λ h. refl }
absent (Some x) = record { if_true = λ h. cc; if_holds = λ h. cc }

pub wrong : (a b : ℕ) → Says (any_wrong ((a, b) ∷ [])) (a ≢ b)
wrong a b = record { if_true = λ h. grind (arith, nat_tests); if_holds = λ h. grind (arith, nat_tests) }

pub outside : (n b : ℕ) → Says (nat_lt b 1 || nat_lt n b) (Outside n b)
outside n b = record { if_true = λ h. grind (arith, nat_tests); if_holds = λ h. grind (arith, nat_tests) }

pub above : (n b : ℕ) → Says (nat_lt n b) (n < b)
above n b = record { if_true = λ h. grind (arith, nat_tests); if_holds = λ h. grind (arith, nat_tests) }

pub from : (n b : ℕ) → Says (nat_le n b) (n ≤ b)
from n b = record { if_true = λ h. grind (arith, nat_tests); if_holds = λ h. grind (arith, nat_tests) }

pub same : (a b : ℕ) → Says (b == a || false) (b ≡ a)
same a b = record { if_true = λ h. grind (arith, nat_tests); if_holds = λ h. grind (arith, nat_tests) }

pub differ : (a b c d : ℕ) → Says (not (a == b && c == d)) ((a ≢ b) ⊎ (c ≢ d))
differ a b c d = record { if_true = λ h. grind (arith, nat_tests); if_holds = λ h. grind (arith, nat_tests) }
