-- From the numbers that the arithmetic gives to the symbols that they stand for, modulo any p. Assumes nothing.
use Rattle.std.proofs.Common.{◌≡◌, ℕ, ◌%◌, ◌<◌, sym, refl, ap, ◌∙◌, mod-eq_of_lt}
use Rattle.std.proofs.lemmas.Nat.{mul-mod_second}
use Rattle.std.proofs.Math.Nat.{mod-mod}
use Rattle.field.specs.Below.{same_below}
use Rattle.field.specs.Numbers.{residue}
use Rattle.field.specs.Residues.{Prime, modular}
use Rattle.field.specs.Ring.{Divides}
use Rattle.field.proofs.Inverses.{inverse_of}
use Rattle.field.proofs.Values.{divides}

-- a number below p is its own remainder
pub settled : (p n k : ℕ) → n ≡ k → n < p → k % p ≡ n
settled p n k e h = ap (λ m. m % p) (sym e) ∙ mod-eq_of_lt h

-- a number and its remainder stand for the same symbol
pub residue_again : (p : ℕ) (big : 1 < p) (n : ℕ) → residue p big (n % p) ≡ residue p big n
residue_again p big n = same_below _ _ (mod-mod n p)

-- every symbol but zero has an inverse
pub inverts : (p : ℕ) (big : 1 < p) → Prime p → Divides (modular p big)
inverts p big prime =
    divides p big (modular p big) refl
    (λ x some. let found = inverse_of p prime x.0 some x.1 in (residue p big found.0, same_below _ _ (mul-mod_second x.0 found.0 p ∙ found.1 ∙ sym (mod-eq_of_lt big))))
