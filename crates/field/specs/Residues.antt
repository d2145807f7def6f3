-- The integers modulo p, for any p above 1: their ring laws, once. Assumes nothing.
use Rattle.std.specs.Prelude.{◌≡◌, ℕ, ◌+◌, ◌-◌, ◌*◌, ◌%◌, ◌<◌, ◌≤◌, ◌≢◌, refl}
use Rattle.std.proofs.Common.{sym, ◌∙◌, ap, add_comm, add_assoc, mul_comm, mul_assoc, mul-add, zero-add, one-mul, mod-eq_of_lt, arith}
use Rattle.std.proofs.Math.Nat.{zero-mod, mod_self, mod-add-mod, add-mod-mod, add-mod}
use Rattle.std.proofs.lemmas.Nat.{mul-mod_first, mul-mod_second}
use Rattle.field.specs.Below.{Below, same_below}
use Rattle.field.specs.Marks.{Marks}
use Rattle.field.specs.Numbers.{numbers, residue}
use Rattle.field.specs.Ring.{Ring}
use Rattle.field.specs.Symbols.{Symbols}

-- a number with no divisor between 1 and itself
abbrev pub Prime : ℕ → Type 0
Prime p = (d : ℕ) → 1 < d → d < p → p % d ≢ 0

-- b is at most half of a, and g takes to b, modulo p, whatever f takes to a
pub record Halved (p a f b g : ℕ) : Type 0 where
  pub some : 0 < b
  pub half : b + b ≤ a
  pub below : g < p
  pub takes : (x : ℕ) → (f * x) % p ≡ a → (g * x) % p ≡ b

module _ (p : ℕ) (big : 1 < p) where
  abbrev pub modular : Ring (Below p)
  modular = record {
    zero = residue p big 0;
    one = residue p big 1;
    plus = λ x y. residue p big (x.0 + y.0);
    negative = λ x. residue p big (p - x.0);
    times = λ x y. residue p big (x.0 * y.0);
    plus_comm = λ x y. same_below _ _ (ap (λ n. n % p) (add_comm x.0 y.0));
    plus_assoc = λ x y z. same_below _ _ (mod-add-mod (x.0 + y.0) p z.0 ∙ ap (λ n. n % p) (add_assoc x.0 y.0 z.0) ∙ sym (add-mod-mod x.0 (y.0 + z.0) p));
    zero_plus = λ x. same_below _ _ (mod-add-mod 0 p x.0 ∙ ap (λ n. n % p) (zero-add x.0) ∙ mod-eq_of_lt x.1);
    plus_negative = λ x. same_below _ _ (add-mod-mod x.0 (p - x.0) p ∙ ap (λ n. n % p) (let h : x.0 < p = x.1 in let e : x.0 + (p - x.0) ≡ p = omega arith in e) ∙ mod_self p ∙ sym (zero-mod p));
    times_comm = λ x y. same_below _ _ (ap (λ n. n % p) (mul_comm x.0 y.0));
    times_assoc = λ x y z. same_below _ _ (mul-mod_first (x.0 * y.0) z.0 p ∙ ap (λ n. n % p) (mul_assoc x.0 y.0 z.0) ∙ sym (mul-mod_second x.0 (y.0 * z.0) p));
    one_times = λ x. same_below _ _ (mul-mod_first 1 x.0 p ∙ ap (λ n. n % p) (one-mul x.0) ∙ mod-eq_of_lt x.1);
    times_plus = λ x y z. same_below _ _ (mul-mod_second x.0 (y.0 + z.0) p ∙ ap (λ n. n % p) (mul-add x.0 y.0 z.0) ∙ add-mod (x.0 * y.0) (x.0 * z.0) p);
  }

  abbrev pub integers : Marks p → Symbols
  integers m = numbers p big modular refl refl m
