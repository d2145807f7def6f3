-- Rings of the numbers of k binary digits whose sum is exclusive or. Assumes nothing.
use Rattle.std.specs.Prelude.{◌≡◌, ℕ, ◌^◌, ◌<◌, bit_xor}
use Rattle.std.proofs.Common.{◌∙◌, ap, sym, mod-eq_of_lt}
use Rattle.std.proofs.Math.Nat.{zero-mod}
use Rattle.std.proofs.lemmas.Nat.{xor_comm, xor_lt}
use Rattle.std.specs.Int.Bits.{xor_assoc, xor_self, xor_zero_l}
use Rattle.field.specs.Below.{Below, same_below}
use Rattle.field.specs.Numbers.{residue}
use Rattle.field.specs.Ring.{Ring}

-- what the product f owes
pub record Product (k : ℕ) (f : ℕ → ℕ → ℕ) : Type 0 where
  pub below : (x y : Below (2 ^ k)) → f x.0 y.0 < 2 ^ k
  pub comm : (x y : Below (2 ^ k)) → f x.0 y.0 ≡ f y.0 x.0
  pub assoc : (x y z : Below (2 ^ k)) → f (f x.0 y.0) z.0 ≡ f x.0 (f y.0 z.0)
  pub one : (x : Below (2 ^ k)) → f 1 x.0 ≡ x.0
  pub spread : (x y z : Below (2 ^ k)) → f x.0 (bit_xor y.0 z.0) ≡ bit_xor (f x.0 y.0) (f x.0 z.0)

abbrev pub binary : (k : ℕ) (big : 1 < 2 ^ k) (f : ℕ → ℕ → ℕ) → Product k f → Ring (Below (2 ^ k))
binary k big f o = record {
  zero = residue (2 ^ k) big 0;
  one = residue (2 ^ k) big 1;
  plus = λ x y. (bit_xor x.0 y.0, xor_lt k x.0 y.0 x.1 y.1);
  negative = λ x. x;
  times = λ x y. (f x.0 y.0, o.below x y);
  plus_comm = λ x y. same_below _ _ (xor_comm x.0 y.0);
  plus_assoc = λ x y z. same_below _ _ (xor_assoc x.0 y.0 z.0);
  zero_plus = λ x. same_below _ _ (ap (λ n. bit_xor n x.0) (zero-mod (2 ^ k)) ∙ xor_zero_l x.0);
  plus_negative = λ x. same_below _ _ (xor_self x.0 ∙ sym (zero-mod (2 ^ k)));
  times_comm = λ x y. same_below _ _ (o.comm x y);
  times_assoc = λ x y z. same_below _ _ (o.assoc x y z);
  one_times = λ x. same_below _ _ (ap (λ n. f n x.0) (mod-eq_of_lt big) ∙ o.one x);
  times_plus = λ x y z. same_below _ _ (o.spread x y z);
}
