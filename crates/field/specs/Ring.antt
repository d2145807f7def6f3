-- A commutative ring over a type of symbols: its operations, and its laws. Assumes nothing.
use Rattle.std.specs.Prelude.{◌≡◌, ◌≢◌}

pub record Ring (A : Type 0) : Type 0 where
  pub zero : A
  pub one : A
  pub plus : A → A → A
  pub negative : A → A
  pub times : A → A → A
  pub plus_comm : (x y : A) → plus x y ≡ plus y x
  pub plus_assoc : (x y z : A) → plus (plus x y) z ≡ plus x (plus y z)
  pub zero_plus : (x : A) → plus zero x ≡ x
  pub plus_negative : (x : A) → plus x (negative x) ≡ zero
  pub times_comm : (x y : A) → times x y ≡ times y x
  pub times_assoc : (x y z : A) → times (times x y) z ≡ times x (times y z)
  pub one_times : (x : A) → times one x ≡ x
  pub times_plus : (x y z : A) → times x (plus y z) ≡ plus (times x y) (times x z)

-- Every symbol but zero has an inverse.
abbrev pub Divides : {A : Type 0} → Ring A → Type 0
Divides {A} R = (x : A) → (x ≢ R.zero) → (y : A) × (R.times x y ≡ R.one)
