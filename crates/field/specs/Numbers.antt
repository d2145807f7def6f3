-- A field whose symbols are the numbers below its size: what all such fields owe alike. Assumes nothing.
use Rattle.std.specs.Prelude.{◌≡◌, ℕ, ◌<◌, refl}
use Rattle.std.proofs.Common.{sym, ◌∙◌, mod-eq_of_lt, arith}
use Rattle.std.proofs.Math.Nat.{zero-mod}
use Rattle.field.specs.Below.{Below, same_below, same_number, rest}
use Rattle.field.specs.Marks.{Marks, marked, marked_not_zero, marked_distinct}
use Rattle.field.specs.Ring.{Ring}
use Rattle.field.specs.Symbols.{Symbols}

-- the marks 1 to n, each its own number
abbrev pub counted : (p n : ℕ) → n < p → Marks p
counted p n h = record {
  count = n;
  at = λ j. j;
  below = λ j low high. omega arith;
  not_zero = λ j low high e. omega arith;
  distinct = λ i j h₁ h₂ h₃ h₄ e. e;
}

-- n is the number of s, and s is the symbol of n
pub record NumberOf (p : ℕ) {V : Type 0} (number : V → ℕ) (of : ℕ → V) (s : V) (n : ℕ) : Type 0 where
  pub is : n ≡ number s
  pub below : n < p
  pub back : s ≡ of n

module _ (p : ℕ) (big : 1 < p) where
  pub positive : 0 < p
  positive = omega arith

  -- the symbol that a number stands for: its remainder by the size
  abbrev pub residue : ℕ → Below p
  residue n = rest p positive n

  pub zero_is : (residue 0).0 ≡ 0
  zero_is = zero-mod p

  pub one_is : (residue 1).0 ≡ 1
  one_is = mod-eq_of_lt big

  abbrev pub numbers : (R : Ring (Below p)) → R.zero ≡ residue 0 → R.one ≡ residue 1 → Marks p → Symbols
  numbers R none unit m = record {
    Symbol = Below p;
    ring = R;
    zero_not_one = λ e. let z : ◌≡◌ {A = ℕ} 0 1 = sym zero_is ∙ same_number _ _ (sym none ∙ e ∙ unit) ∙ one_is in omega arith;
    size = p;
    number = λ x. x.0;
    number_below = λ x. x.1;
    number_same = same_below;
    numbered = λ n h. ((n, h), refl);
    marks = m.count;
    mark = marked p positive m;
    mark_not_zero = λ j h k e. marked_not_zero p positive m j h k (e ∙ none ∙ same_below (residue 0) (0, positive) zero_is);
    mark_distinct = marked_distinct p positive m;
  }
