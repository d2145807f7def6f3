-- The field of four: the sum is exclusive or, the product a table, the marks 3, 2, 1. Assumes nothing.
use Rattle.std.specs.Prelude.{ℕ, ◌<◌, Bool, IsTrue, if◌then◌else◌, nat_lt, ◌==◌, List, [], ◌∷◌, slice_index, slice_index_or, bit_xor, refl}
use Rattle.std.proofs.Common.{lit<}
use Rattle.std.proofs.lemmas.Bool.{ltb-true, eqb-true}
use Rattle.field.specs.Below.{Below}
use Rattle.field.specs.Binary.{Product, binary}
use Rattle.field.specs.Computed.{all, all_at}
use Rattle.field.specs.Marks.{Marks, listed}
use Rattle.field.specs.Numbers.{numbers, residue}
use Rattle.field.specs.Symbols.{Symbols}
use Rattle.four.specs.declared.Four.{Four}
use Rattle.four.specs.declared.Four.TheVariants.{Zero, One, Two, Three}

abbrev pub four_number : Four → ℕ
four_number Zero = 0
four_number One = 1
four_number Two = 2
four_number Three = 3

-- the symbol of a number below 4
abbrev pub four_of : ℕ → Four
four_of n = (if nat_lt n 1 then Zero else (if nat_lt n 2 then One else (if nat_lt n 3 then Two else Three)))

-- the product table, row after row
abbrev pub table : List (List ℕ)
table = (0 ∷ 0 ∷ 0 ∷ 0 ∷ []) ∷ (0 ∷ 1 ∷ 2 ∷ 3 ∷ []) ∷ (0 ∷ 2 ∷ 3 ∷ 1 ∷ []) ∷ (0 ∷ 3 ∷ 1 ∷ 2 ∷ []) ∷ []

abbrev pub product : ℕ → ℕ → ℕ
product a b = slice_index (slice_index_or table a []) b

-- zero has no inverse, and its entry says nothing
abbrev pub inverse : ℕ → ℕ
inverse a = slice_index (0 ∷ 1 ∷ 3 ∷ 2 ∷ []) a

-- a rule at every one, two or three symbols, by one computed test over the whole table
rule_1 : (f : ℕ → Bool) → IsTrue (all f 4) → (x : Below 4) → IsTrue (f x.0)
rule_1 f t x = all_at f 4 t x.0 x.1

rule_2 : (f : ℕ → ℕ → Bool) → IsTrue (all (λ a. all (f a) 4) 4) → (x y : Below 4) → IsTrue (f x.0 y.0)
rule_2 f t x y = rule_1 (f x.0) (rule_1 (λ a. all (f a) 4) t x) y

rule_3 : (f : ℕ → ℕ → ℕ → Bool) → IsTrue (all (λ a. all (λ b. all (f a b) 4) 4) 4) → (x y z : Below 4) → IsTrue (f x.0 y.0 z.0)
rule_3 f t x y z = rule_1 (f x.0 y.0) (rule_2 (λ a b. all (f a b) 4) t x y) z

pub four_product : Product 2 product
four_product = record {
  below = λ x y. ltb-true _ _ (rule_2 (λ a b. nat_lt (product a b) 4) refl x y);
  comm = λ x y. eqb-true _ _ (rule_2 (λ a b. product a b == product b a) refl x y);
  assoc = λ x y z. eqb-true _ _ (rule_3 (λ a b c. product (product a b) c == product a (product b c)) refl x y z);
  one = λ x. eqb-true _ _ (rule_1 (λ a. product 1 a == a) refl x);
  spread = λ x y z. eqb-true _ _ (rule_3 (λ a b c. product a (bit_xor b c) == bit_xor (product a b) (product a c)) refl x y z);
}

pub above_one : 1 < 4
above_one = lit< tt

abbrev pub four_marks : Marks 4
four_marks = listed 4 (3 ∷ 2 ∷ 1 ∷ []) refl

abbrev pub four_symbols : Symbols
four_symbols = numbers 4 above_one (binary 2 above_one product four_product) refl refl four_marks

abbrev pub four_value : Four → Below 4
four_value s = residue 4 above_one (four_number s)
