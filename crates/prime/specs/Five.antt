-- The field of five: the integers modulo 5, with the marks 1, 4, 2, 3. Assumes nothing.
use Rattle.std.specs.Prelude.{ℕ, ◌<◌, if◌then◌else◌, [], ◌∷◌, nat_lt, refl}
use Rattle.std.proofs.Common.{lit<}
use Rattle.field.specs.Marks.{Marks, listed}
use Rattle.field.specs.Symbols.{Symbols}
use Rattle.field.specs.Residues.{integers}
use Rattle.prime.specs.declared.five.Five.{Five}
use Rattle.prime.specs.declared.five.Five.TheVariants.{Zero, One, Two, Three, Four}

abbrev pub five_number : Five → ℕ
five_number Zero = 0
five_number One = 1
five_number Two = 2
five_number Three = 3
five_number Four = 4

-- the symbol of a number below 5
abbrev pub five_of : ℕ → Five
five_of n = (if nat_lt n 1 then Zero else (if nat_lt n 2 then One else (if nat_lt n 3 then Two else (if nat_lt n 4 then Three else Four))))

pub above_one : 1 < 5
above_one = lit< tt

abbrev pub five_marks : Marks 5
five_marks = listed 5 (1 ∷ 4 ∷ 2 ∷ 3 ∷ []) refl

abbrev pub five_symbols : Symbols
five_symbols = integers 5 above_one five_marks
