-- The field of words: the integers modulo 65537, with mark j equal to j. Assumes nothing.
use Rattle.std.specs.Prelude.{ℕ, ◌<◌, if◌then◌else◌, nat_lt}
use Rattle.std.proofs.Common.{lit<}
use Rattle.field.specs.Marks.{Marks}
use Rattle.field.specs.Numbers.{counted}
use Rattle.field.specs.Symbols.{Symbols}
use Rattle.field.specs.Residues.{integers}
use Rattle.prime.specs.declared.words.Words.{Words}
use Rattle.prime.specs.declared.words.Words.TheVariants.{Low, Top}

abbrev pub word_number : Words → ℕ
word_number (Low n) = n
word_number Top = 65536

-- the symbol of a number below 65537
abbrev pub word_of : ℕ → Words
word_of n = (if nat_lt n 65536 then Low n else Top)

pub above_one : 1 < 65537
above_one = lit< tt

abbrev pub word_marks : Marks 65537
word_marks = counted 65537 65536 (lit< tt)

abbrev pub word_symbols : Symbols
word_symbols = integers 65537 above_one word_marks
