-- Words in bytes: three to a word, the highest first. Assumes nothing.
use Rattle.std.specs.Prelude.{ℕ, ◌+◌, ◌*◌, ◌/◌, ◌%◌, List, [], ◌∷◌, slice_index, slice_set}
use Rattle.prime.specs.declared.words.Words.{Words}
use Rattle.prime.specs.Words.{word_of}

-- the word of any number: that of its remainder
abbrev pub word_at : ℕ → Words
word_at n = word_of (n % 65537)

-- the words of the whole triples
abbrev pub words : List ℕ → List Words
words [] = []
words (x ∷ []) = []
words (x ∷ y ∷ []) = []
words (x ∷ y ∷ z ∷ rest) = word_at (x * 65536 + y * 256 + z) ∷ words rest

-- the number in triple i
abbrev pub number_at : List ℕ → ℕ → ℕ
number_at bytes i = slice_index bytes (3 * i) * 65536 + slice_index bytes (3 * i + 1) * 256 + slice_index bytes (3 * i + 2)

-- the bytes with the number n in triple i
abbrev pub with_number : List ℕ → ℕ → ℕ → List ℕ
with_number bytes i n = slice_set (slice_set (slice_set bytes (3 * i) (n / 65536 % 256)) (3 * i + 1) (n / 256 % 256)) (3 * i + 2) (n % 256)
