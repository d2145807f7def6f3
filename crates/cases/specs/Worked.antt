-- Cases of the code worked out by hand, against its definitions. Assumes nothing.
use Rattle.std.specs.List.{concat, range_with_len}
use Rattle.std.specs.Prelude.{◌≡◌, ℕ, ◌+◌, ◌-◌, ◌*◌, ◌^◌, List, [], ◌∷◌, ◌++◌, map, replicate, slice_index, slice_set}
use Rattle.std.proofs.Common.{lit<}
use Rattle.field.specs.Below.{Below}
use Rattle.field.specs.Numbers.{residue}
use Rattle.field.specs.Symbols.{Symbols}
use Rattle.code.specs.Codes.{full, column, parity1, parity2, half_for, helper, Given}
use Rattle.code.specs.Standing.{FileOf}
use Rattle.missing.specs.Missing.{stands}
use Rattle.prime.specs.Five.{five_symbols}
use Rattle.prime.specs.Words.{word_symbols}
use Rattle.byte_field.specs.Bytes.{byte_symbols}
use Rattle.four.specs.Four.{four_symbols}

-- f 0 to f (n - 1)
abbrev pub listed : {X : Type 0} → ℕ → (ℕ → X) → List X
listed n f = map f (range_with_len 0 n)

-- symbols go in and out by their numbers
module _ (Y : Symbols) (symbol : ℕ → Y.Symbol) where
  abbrev pub numbers : ℕ → (ℕ → Y.Symbol) → List ℕ
  numbers n C = listed n (λ a. Y.number (C a))

  -- box after box, rows of each in order
  abbrev pub boxes : ℕ → List ℕ → ℕ → ℕ → Y.Symbol
  boxes m xs b a = symbol (slice_index xs (b * 2 ^ m + a))

  -- the two parity columns of a file
  abbrev pub parities : ℕ → List ℕ → List ℕ
  parities m xs = numbers (2 ^ m) (parity1 (full Y m) (boxes m xs)) ++ numbers (2 ^ m) (parity2 (full Y m) (boxes m xs))

  abbrev pub joined : List (List ℕ) → List ℕ
  joined = concat

  -- what the helpers send for the lost box in place x, in rising order
  abbrev pub sent : ℕ → ℕ → List ℕ → List ℕ
  sent m x xs = joined (listed (3 * m + 1) (λ h. numbers (2 ^ (m - 1)) (half_for (full Y m) x (column (full Y m) (boxes m xs) (helper (full Y m) x h)))))

  -- for m = 1, the column that the halves give
  abbrev pub Gives : ℕ → List ℕ → List ℕ → Type 0
  Gives x halves xs = Given (full Y 1) x (λ h j. symbol (slice_index halves (h + j))) (λ a. symbol (slice_index xs a))

  -- for m = 1, with the boxes listed out, the one file that the columns of the others give
  abbrev pub Decodes : List ℕ → List ℕ → List ℕ → Type 0
  Decodes out columns file = FileOf (full Y 1) (stands out) (boxes 1 columns) (boxes 1 file)

abbrev pub five : ℕ → Below 5
five = residue 5 (lit< tt)

abbrev pub four : ℕ → Below 4
four = residue 4 (lit< tt)

abbrev pub byte : ℕ → Below 256
byte = residue 256 (lit< tt)

abbrev pub word : ℕ → Below 65537
word = residue 65537 (lit< tt)

-- five, m = 1: boxes (1,2), (3,4) and (0,1)
abbrev pub small : List ℕ
small = 1 ∷ 2 ∷ 3 ∷ 4 ∷ 0 ∷ 1 ∷ []

pub record Worked : Type 0 where
  pub five_parities : parities five_symbols five 1 small ≡ 4 ∷ 2 ∷ 2 ∷ 1 ∷ []
  pub five_sent_1 : sent five_symbols five 1 0 small ≡ 3 ∷ 0 ∷ 4 ∷ 2 ∷ []
  pub five_box_1 : Gives five_symbols five 0 (3 ∷ 0 ∷ 4 ∷ 2 ∷ []) (1 ∷ 2 ∷ [])
  pub five_sent_3 : sent five_symbols five 1 2 small ≡ 3 ∷ 2 ∷ 1 ∷ 3 ∷ []
  pub five_box_3 : Gives five_symbols five 2 (3 ∷ 2 ∷ 1 ∷ 3 ∷ []) (0 ∷ 1 ∷ [])
  -- whatever stands in the boxes that are out
  pub five_boxes_1_2 : (i j k l : ℕ) → Decodes five_symbols five (1 ∷ 2 ∷ []) (i ∷ j ∷ k ∷ l ∷ 0 ∷ 1 ∷ 4 ∷ 2 ∷ 2 ∷ 1 ∷ []) small
  -- box 1, row 1 amended to 0
  pub five_amended : parities five_symbols five 1 (slice_set small 1 0) ≡ 4 ∷ 0 ∷ 1 ∷ 4 ∷ []
  -- m = 2, zero but for 1 at box 4, row 2
  pub five_single : parities five_symbols five 2 (slice_set (replicate 24 0) 14 1) ≡ 0 ∷ 0 ∷ 1 ∷ 0 ∷ 0 ∷ 0 ∷ 3 ∷ 4 ∷ []
  pub four_lower : parities four_symbols four 1 (1 ∷ 0 ∷ []) ≡ 1 ∷ 0 ∷ 2 ∷ 0 ∷ []
  pub four_upper : parities four_symbols four 1 (0 ∷ 1 ∷ []) ≡ 0 ∷ 1 ∷ 1 ∷ 3 ∷ []
  pub bytes_box_1 : parities byte_symbols byte 1 (0x57 ∷ 0x83 ∷ []) ≡ 0x57 ∷ 0x83 ∷ 0x30 ∷ 0x83 ∷ []
  pub words_box_3 : parities word_symbols word 1 (0 ∷ 0 ∷ 0 ∷ 0 ∷ 65536 ∷ 1 ∷ []) ≡ 65536 ∷ 1 ∷ 65536 ∷ 2 ∷ []
  pub words_box_1 : parities word_symbols word 1 (65536 ∷ 65536 ∷ []) ≡ 65536 ∷ 65536 ∷ 65534 ∷ 65536 ∷ []
