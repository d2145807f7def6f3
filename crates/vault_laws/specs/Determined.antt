-- Two outcomes of a call are the same, as far as symbols' values go: two symbols of one value are one symbol for a program. Assumes nothing.
use Rattle.std.specs.Prelude.{◌≡◌, ℕ, ◌<◌, List, map, Option, option_map}
use Rattle.field.specs.Symbols.{Symbols}
use Rattle.shelf.specs.Meaning.{IsShelf, Meaning, box_count, is_standing, symbol_at}
use Rattle.ledger.specs.declared.calls.Call.{Call}
use Rattle.vault_calls.specs.Calls.{Does, Reply}

module _ (Y : Symbols) {T : Type 0} (value : T → Y.Symbol) where
  -- two shelves hold the same
  pub record HoldSame (s t : Meaning T) : Type 0 where
    pub boxes : box_count s ≡ box_count t
    pub rows : s.rows ≡ t.rows
    pub stand : (b : ℕ) → is_standing s b ≡ is_standing t b
    pub symbols : (b a : ℕ) → a < s.rows → option_map value (symbol_at s b a) ≡ option_map value (symbol_at t b a)

  -- two outcomes of a call: what it answered and left in its buffer, the size and what the shelf means afterwards
  pub record SameOutcome (r : Reply T) (size' : Option ℕ) (s' : Meaning T) (q : Reply T) (size'' : Option ℕ) (s'' : Meaning T) : Type 0 where
    pub answer : r.answer ≡ q.answer
    pub buffer : map value r.buffer ≡ map value q.buffer
    pub size : size' ≡ size''
    pub shelf : HoldSame s' s''

  -- Whatever a call comes to from one size and one meaning of the shelf, it comes to the same, for any contents of the shelf.
  -- What a shelf means keeps to IsShelf, by the trait's law: so these premises hold of every shelf that a call can leave.
  abbrev pub OneOutcome : Option ℕ → Meaning T → Call T (List T) → Type 0
  OneOutcome size s call =
      (r q : Reply T) (size' size'' : Option ℕ) (s' s'' : Meaning T) → IsShelf s' → IsShelf s''
      → Does Y value size s call r size' s' → Does Y value size s call q size'' s'' → SameOutcome r size' s' q size'' s''
