-- The worked calls on vaults over the field of five, and what a vault shows of them, in numbers. Assumes nothing.
use Rattle.std.specs.Prelude.{◌≡◌, ◌≢◌, ℕ, ◌<◌, List, [], ◌∷◌, ◌++◌, map, slice_get, slice_index, take, Option, Some, None, Ok, Err}
use Rattle.std.specs.Option.{option_map}
use Rattle.field.specs.Below.{Below}
use Rattle.code.specs.Codes.{Code, File, column, full, half_for, helper}
use Rattle.prime.specs.Five.{five_number, five_symbols}
use Rattle.prime.specs.declared.five.Five.{Five}
use Rattle.refusal.specs.declared.Refusal.{Refusal}
use Rattle.shelf.specs.Meaning.{Meaning, box_count}
use Rattle.shelf.specs.Meaning.{column as box_column}
use Rattle.ledger.specs.Calls.{call_map, lent}
use Rattle.ledger.specs.Laws.{Least}
use Rattle.ledger.specs.Ledgers.{LedgerCall, Ledger, final, fresh}
use Rattle.ledger.specs.declared.calls.Answer.TheVariants.{Count}
use Rattle.ledger.specs.declared.calls.Call.{Call}
use Rattle.ledger_cases.specs.Worked.{Reply, five, worked}
use Rattle.vault_runs.specs.Entries.{asked, calls}
use Rattle.vault_runs.specs.declared.Entry.{Entry}

abbrev pub in_numbers : Call Five (List Five) → Call ℕ (List ℕ)
in_numbers call = call_map five_number (map five_number) call

-- entries have the first n of the worked calls, and the shelf that they are made on five boxes of two rows
pub record AreWorked (n : ℕ) (s : Meaning Five) (entries : List (Entry Five)) : Type 0 where
  pub calls : map in_numbers (calls entries) ≡ map (λ p. p.0) (take n worked)
  pub boxes : box_count s ≡ 5
  pub rows : s.rows ≡ 2

abbrev pub came_to : Entry Five → Reply
came_to e = (e.answer, map five_number (lent (asked e.call)))

-- calls in symbols of the field, and the ledger that a new vault over such a shelf is as, after them
abbrev pub in_symbols : Call ℕ (List ℕ) → LedgerCall five_symbols
in_symbols call = call_map five (map five) call

abbrev pub ledger_after : List (Call ℕ (List ℕ)) → Ledger five_symbols
ledger_after calls = final five_symbols (fresh five_symbols 5 2) (map in_symbols calls)

-- they came to what was worked out
pub record CameAsWorked (n : ℕ) (entries : List (Entry Five)) : Type 0 where
  pub replies : map came_to entries ≡ map (λ p. p.1) (take n worked)

-- each of the first n that was declined was declined by the least number of those that fit
abbrev pub WorkedByLeast : ℕ → Type 0
WorkedByLeast n =
    (before after : List (Call ℕ (List ℕ) × Reply)) (call : Call ℕ (List ℕ)) (why : Refusal) (buffer : List ℕ) → take n worked ≡ before ++ (call, (Err why, buffer)) ∷ after
    → Least five_symbols (ledger_after (map (λ p. p.0) before)) (in_symbols call) why

-- what box b holds, if it stands
abbrev pub shown : Meaning Five → ℕ → Option (List ℕ)
shown s b = option_map (map five_number) (box_column s b)

-- boxes 1 and 4 are out, and the others hold their columns of the amended file
pub record HoldsWorked (s : Meaning Five) : Type 0 where
  pub first : shown s 1 ≡ None
  pub second : shown s 2 ≡ Some (3 ∷ 4 ∷ [])
  pub third : shown s 3 ≡ Some (0 ∷ 1 ∷ [])
  pub fourth : shown s 4 ≡ None
  pub fifth : shown s 5 ≡ Some (1 ∷ 4 ∷ [])

-- a vault set up with m = 1 whose boxes 2, 3 and 5 hold what they hold of the amended file
pub record HoldsThree (size : Option ℕ) (s : Meaning Five) : Type 0 where
  pub set_up : size ≡ Some 1
  pub second : shown s 2 ≡ Some (3 ∷ 4 ∷ [])
  pub third : shown s 3 ≡ Some (0 ∷ 1 ∷ [])
  pub fifth : shown s 5 ≡ Some (1 ∷ 4 ∷ [])

abbrev pub small_code : Code (Below 5)
small_code = full five_symbols 1

-- the number that the helper in place h, box h + 2, sends for the lost box 1 of a file
abbrev pub sent : File small_code → ℕ → ℕ
sent f h = five_symbols.number (half_for small_code 0 (column small_code f (helper small_code 0 h)) 0)

-- A file of which the helpers send 3, 0, 4 and 2, as they do in the worked renewal, but for the one in place h: and whose
-- box 1 does not hold (1,2), which that renewal put there.
pub record Another (h : ℕ) : Type 0 where
  pub file : File small_code
  pub others : (i : ℕ) → i < 4 → i ≢ h → sent file i ≡ slice_index (3 ∷ 0 ∷ 4 ∷ 2 ∷ []) i
  pub column : five_symbols.number (file 0 0) ∷ five_symbols.number (file 0 1) ∷ [] ≢ 1 ∷ 2 ∷ []

-- the renewal, call 29, took four numbers, which are at the front of its buffer, and none of them can be spared
pub record RenewedFromFour (entries : List (Entry Five)) : Type 0 where
  pub took : slice_get (map came_to entries) 28 ≡ Some (Ok (Count 4), 3 ∷ 0 ∷ 4 ∷ 2 ∷ 4 ∷ 4 ∷ [])
  pub none_to_spare : (h : ℕ) → h < 4 → Another h
