-- The worked run of a ledger, by computation. Assumes nothing.
use Rattle.std.proofs.Common.{◌≡◌, ℕ, zero, suc, ◌<◌, List, [], ◌∷◌, ◌++◌, map, drop, get_or, Some, Ok, refl, take, arith}
use Rattle.field.specs.Below.{Below}
use Rattle.code.specs.Codes.{column}
use Rattle.prime.specs.Five.{five_symbols}
use Rattle.ledger.specs.Calls.{out_count}
use Rattle.ledger.specs.Histories.{Entry, history, size_in_force, told_file}
use Rattle.ledger.specs.Ledgers.{LedgerCall, Ledger, contents, fresh}
use Rattle.ledger.specs.declared.calls.Answer.TheVariants.{Count}
use Rattle.ledger.specs.declared.calls.Call.TheVariants.{Renew, SetUp}
use Rattle.ledger_cases.specs.Worked.{amended, blank, five, worked}
use Rattle.run_cases.specs.Numbers.{in_symbols, ledger_after, small_code}

abbrev pub told : ℕ → List (LedgerCall five_symbols)
told n = map in_symbols (map (λ p. p.0) (take n worked))

abbrev pub start : Ledger five_symbols
start = fresh five_symbols 5 2

abbrev pub past : ℕ → List (Entry five_symbols)
past n = history five_symbols start (told n)

abbrev pub ledger : ℕ → Ledger five_symbols
ledger n = ledger_after (map (λ p. p.0) (take n worked))

-- what the box in place b holds then, where it stands
abbrev pub column_of : ℕ → ℕ → ℕ → Below 5
column_of n b = column small_code (contents five_symbols 1 (ledger n).file) b

-- the buffer of the renewal
abbrev pub halves : List (Below 5)
halves = (get_or (past 36) 28 (SetUp 0, record { answer = Ok (Count 0); buffer = [] })).1.buffer

pub renewed : past 36 ≡ past 28 ++ (Renew 1 (map five (blank 6)), record { answer = Ok (Count 4); buffer = halves }) ∷ drop 29 (past 36)
renewed = refl

pub sized : size_in_force five_symbols (past 28) ≡ Some 1
sized = refl

pub two_out : out_count (ledger 36).state ≡ 2
two_out = refl

pub one_out : out_count (ledger 35).state ≡ 1
one_out = refl

-- the file as it was written last
abbrev pub Amended : ℕ → Type 0
Amended n = (b : ℕ) → b < 3 → (a : ℕ) → a < 2 → told_file five_symbols 1 (past n) b a ≡ contents five_symbols 1 (map five amended) b a

pub amended_36 : Amended 36
amended_36 zero inside zero row = five_symbols.number_same _ _ refl
amended_36 zero inside (suc zero) row = five_symbols.number_same _ _ refl
amended_36 (suc zero) inside zero row = five_symbols.number_same _ _ refl
amended_36 (suc zero) inside (suc zero) row = five_symbols.number_same _ _ refl
amended_36 (suc (suc zero)) inside zero row = five_symbols.number_same _ _ refl
amended_36 (suc (suc zero)) inside (suc zero) row = five_symbols.number_same _ _ refl
amended_36 (suc (suc (suc b))) inside a row = absurd (omega arith)
amended_36 b inside (suc (suc a)) row = absurd (omega arith)

pub amended_35 : Amended 35
amended_35 zero inside zero row = five_symbols.number_same _ _ refl
amended_35 zero inside (suc zero) row = five_symbols.number_same _ _ refl
amended_35 (suc zero) inside zero row = five_symbols.number_same _ _ refl
amended_35 (suc zero) inside (suc zero) row = five_symbols.number_same _ _ refl
amended_35 (suc (suc zero)) inside zero row = five_symbols.number_same _ _ refl
amended_35 (suc (suc zero)) inside (suc zero) row = five_symbols.number_same _ _ refl
amended_35 (suc (suc (suc b))) inside a row = absurd (omega arith)
amended_35 b inside (suc (suc a)) row = absurd (omega arith)
