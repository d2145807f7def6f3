-- The ledger: what a vault holds, told by its calls alone, what it answers to each and what it leaves in the buffer. Assumes nothing.
use Rattle.std.specs.Prelude.{ℕ, ◌+◌, ◌-◌, ◌*◌, Bool, false, not, ◌&&◌, ◌||◌, ◌==◌, List, [], ◌∷◌, ◌++◌, map, drop, replicate, slice_set, Option, Some, None, Result, Ok, Err}
use Rattle.std.specs.List.{flat_map, range_with_len}
use Rattle.field.specs.Symbols.{Symbols}
use Rattle.code.specs.Codes.{column, full, half_for, helper}
use Rattle.code.specs.Contents.{parts}
use Rattle.refusal.specs.Refusals.{earliest}
use Rattle.refusal.specs.declared.Refusal.{Refusal}
use Rattle.ledger.specs.Calls.{State, column_length, file_length, half_length, lent, out_count, reasons, size_of}
use Rattle.ledger.specs.declared.calls.Answer.{Answer}
use Rattle.ledger.specs.declared.calls.Answer.TheVariants.{Done, Count}
use Rattle.ledger.specs.declared.calls.Call.{Call}
use Rattle.ledger.specs.declared.calls.Call.TheVariants.{SetUp, Put, Amend, Read, Column, Message, Lose, Renew, Rebuild}

-- f 0 to f (n - 1)
abbrev pub listed : {X : Type 0} → ℕ → (ℕ → X) → List X
listed n f = map f (range_with_len 0 n)

module _ (Y : Symbols) where
  -- a call with the contents of its buffer
  abbrev pub LedgerCall : Type 0
  LedgerCall = Call Y.Symbol (List Y.Symbol)

  pub record Ledger : Type 0 where
    pub state : State
    pub file : List Y.Symbol

  -- what a call answers, and what its buffer holds afterwards (nothing if it was lent none)
  pub record Reply : Type 0 where
    pub answer : Result Answer Refusal
    pub buffer : List Y.Symbol

  -- what a call comes to
  pub record Outcome : Type 0 where
    pub reply : Reply
    pub next : Ledger

  -- box after box of a file, from place 0, rows of each in order
  abbrev pub contents : ℕ → List Y.Symbol → ℕ → ℕ → Y.Symbol
  contents m file = parts Y (λ x. x) (column_length m) file

  -- the column of box b
  abbrev pub column_in : ℕ → List Y.Symbol → ℕ → List Y.Symbol
  column_in m file b = listed (column_length m) (column (full Y m) (contents m file) (b - 1))

  -- the half of the column of the box in place d, from 0, for the lost box in place x
  abbrev pub half_in : ℕ → List Y.Symbol → ℕ → ℕ → List Y.Symbol
  half_in m file x d = listed (half_length m) (half_for (full Y m) x (column (full Y m) (contents m file) d))

  -- the halves of all helpers of a lost box, in rising order
  abbrev pub halves_in : ℕ → List Y.Symbol → ℕ → List Y.Symbol
  halves_in m file x = flat_map (λ h. half_in m file x (helper (full Y m) x h)) (range_with_len 0 (3 * m + 1))

  -- zero in each place
  abbrev pub zeros : ℕ → List Y.Symbol
  zeros n = replicate n Y.ring.zero

  module _ (l : Ledger) where
    abbrev m : ℕ
    m = size_of l.state

    abbrev with_out : (ℕ → Bool) → Ledger
    with_out out = record l { state = record l.state { out = out } }

    abbrev with_file : List Y.Symbol → Ledger
    with_file file = record l { file = file }

    abbrev set_up : ℕ → Ledger
    set_up k = record { state = record l.state { size = Some k; out = λ b. false }; file = zeros (file_length k) }

    -- the file with the symbol x in row a of data box b
    abbrev amended : ℕ → ℕ → Y.Symbol → List Y.Symbol
    amended b a x = slice_set l.file ((b - 1) * column_length m + a) x

    abbrev outcome : Answer → List Y.Symbol → Ledger → Outcome
    outcome answer buffer next = record { reply = record { answer = Ok answer; buffer = buffer }; next = next }

    -- what a call comes to that is not declined
    abbrev pub accept : LedgerCall → Outcome
    accept (SetUp k) = outcome Done [] (set_up k)
    accept (Put file) = outcome Done file (with_file file)
    accept (Amend b a x work) = outcome Done (amended b a x) (with_file (amended b a x))
    accept (Read into) = outcome Done l.file l
    accept (Column b into) = outcome Done (column_in m l.file b) l
    accept (Message helper lost into) = outcome Done (half_in m l.file (lost - 1) (helper - 1)) l
    accept (Lose b) = outcome Done [] (with_out (λ d. b == d || l.state.out d))
    accept (Renew b work) =
        outcome (Count ((3 * m + 1) * half_length m)) (halves_in m l.file (b - 1) ++ drop ((3 * m + 1) * half_length m) work)
        (with_out (λ d. not (b == d) && l.state.out d))
    accept (Rebuild work) = outcome (Count (out_count l.state)) l.file (with_out (λ d. false))

    -- what it comes to by the verdict on it: the refusal that declines it, if there is one
    abbrev pub decide : Option Refusal → LedgerCall → Outcome
    decide (Some why) call = record { reply = record { answer = Err why; buffer = lent call }; next = l }
    decide None call = accept call

    abbrev pub step : LedgerCall → Outcome
    step call = decide (earliest (reasons Y l.state call)) call

  -- with n boxes of k rows, before the first call
  abbrev pub fresh : ℕ → ℕ → Ledger
  fresh n k = record { state = record { boxes = n; rows = k; size = None; out = λ b. false }; file = [] }

  -- the ledger after calls one after another, and what each came to
  abbrev pub final : Ledger → List LedgerCall → Ledger
  final l [] = l
  final l (call ∷ calls) = final (step l call).next calls

  abbrev pub replies : Ledger → List LedgerCall → List Reply
  replies l [] = []
  replies l (call ∷ calls) = (step l call).reply ∷ replies (step l call).next calls
