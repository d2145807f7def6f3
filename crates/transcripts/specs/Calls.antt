-- The calls that a script makes, with symbols by their numbers. Assumes nothing.
use Rattle.std.specs.Prelude.{ℕ, List, ◌∷◌, map, replicate}
use Rattle.field.specs.Symbols.{Symbols}
use Rattle.ledger.specs.Calls.{call_map}
use Rattle.ledger.specs.Ledgers.{LedgerCall}
use Rattle.ledger.specs.declared.calls.Call.{Call}
use Rattle.ledger.specs.declared.calls.Call.TheVariants as calls
use Rattle.script.specs.Scripts.{CommandValue, Put, Amend, Read, Column, Message, Lose, Renew, Rebuild}
use Rattle.transcripts.specs.Lengths.{file_for, half_for, rows_for}

module _ (Y : Symbols) where
  -- so many zeros
  abbrev pub zeros : ℕ → List ℕ
  zeros n = replicate n (Y.number Y.ring.zero)

  -- The call of a command in a cabinet of size m. Its buffer is as long as is wanted, and holds zeros; that of a put is the file.
  abbrev pub call_of : ℕ → CommandValue → Call ℕ (List ℕ)
  call_of m (Put symbols) = calls.Put symbols
  call_of m (Amend data_box row symbol) = calls.Amend data_box row symbol (zeros (file_for m))
  call_of m Read = calls.Read (zeros (file_for m))
  call_of m (Column wanted) = calls.Column wanted (zeros (rows_for m))
  call_of m (Message helper lost) = calls.Message helper lost (zeros (half_for m))
  call_of m (Lose lost) = calls.Lose lost
  call_of m (Renew lost) = calls.Renew lost (zeros (file_for m))
  call_of m Rebuild = calls.Rebuild (zeros (file_for m))

  -- set up, and then each command
  abbrev pub calls_of : ℕ → List CommandValue → List (Call ℕ (List ℕ))
  calls_of m commands = calls.SetUp m ∷ map (call_of m) commands

  -- a call of a ledger, so
  abbrev pub numbered_call : LedgerCall Y → Call ℕ (List ℕ)
  numbered_call call = call_map Y.number (map Y.number) call
