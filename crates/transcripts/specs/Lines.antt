-- The lines of a transcript, from what its calls came to, with symbols by their numbers. Assumes nothing.
use Rattle.std.specs.Prelude.{ℕ, List, [], ◌∷◌, ◌++◌, map, codes, Result, Ok, Err}
use Rattle.std.specs.Fmt.{decimal}
use Rattle.field.specs.Symbols.{Symbols}
use Rattle.refusal.specs.declared.Refusal.{Refusal}
use Rattle.ledger.specs.Ledgers.{Reply as LedgerReply}
use Rattle.ledger.specs.declared.calls.Answer.{Answer}
use Rattle.ledger.specs.declared.calls.Answer.TheVariants.{Done, Count}
use Rattle.script.specs.Scripts.{CommandValue, Read, Column, Message, letter, line}
use Rattle.script.specs.Transcripts.{status}
use Rattle.vault_calls.specs.Calls.{Reply}

-- what a call of a ledger came to, with symbols by their numbers
abbrev pub numbered_reply : (Y : Symbols) → LedgerReply Y → Reply ℕ
numbered_reply Y r = record { answer = r.answer; buffer = map Y.number r.buffer }

-- the symbols that a command's line has, of those in the buffer of its call
abbrev pub shown : CommandValue → List ℕ → List ℕ
shown Read buffer = buffer
shown (Column wanted) buffer = buffer
shown (Message helper lost) buffer = buffer
shown c buffer = []

-- the numbers that it has behind the status
abbrev pub answered : CommandValue → Result Answer Refusal → List ℕ → List ℕ
answered c (Ok (Count n)) buffer = n ∷ []
answered c (Ok Done) buffer = shown c buffer
answered c (Err why) buffer = []

-- the line of set up, and that of a command
abbrev pub set_up_line : Reply ℕ → List ℕ
set_up_line r = line (codes "S" ∷ decimal (status r.answer) ∷ [])

abbrev pub command_line : CommandValue → Reply ℕ → List ℕ
command_line c r = line ((letter c ∷ []) ∷ map decimal (status r.answer ∷ answered c r.answer r.buffer))

-- the lines of commands, each with what its call came to
abbrev pub command_lines : List CommandValue → List (Reply ℕ) → List ℕ
command_lines (c ∷ commands) (r ∷ replies) = command_line c r ++ command_lines commands replies
command_lines commands replies = []

-- the lines of set up and of the commands
abbrev pub lines : List CommandValue → List (Reply ℕ) → List ℕ
lines commands (first ∷ replies) = set_up_line first ++ command_lines commands replies
lines commands [] = []
