-- The transcript of a script: what a ledger answers to its calls, line by line. Assumes nothing.
use Rattle.std.specs.Prelude.{◌≡◌, ℕ, List, map}
use Rattle.field.specs.Symbols.{Symbols}
use Rattle.prime.specs.Five.{five_symbols}
use Rattle.prime.specs.Words.{word_symbols}
use Rattle.four.specs.Four.{four_symbols}
use Rattle.byte_field.specs.Bytes.{byte_symbols}
use Rattle.ledger.specs.Ledgers.{LedgerCall, fresh, replies}
use Rattle.script.specs.Scripts.{ScriptValue}
use Rattle.script.specs.declared.commands.FieldName.{FieldName}
use Rattle.script.specs.declared.commands.FieldName.TheVariants.{Five, Four, Bytes, Words}
use Rattle.transcripts.specs.Lengths.{boxes_for, rows_for}
use Rattle.transcripts.specs.Calls.{calls_of, numbered_call}
use Rattle.transcripts.specs.Lines.{lines, numbered_reply}

-- a field's symbols
abbrev pub symbols_of : FieldName → Symbols
symbols_of Five = five_symbols
symbols_of Four = four_symbols
symbols_of Bytes = byte_symbols
symbols_of Words = word_symbols

-- the bytes are the transcript of the script, over a field with these symbols
pub record IsTranscript (Y : Symbols) (s : ScriptValue) (bytes : List ℕ) : Type 0 where
  -- the script's calls, in symbols of the field
  pub calls : List (LedgerCall Y)
  pub made : map (numbered_call Y) calls ≡ calls_of Y s.m s.commands
  -- the lines of what a new ledger answers to them
  pub printed : bytes ≡ lines s.commands (map (numbered_reply Y) (replies Y (fresh Y (boxes_for s.m) (rows_for s.m)) calls))
