-- The calls of a script from one on made again and again, by what a ledger answers to them. Assumes nothing.
use Rattle.std.specs.Prelude.{◌≡◌, ℕ, List, ◌++◌, drop, map, take}
use Rattle.std.specs.Fn.{iterate}
use Rattle.field.specs.Symbols.{Symbols}
use Rattle.ledger.specs.Calls.{call_map}
use Rattle.ledger.specs.Histories.{Entry, history}
use Rattle.ledger.specs.Ledgers.{LedgerCall, Ledger, final, fresh}
use Rattle.script.specs.Scripts.{ScriptValue}
use Rattle.transcripts.specs.Lengths.{boxes_for, rows_for}
use Rattle.transcripts.specs.Calls.{calls_of, numbered_call}
use Rattle.transcripts.specs.Lines.{lines, numbered_reply}

module _ (Y : Symbols) where
  -- a ledger, and each call with what it came to the last time
  pub record Round : Type 0 where
    pub ledger : Ledger Y
    pub entries : List (Entry Y)

  -- calls made one after another
  abbrev pub made : Ledger Y → List (LedgerCall Y) → Round
  made l calls = record { ledger = final Y l calls; entries = history Y l calls }

  -- a call once more, with the buffer that it left
  abbrev pub again : Entry Y → LedgerCall Y
  again e = call_map (λ x. x) (λ b. e.1.buffer) e.0

  -- the calls from one on once more, counted from 0
  abbrev pub turn : ℕ → Round → Round
  turn from r =
      let later = made r.ledger (map again (drop from r.entries)) in
      record { ledger = later.ledger; entries = take from r.entries ++ later.entries }

  abbrev pub turns : ℕ → ℕ → Round → Round
  turns from times r = iterate (turn from) times r

  -- The bytes are the lines of what the calls of the script came to the last time, after those from one on were made so many times more.
  -- Set up is number 0.
  pub record IsRounds (s : ScriptValue) (from times : ℕ) (bytes : List ℕ) : Type 0 where
    -- the script's calls, in symbols of the field
    pub calls : List (LedgerCall Y)
    pub are : map (numbered_call Y) calls ≡ calls_of Y s.m s.commands
    pub printed : bytes ≡ lines s.commands (map (λ e. numbered_reply Y e.1) (turns from times (made (fresh Y (boxes_for s.m) (rows_for s.m)) calls)).entries)
