-- Entries of a program, as a ledger has them. Assumes nothing.
use Rattle.std.specs.Prelude.{◌≡◌, ℕ, List, Option, map}
use Rattle.field.specs.Symbols.{Symbols}
use Rattle.shelf.specs.Meaning.{Meaning}
use Rattle.ledger.specs.Ledgers.{LedgerCall}
use Rattle.vault_calls.specs.Calls.{Reply}
use Rattle.vault_laws.specs.Agreement.{Agrees, told_call, told_reply}
use Rattle.vault_runs.specs.Entries.{asked, calls, replies, reply}
use Rattle.vault_runs.specs.declared.Entry.{Entry}
use Rattle.transcripts.specs.Lines.{numbered_reply}
use Rattle.transcripts.specs.Rounds.{Round, again}

module _ (Y : Symbols) {T : Type 0} (value : T → Y.Symbol) where
  -- the call of an entry, in symbols of the field
  abbrev pub called : Entry T → LedgerCall Y
  called e = told_call Y value (asked e.call)

  -- what it came to, with symbols by their numbers
  abbrev pub came_to : Entry T → Reply ℕ
  came_to e = numbered_reply Y (told_reply Y value (reply e))

  -- a vault and its entries are as a round of the ledger says: each call has the buffer that it left
  pub record IsAt (r : Round Y) (size : Option ℕ) (s : Meaning T) (entries : List (Entry T)) : Type 0 where
    pub agrees : Agrees Y value r.ledger size s
    pub kept : map (again Y) r.entries ≡ map (told_call Y value) (calls entries)
    pub answered : map (λ e. e.1) r.entries ≡ map (told_reply Y value) (replies entries)
