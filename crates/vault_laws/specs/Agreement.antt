-- A vault beside a ledger. Assumes nothing.
use Rattle.std.specs.Prelude.{◌≡◌, ℕ, List, map, Option, Some}
use Rattle.field.specs.Symbols.{Symbols}
use Rattle.shelf.specs.Meaning.{Meaning, box_count, is_out}
use Rattle.stripe.specs.Stripes.{HoldsFile}
use Rattle.ledger.specs.Calls.{call_map}
use Rattle.ledger.specs.Laws.{IsLedger}
use Rattle.ledger.specs.Ledgers.{LedgerCall, Ledger, contents}
use Rattle.ledger.specs.Ledgers.{Reply as LedgerReply}
use Rattle.ledger.specs.declared.calls.Call.{Call}
use Rattle.vault_calls.specs.Calls.{Reply}

module _ (Y : Symbols) {T : Type 0} (value : T → Y.Symbol) where
  -- a call, and what it came to, in symbols of the field
  abbrev pub told_call : Call T (List T) → LedgerCall Y
  told_call call = call_map value (map value) call

  abbrev pub told_reply : Reply T → LedgerReply Y
  told_reply r = record { answer = r.answer; buffer = map value r.buffer }

  -- a vault is as a ledger says
  pub record Agrees (l : Ledger Y) (size : Option ℕ) (s : Meaning T) : Type 0 where
    pub lawful : IsLedger Y l
    pub boxes : box_count s ≡ l.state.boxes
    pub rows : s.rows ≡ l.state.rows
    pub sized : size ≡ l.state.size
    -- once it is set up, the boxes out are the ledger's, and every other one holds its column of the ledger's file
    pub out : (m : ℕ) → size ≡ Some m → (b : ℕ) → is_out s b ≡ l.state.out b
    pub holds : (m : ℕ) → size ≡ Some m → HoldsFile Y value m 0 s (contents Y m l.file)
