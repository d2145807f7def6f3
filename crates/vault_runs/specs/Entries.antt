-- Calls with buffers of their own, and what they came to, as a program keeps them. Assumes nothing.
use Rattle.std.specs.Prelude.{List, [], map}
use Rattle.std.specs.Global.{Vec}
use Rattle.ledger.specs.Calls.{call_map, lent}
use Rattle.ledger.specs.declared.calls.Call.{Call}
use Rattle.vault_calls.specs.Calls.{Reply}
use Rattle.vault_runs.specs.declared.Entry.{Entry}

module _ {T : Type 0} where
  -- a call with the contents of its buffer
  abbrev pub asked : Call T (Vec T) → Call T (List T)
  asked call = call_map (λ x. x) (λ b. b.items) call

  -- what an entry shows of what its call came to, once it was made
  abbrev pub reply : Entry T → Reply T
  reply e = record { answer = e.answer; buffer = lent (asked e.call) }

  -- the calls of some entries, and what they came to
  abbrev pub calls : List (Entry T) → List (Call T (List T))
  calls entries = map (λ e. asked e.call) entries

  abbrev pub replies : List (Entry T) → List (Reply T)
  replies entries = map reply entries

  -- a call whatever its buffer holds: what it asks for and of which box, row and symbol
  abbrev pub bare : Call T (List T) → Call T (List T)
  bare call = call_map (λ x. x) (λ b. []) call
