-- An accepted call of a vault goes as the ledger's. Assumes nothing.
use Rattle.std.proofs.Common.{◌≡◌, ℕ, List, map, Option, Ok}
use Rattle.field.specs.Symbols.{Symbols}
use Rattle.shelf.specs.Meaning.{Meaning}
use Rattle.ledger.specs.Ledgers.{Outcome}
use Rattle.ledger.specs.declared.calls.Answer.{Answer}
use Rattle.vault_laws.specs.Agreement.{Agrees}

module _ (Y : Symbols) {T : Type 0} (value : T → Y.Symbol) where
  -- what the ledger comes to is what the vault answers, leaves in its buffer and becomes
  pub record Goes (o : Outcome Y) (x : Answer) (buffer : List T) (size' : Option ℕ) (s' : Meaning T) : Type 0 where
    pub answer : o.reply.answer ≡ Ok x
    pub buffer_is : o.reply.buffer ≡ map value buffer
    pub agrees : Agrees Y value o.next size' s'
