-- A vault of a program, by its size and what its shelf means. Assumes nothing.
use Rattle.std.specs.Prelude.{ℕ, List, Result, Ok, Err}
use Rattle.field.specs.Symbols.{Symbols}
use Rattle.refusal.specs.declared.Refusal.{Refusal}
use Rattle.shelf.specs.Meaning.{Meaning}
use Rattle.ledger.specs.Calls.{State}
use Rattle.ledger.specs.declared.calls.Answer.{Answer}
use Rattle.ledger.specs.declared.calls.Answer.TheVariants.{Done, Count}
use Rattle.ledger.specs.declared.calls.Call.{Call}
use Rattle.vault_calls.specs.Calls.{Does}
use Rattle.vault_calls.specs.States.{state}
use Rattle.vault_calls.specs.declared.Vault.{Vault}

-- what a call answers that answers nothing, or a count
abbrev pub done : Result (Unit {0}) Refusal → Result Answer Refusal
done (Ok x) = Ok Done
done (Err why) = Err why

abbrev pub counted : Result ℕ Refusal → Result Answer Refusal
counted (Ok n) = Ok (Count n)
counted (Err why) = Err why

module _ (Y : Symbols) {T S : Type 0} (meaning : S → Meaning T) where
  abbrev pub state_of : Vault S T → State
  state_of v = state Y v.size (meaning v.shelf)

module _ (Y : Symbols) {T S : Type 0} (value : T → Y.Symbol) (meaning : S → Meaning T) where
  -- the call takes the vault v to w, with this answer, and leaves this in its buffer
  abbrev pub Did : Vault S T → Call T (List T) → Result Answer Refusal → List T → Vault S T → Type 0
  Did v call answer buffer w = Does Y value v.size (meaning v.shelf) call (record { answer = answer; buffer = buffer }) w.size (meaning w.shelf)
