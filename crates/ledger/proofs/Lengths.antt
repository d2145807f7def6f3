-- A call is judged by the length of its buffer alone, whatever symbols are in it. Assumes nothing.
use Rattle.std.proofs.Common.{◌≡◌, List, map, refl}
use Rattle.std.proofs.lemmas.List.{length-map}
use Rattle.field.specs.Symbols.{Symbols}
use Rattle.ledger.specs.Calls.{State, call_map, reasons}
use Rattle.ledger.specs.declared.calls.Call.{Call}
use Rattle.ledger.specs.declared.calls.Call.TheVariants.{SetUp, Put, Amend, Read, Column, Message, Lose, Renew, Rebuild}

module _ {S T : Type 0} (f : S → T) (Y : Symbols) (s : State) where
  pub same_reasons : (call : Call S (List S)) → reasons Y s (call_map f (map f) call) ≡ reasons Y s call
  same_reasons (SetUp k) = refl
  same_reasons (Put file) = simp (length-map)
  same_reasons (Amend b a x work) = simp (length-map)
  same_reasons (Read into) = simp (length-map)
  same_reasons (Column b into) = simp (length-map)
  same_reasons (Message helper lost into) = simp (length-map)
  same_reasons (Lose b) = refl
  same_reasons (Renew b work) = simp (length-map)
  same_reasons (Rebuild work) = simp (length-map)
