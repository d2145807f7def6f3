-- What buffers hold, in symbols of the field. Assumes nothing.
use Rattle.std.proofs.Common.{◌≡◌, ℕ, ◌+◌, ◌*◌, ◌^◌, List, length, map, slice_index_or, refl, sym, ap, ◌∙◌}
use Rattle.std.proofs.lemmas.List.{length-map, map-id}
use Rattle.field.specs.Symbols.{Symbols}
use Rattle.code.specs.Contents.{parts}
use Rattle.ledger.specs.Calls.{lent}
use Rattle.ledger.specs.Laws.{IsLedger}
use Rattle.ledger.specs.Ledgers.{Ledger, accept, contents}
use Rattle.ledger.specs.declared.calls.Call.{Call}
use Rattle.ledger.specs.declared.calls.Call.TheVariants.{SetUp, Put, Amend, Read, Column, Message, Lose, Renew, Rebuild}
use Rattle.ledger.proofs.Accepted.{lengths}
use Rattle.ledger.proofs.Steps.{Clear}
use Rattle.vault_laws.specs.Agreement.{told_call}

module _ (Y : Symbols) {T : Type 0} (value : T → Y.Symbol) where
  -- the file that a list holds
  pub contents_told : (m : ℕ) (xs : List T) → contents Y m (map value xs) ≡ parts Y value (2 ^ m) xs
  contents_told m xs = ap (λ ys b a. slice_index_or ys (b * 2 ^ m + a) Y.ring.zero) (map-id (map value xs))

  -- the buffer that a call is lent
  pub lent_told : (call : Call T (List T)) → lent (told_call Y value call) ≡ map value (lent call)
  lent_told (SetUp k) = refl
  lent_told (Put file) = refl
  lent_told (Amend b a x work) = refl
  lent_told (Read into) = refl
  lent_told (Column b into) = refl
  lent_told (Message helper lost into) = refl
  lent_told (Lose b) = refl
  lent_told (Renew b work) = refl
  lent_told (Rebuild work) = refl

  -- a buffer that keeps its length has that of the ledger's
  pub long_as : (l : Ledger Y) → IsLedger Y l → (call : Call T (List T)) (buffer : List T) → Clear Y l (told_call Y value call) → length buffer ≡ length (lent call)
      → length buffer ≡ length (accept Y l (told_call Y value call)).reply.buffer
  long_as l lawful call buffer clear long =
      long ∙ sym (lengths Y l lawful (told_call Y value call) clear ∙ ap length (lent_told call) ∙ length-map (lent call) value)
