-- The laws of every call. Assumes nothing.
use Rattle.std.proofs.Common.{◌≡◌, length, Ok, refl, ap, ◌∙◌}
use Rattle.field.specs.Symbols.{Symbols}
use Rattle.ledger.specs.Calls.{lent, size_of}
use Rattle.ledger.specs.Laws.{Decided, IsLedger, Leaves}
use Rattle.ledger.specs.Ledgers.{LedgerCall, Ledger, Outcome, accept, contents, step}
use Rattle.ledger.specs.declared.calls.Call.TheVariants.{SetUp, Put, Amend, Read, Column, Message, Lose, Renew, Rebuild}
use Rattle.ledger.proofs.Accepted.{leaves, lengths, still}
use Rattle.ledger.proofs.Steps.{accepted, answered, by_verdict, declined, unchanged}

module _ (Y : Symbols) (l : Ledger Y) where
  boxes : (call : LedgerCall Y) → (accept Y l call).next.state.boxes ≡ l.state.boxes
  boxes (SetUp k) = refl
  boxes (Put file) = refl
  boxes (Amend b a x work) = refl
  boxes (Read into) = refl
  boxes (Column b into) = refl
  boxes (Message helper lost into) = refl
  boxes (Lose b) = refl
  boxes (Renew b work) = refl
  boxes (Rebuild work) = refl

  rows : (call : LedgerCall Y) → (accept Y l call).next.state.rows ≡ l.state.rows
  rows (SetUp k) = refl
  rows (Put file) = refl
  rows (Amend b a x work) = refl
  rows (Read into) = refl
  rows (Column b into) = refl
  rows (Message helper lost into) = refl
  rows (Lose b) = refl
  rows (Renew b work) = refl
  rows (Rebuild work) = refl

  pub boxes_stay : (call : LedgerCall Y) → (step Y l call).next.state.boxes ≡ l.state.boxes
  boxes_stay call = by_verdict Y l call (λ o. o.next.state.boxes ≡ l.state.boxes) (λ why. refl) (λ clear. boxes call)

  pub rows_stay : (call : LedgerCall Y) → (step Y l call).next.state.rows ≡ l.state.rows
  rows_stay call = by_verdict Y l call (λ o. o.next.state.rows ≡ l.state.rows) (λ why. refl) (λ clear. rows call)

  pub still_ledger : IsLedger Y l → (call : LedgerCall Y) → IsLedger Y (step Y l call).next
  still_ledger lawful call = by_verdict Y l call (λ o. IsLedger Y o.next) (λ why. lawful) (still Y l lawful call)

  pub decided : IsLedger Y l → (call : LedgerCall Y) → Decided Y l call (step Y l call)
  decided lawful call = record {
    declined = declined Y l call;
    accepted = λ clear. ap (λ (o : Outcome Y). o.reply.answer) (accepted Y l call clear) ∙ answered Y l call;
    unchanged = unchanged Y l call _;
    leaves = λ x. by_verdict Y l call (λ o. o.reply.answer ≡ Ok x → Leaves Y (size_of l.state) (contents Y (size_of l.state) l.file) call o.reply.buffer o.next.file) (λ why e. cc) (λ clear e. leaves Y l call);
    same_length = by_verdict Y l call (λ o. length o.reply.buffer ≡ length (lent call)) (λ why. refl) (lengths Y l lawful call);
    boxes = boxes_stay call;
    rows = rows_stay call;
    still_ledger = still_ledger lawful call;
  }
