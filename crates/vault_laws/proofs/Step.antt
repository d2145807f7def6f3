-- A call of a vault goes as the ledger's, whatever the call. Assumes nothing.
use Rattle.std.proofs.Common.{◌≡◌, ℕ, List, length, map, Option, Some, None, Result, Ok, Err, IfOk, OnErr, refl, sym, ap, ◌∙◌, subst}
use Rattle.field.specs.Symbols.{Symbols}
use Rattle.refusal.specs.Refusals.{earliest, refusal}
use Rattle.refusal.specs.declared.Refusal.{Refusal}
use Rattle.refusal.specs.declared.Refusal.TheVariants.{NotSetUp}
use Rattle.shelf.specs.Meaning.{Meaning}
use Rattle.ledger.specs.Calls.{lent, reasons, size_of}
use Rattle.ledger.specs.Ledgers.{LedgerCall, Ledger, Outcome, accept, decide, step}
use Rattle.ledger.specs.declared.calls.Answer.{Answer}
use Rattle.ledger.specs.declared.calls.Call.{Call}
use Rattle.ledger.specs.declared.calls.Call.TheVariants.{SetUp, Put, Amend, Read, Column, Message, Lose, Renew, Rebuild}
use Rattle.ledger.proofs.Steps.{Clear, clear}
use Rattle.vault_calls.specs.Calls.{Accepts, Does, Reply, Unchanged, size_after}
use Rattle.vault_calls.specs.States.{state}
use Rattle.vault_laws.specs.Agreement.{Agrees, told_call, told_reply}
use Rattle.vault_laws.proofs.Agreeing.{size_is}
use Rattle.vault_laws.proofs.Amends.{amend_goes}
use Rattle.vault_laws.proofs.Buffers.{lent_told}
use Rattle.vault_laws.proofs.Going.{Goes}
use Rattle.vault_laws.proofs.Looks.{column_goes, message_goes, read_goes}
use Rattle.vault_laws.proofs.Rebuilds.{rebuild_goes}
use Rattle.vault_laws.proofs.Renews.{renew_goes}
use Rattle.vault_laws.proofs.Verdicts.{same_state, same_verdict}
use Rattle.vault_laws.proofs.Writes.{lose_goes, put_goes, set_up_goes}

module _ (Y : Symbols) {T : Type 0} (value : T → Y.Symbol) (l : Ledger Y) where
  -- an accepted call of a vault that is set up
  each_goes : (m : ℕ) (s s' : Meaning T) → Agrees Y value l (Some m) s → (call : Call T (List T)) (x : Answer) (buffer : List T) → Clear Y l (told_call Y value call) → length buffer ≡ length (lent call)
      → Accepts Y value m s s' call x buffer → Goes Y value (accept Y l (told_call Y value call)) x buffer (size_after call (Some m)) s'
  each_goes m s s' agrees (SetUp k) = set_up_goes Y value l (Some m) m s s' agrees k
  each_goes m s s' agrees (Put file) = put_goes Y value l m s s' agrees file
  each_goes m s s' agrees (Amend b a y work) = amend_goes Y value l m s s' agrees b a y work
  each_goes m s s' agrees (Read into) = read_goes Y value l m s s' agrees into
  each_goes m s s' agrees (Column b into) = column_goes Y value l m s s' agrees b into
  each_goes m s s' agrees (Message helper lost into) = message_goes Y value l m s s' agrees helper lost into
  each_goes m s s' agrees (Lose b) = lose_goes Y value l m s s' agrees b
  each_goes m s s' agrees (Renew b work) = renew_goes Y value l m s s' agrees b work
  each_goes m s s' agrees (Rebuild work) = rebuild_goes Y value l m s s' agrees work

  -- and of any vault: before the set up no other call is accepted
  accepted_goes : (size : Option ℕ) (s s' : Meaning T) → Agrees Y value l size s → (call : Call T (List T)) (x : Answer) (buffer : List T) → Clear Y l (told_call Y value call) → length buffer ≡ length (lent call)
      → Accepts Y value (size_of (state Y size s)) s s' call x buffer → Goes Y value (accept Y l (told_call Y value call)) x buffer (size_after call size) s'
  accepted_goes (Some m) s s' agrees call x buffer free long done =
      let size : size_of (state Y (Some m) s) ≡ m = ap size_of (same_state Y value l m s agrees) ∙ size_is Y value l m s agrees in
      each_goes m s s' agrees call x buffer free long (subst (λ k. Accepts Y value k s s' call x buffer) size done)
  accepted_goes None s s' agrees (SetUp k) x buffer free long done = set_up_goes Y value l None 0 s s' agrees k x buffer free long done
  accepted_goes None s s' agrees call x buffer free long done = absurd (free NotSetUp (sym agrees.sized))

  module _ (size : Option ℕ) (s : Meaning T) (call : Call T (List T)) (r : Reply T) (size' : Option ℕ) (s' : Meaning T) (agrees : Agrees Y value l size s) (does : Does Y value size s call r size' s') where
    abbrev told : LedgerCall Y
    told = told_call Y value call

    -- an outcome is what the vault replies and becomes
    abbrev Matches : Outcome Y → Type 0
    Matches o = (told_reply Y value r ≡ o.reply) × Agrees Y value o.next size' s'

    by_answer : (a : Result Answer Refusal) → r.answer ≡ a → (o : Option Refusal) → refusal a ≡ o → earliest (reasons Y l.state told) ≡ o → Matches (decide Y l o told)
    by_answer (Err why) e o is verdict =
        let u : Unchanged Y value size s call r size' s' = subst (λ a. OnErr a (Unchanged Y value size s call r size' s')) e does.declined in
        subst (λ o. Matches (decide Y l o told)) is (
          λ i. record { answer = e i; buffer = (ap (map value) u.buffer ∙ sym (lent_told Y value call)) i },
          subst (λ n. Agrees Y value l n s') (sym u.vault) (subst (Agrees Y value l size) (sym u.shelf) agrees),
        )
    by_answer (Ok x) e o is verdict =
        let done = subst (λ a. IfOk a (λ x. Accepts Y value (size_of (state Y size s)) s s' call x r.buffer)) e does.accepted in
        let goes = accepted_goes size s s' agrees call x r.buffer (clear Y l told (verdict ∙ sym is)) does.long done in
        subst (λ o. Matches (decide Y l o told)) is (
          λ i. record { answer = (e ∙ sym goes.answer) i; buffer = sym goes.buffer_is i },
          subst (λ n. Agrees Y value (accept Y l told).next n s') (sym (subst (λ a. IfOk a (λ x. size' ≡ size_after call size)) e does.vault)) goes.agrees,
        )

    pub step_goes : (told_reply Y value r ≡ (step Y l told).reply) × Agrees Y value (step Y l told).next size' s'
    step_goes = by_answer r.answer refl _ (does.answer ∙ same_verdict Y value l size s agrees call) refl
