-- What each call comes to. Assumes nothing.
use Rattle.std.proofs.Common.{◌≡◌, Some, None, Ok, Err, Option, ◌↔◌, refl, sym, ap, ◌∙◌}
use Rattle.field.specs.Symbols.{Symbols}
use Rattle.refusal.specs.Refusals.{earliest}
use Rattle.refusal.specs.declared.Refusal.{Refusal}
use Rattle.ledger.specs.Calls.{lent, reasons}
use Rattle.ledger.specs.Fitting.{Fits}
use Rattle.ledger.specs.Laws.{Least, answers}
use Rattle.ledger.specs.Ledgers.{LedgerCall, Ledger, Outcome, accept, decide, step}
use Rattle.ledger.specs.declared.calls.Answer.{Answer}
use Rattle.ledger.specs.declared.calls.Call.TheVariants.{SetUp, Put, Amend, Read, Column, Message, Lose, Renew, Rebuild}
use Rattle.ledger.proofs.Fitted.{among, are_tests, fits, rises, tests}
use Rattle.ledger.proofs.Reasons.{earliest_among, earliest_least, earliest_none, judged, least_earliest, none_among}

module _ (Y : Symbols) (l : Ledger Y) where
  pub answered : (call : LedgerCall Y) → (accept Y l call).reply.answer ≡ Ok (answers Y l call)
  answered (SetUp k) = refl
  answered (Put file) = refl
  answered (Amend b a x work) = refl
  answered (Read into) = refl
  answered (Column b into) = refl
  answered (Message helper lost into) = refl
  answered (Lose b) = refl
  answered (Renew b work) = refl
  answered (Rebuild work) = refl

  module _ (call : LedgerCall Y) where
    -- the verdict shows in the answer
    refused : (o : Option Refusal) (why : Refusal) → (decide Y l o call).reply.answer ≡ Err why → o ≡ Some why
    refused (Some w) why e = cc
    refused None why e = let a = answered call in cc

    pub passed : (o : Option Refusal) (x : Answer) → (decide Y l o call).reply.answer ≡ Ok x → o ≡ None
    passed (Some w) x e = cc
    passed None x e = refl

    pub unchanged : (o : Option Refusal) (why : Refusal) → (decide Y l o call).reply.answer ≡ Err why → ((decide Y l o call).reply.buffer ≡ lent call) × ((decide Y l o call).next ≡ l)
    unchanged (Some w) why e = (refl, refl)
    unchanged None why e = let a = answered call in absurd cc

    -- it is the earliest of the reasons
    verdict : (o : Option Refusal) → earliest (reasons Y l.state call) ≡ o → earliest (judged (tests Y l.state Y.Symbol call)) ≡ o
    verdict o e = ap earliest (sym (are_tests Y l.state Y.Symbol call)) ∙ e

    least : (why : Refusal) → earliest (reasons Y l.state call) ≡ Some why → Least Y l call why
    least why e =
        let v = verdict (Some why) e in
        record {
          fits = fits Y l.state Y.Symbol call why (earliest_among _ why v);
          least = λ other f. earliest_least _ 1 (rises Y l.state Y.Symbol call) why v other (among Y l.state Y.Symbol call other f);
        }

    verdict_of : (why : Refusal) → Least Y l call why → earliest (reasons Y l.state call) ≡ Some why
    verdict_of why h =
        ap earliest (are_tests Y l.state Y.Symbol call)
        ∙ least_earliest _ 1 (rises Y l.state Y.Symbol call) why (among Y l.state Y.Symbol call why h.fits) (λ other a. h.least other (fits Y l.state Y.Symbol call other a))

    -- no refusal fits
    abbrev pub Clear : Type 0
    Clear = (why : Refusal) → Fits Y l.state why call → ⊥

    pub clear : earliest (reasons Y l.state call) ≡ None → Clear
    clear e why f = none_among _ (verdict None e) why (among Y l.state Y.Symbol call why f)

    pub cleared : Clear → earliest (reasons Y l.state call) ≡ None
    cleared h = ap earliest (are_tests Y l.state Y.Symbol call) ∙ earliest_none _ (λ why a. h why (fits Y l.state Y.Symbol call why a))

    -- what holds of an outcome if it is declined and if it is accepted
    module _ (P : Outcome Y → Type 0) (no : (why : Refusal) → P (decide Y l (Some why) call)) (yes : Clear → P (accept Y l call)) where
      by : (o : Option Refusal) → earliest (reasons Y l.state call) ≡ o → P (decide Y l o call)
      by (Some why) e = no why
      by None e = yes (clear e)

      pub by_verdict : P (step Y l call)
      by_verdict = by (earliest (reasons Y l.state call)) refl

    pub declined : (why : Refusal) → ((step Y l call).reply.answer ≡ Err why) ↔ Least Y l call why
    declined why = (λ e. least why (refused _ why e), λ h. ap (λ o. (decide Y l o call).reply.answer) (verdict_of why h))

    pub accepted : Clear → step Y l call ≡ accept Y l call
    accepted h = ap (λ o. decide Y l o call) (cleared h)
