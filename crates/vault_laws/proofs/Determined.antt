-- What a call answers and leaves is determined, whatever the boxes hold. Assumes nothing.
use Rattle.std.proofs.Common.{◌≡◌, ℕ, ◌+◌, ◌-◌, ◌*◌, ◌^◌, List, length, map, Option, None, Result, Ok, Err, IfOk, OnErr, refl, sym, ap, ◌∙◌, subst, arith}
use Rattle.std.proofs.lemmas.Option.{none-some, same_Some}
use Rattle.field.specs.Symbols.{Symbols}
use Rattle.code.specs.Laws.{CabinetsStand}
use Rattle.code.specs.Standing.{standing}
use Rattle.refusal.specs.Refusals.{earliest, refusal}
use Rattle.refusal.specs.declared.Refusal.{Refusal}
use Rattle.refusal.specs.declared.Refusal.TheVariants.{NotSetUp, Length, NoBox, NoRow, NotRenewable}
use Rattle.shelf.specs.Meaning.{IsShelf, Meaning}
use Rattle.stripe.specs.Stripes.{stands}
use Rattle.ledger.specs.Calls.{State, lent, reasons, size_of}
use Rattle.ledger.specs.Fitting.{Fits}
use Rattle.ledger.specs.declared.calls.Answer.{Answer}
use Rattle.ledger.specs.declared.calls.Answer.TheVariants.{Done, Count}
use Rattle.ledger.specs.declared.calls.Call.{Call}
use Rattle.ledger.specs.declared.calls.Call.TheVariants.{SetUp, Put, Amend, Read, Column, Message, Lose, Renew, Rebuild}
use Rattle.vault_calls.specs.Calls.{Accepts, Does, Reply, Unchanged, size_after}
use Rattle.vault_calls.specs.States.{state}
use Rattle.vault_laws.specs.Determined.{HoldSame, OneOutcome, SameOutcome}
use Rattle.vault_laws.proofs.Fitting.{Fitted, force_fits, none_fits}
use Rattle.vault_laws.proofs.Halves.{renewed_buffer}
use Rattle.vault_laws.proofs.Holding.{both_are}
use Rattle.vault_laws.proofs.SameBuffers.{amend_buffer, file_buffer, message_buffer}
use Rattle.vault_laws.proofs.SameShelves.{amend_shelf, put_shelf, rebuild_shelf, renew_shelf, set_up_shelf}

module _ (Y : Symbols) {T : Type 0} (value : T → Y.Symbol) where
  -- what an accepted call answers, of a vault of size m
  module _ (m : ℕ) (s : Meaning T) where
    abbrev answer_of : Call T (List T) → Answer
    answer_of (Renew b work) = Count ((3 * m + 1) * 2 ^ (m - 1))
    answer_of (Rebuild work) = Count (3 * m + 2 - standing (stands s) (3 * m + 2))
    answer_of call = Done

    answer_is : (s' : Meaning T) (call : Call T (List T)) (x : Answer) (buffer : List T) → Accepts Y value m s s' call x buffer → x ≡ answer_of call
    answer_is s' (Renew b work) (Count n) buffer did = ap Count did.count
    answer_is s' (Renew b work) Done buffer did = absurd did
    answer_is s' (Rebuild work) (Count n) buffer did = ap Count (omega (arith, did.count))
    answer_is s' (Rebuild work) Done buffer did = absurd did
    answer_is s' call Done buffer did = refl
    answer_is s' call (Count n) buffer did = absurd did

  module _ (cabinets : CabinetsStand Y) (t : State) (s : Meaning T) (fitted : (t.size ≡ None → ⊥) → Fitted Y (size_of t) s) where
    abbrev m : ℕ
    m = size_of t

    module _ (s' s'' : Meaning T) (sound : IsShelf s') (sound' : IsShelf s'') where
      -- the buffers that two accepted calls leave are the same, and so are the shelves
      abbrev SameEnds : List T → List T → Type 0
      SameEnds buffer buffer' = (map value buffer ≡ map value buffer') × HoldSame Y value s' s''

      accepted_same : (call : Call T (List T)) (buffer buffer' : List T) → ((why : Refusal) → Fits Y t why call → ⊥) → length buffer ≡ length (lent call) → length buffer' ≡ length (lent call)
          → Accepts Y value m s s' call (answer_of m s call) buffer → Accepts Y value m s s'' call (answer_of m s call) buffer' → SameEnds buffer buffer'
      accepted_same (SetUp k) buffer buffer' free long long' did did' = (ap (map value) (did.1 ∙ sym did'.1), set_up_shelf Y value s s' s'' did.0 did'.0)
      accepted_same (Put file) buffer buffer' free long long' did did' =
          (ap (map value) (did.1 ∙ sym did'.1), put_shelf Y value m s (fitted (free NotSetUp)) s' s'' sound sound' file did.0 did'.0)
      accepted_same (Amend b a x work) buffer buffer' free long long' did did' =
          let wrong = free Length in
          let box = free NoBox in
          let row = free NoRow in
          let whole : length work ≡ 3 * m * 2 ^ m = grind arith in (
            amend_buffer Y value m s s' s'' buffer buffer' (long ∙ whole) (long' ∙ whole) (b - 1) a (value x) did did',
            amend_shelf Y value m s (fitted (free NotSetUp)) s' s'' sound sound' (b - 1) a (value x) buffer buffer' did did' (grind arith) (grind arith),
          )
      accepted_same (Read into) buffer buffer' free long long' did did' =
          let wrong = free Length in
          let whole : length into ≡ 3 * m * 2 ^ m = grind arith in
          (file_buffer Y value m s s' s'' buffer buffer' (long ∙ whole) (long' ∙ whole) did.file did'.file, both_are Y value s s' s'' did.stays did'.stays)
      accepted_same (Column b into) buffer buffer' free long long' did did' = (ap (map value) (did.column ∙ sym did'.column), both_are Y value s s' s'' did.stays did'.stays)
      accepted_same (Message helper lost into) buffer buffer' free long long' did did' =
          let wrong = free Length in
          let whole : length into ≡ 2 ^ (m - 1) = grind arith in
          (message_buffer Y value m s s' s'' buffer buffer' helper lost (long ∙ whole) (long' ∙ whole) did did', both_are Y value s s' s'' did.stays did'.stays)
      accepted_same (Lose b) buffer buffer' free long long' did did' = (ap (map value) (did.1 ∙ sym did'.1), both_are Y value _ s' s'' did.0 did'.0)
      accepted_same (Renew b work) buffer buffer' free long long' did did' =
          let fits = fitted (free NotSetUp) in
          let wrong = free Length in
          let box = free NoBox in
          let parity = free NotRenewable in
          let whole : length work ≡ 3 * m * 2 ^ m = grind arith in (
            renewed_buffer Y value m fits.some s s' b work buffer _ (long ∙ whole) did _ (λ h j l w. refl)
                ∙ sym (renewed_buffer Y value m fits.some s s'' b work buffer' _ (long' ∙ whole) did' _ (λ h j l w. refl)),
            renew_shelf Y value m s fits s' s'' sound sound' cabinets b work _ _ buffer buffer' did did' (grind arith),
          )
      accepted_same (Rebuild work) buffer buffer' free long long' did did' =
          let wrong = free Length in
          let whole : length work ≡ 3 * m * 2 ^ m = grind arith in (
            file_buffer Y value m s s' s'' buffer buffer' (long ∙ whole) (long' ∙ whole) did.file did'.file,
            rebuild_shelf Y value m s (fitted (free NotSetUp)) s' s'' sound sound' _ _ buffer buffer' did did',
          )

  module _ (cabinets : CabinetsStand Y) (size : Option ℕ) (s : Meaning T) (call : Call T (List T)) where
    -- what the reasons depend on, and what the call answers if it is accepted
    abbrev t : State
    t = state Y size s

    abbrev answer : Answer
    answer = answer_of (size_of t) s call

    module _ (r : Reply T) (size' : Option ℕ) (s' : Meaning T) (does : Does Y value size s call r size' s') where
      unchanged : (why : Refusal) → r.answer ≡ Err why → Unchanged Y value size s call r size' s'
      unchanged why e = subst (λ a. OnErr a (Unchanged Y value size s call r size' s')) e does.declined

      module _ (x : Answer) (e : r.answer ≡ Ok x) where
        did : Accepts Y value (size_of t) s s' call x r.buffer
        did = subst (λ a. IfOk a (λ x. Accepts Y value (size_of t) s s' call x r.buffer)) e does.accepted

        answered : x ≡ answer
        answered = answer_is (size_of t) s s' call x r.buffer did

        accepts : Accepts Y value (size_of t) s s' call answer r.buffer
        accepts = subst (λ x. Accepts Y value (size_of t) s s' call x r.buffer) answered did

        sized : size' ≡ size_after call size
        sized = subst (λ a. IfOk a (λ x. size' ≡ size_after call size)) e does.vault

    pub one_outcome : OneOutcome Y value size s call
    one_outcome r q size' size'' s' s'' sound sound' does does' = by r.answer q.answer refl refl does.answer does'.answer
      where
        by : (a c : Result Answer Refusal) → r.answer ≡ a → q.answer ≡ c → refusal a ≡ earliest (reasons Y t call) → refusal c ≡ earliest (reasons Y t call) → SameOutcome Y value r size' s' q size'' s''
        by (Err why) (Err other) e e' is is' =
            let u = unchanged r size' s' does why e in
            let u' = unchanged q size'' s'' does' other e' in
            record {
              answer = e ∙ ap Err (same_Some why other (is ∙ sym is')) ∙ sym e';
              buffer = ap (map value) (u.buffer ∙ sym u'.buffer);
              size = u.vault ∙ sym u'.vault;
              shelf = both_are Y value s s' s'' u.shelf u'.shelf;
            }
        by (Err why) (Ok y) e e' is is' = absurd (none-some why (is' ∙ sym is))
        by (Ok x) (Err other) e e' is is' = absurd (none-some other (is ∙ sym is'))
        by (Ok x) (Ok y) e e' is is' =
            let same = accepted_same cabinets t s (force_fits Y s size) s' s'' sound sound' call r.buffer q.buffer (none_fits Y t call (sym is)) does.long does'.long
            (accepts r size' s' does x e) (accepts q size'' s'' does' y e') in
            record {
              answer = e ∙ ap Ok (answered r size' s' does x e ∙ sym (answered q size'' s'' does' y e')) ∙ sym e';
              buffer = same.0;
              size = sized r size' s' does x e ∙ sym (sized q size'' s'' does' y e');
              shelf = same.1;
            }
