-- What the law of vaults says of the worked calls. Assumes nothing.
use Rattle.std.proofs.Common.{◌≡◌, ℕ, zero, suc, ◌-◌, ◌^◌, ◌<◌, true, false, List, [], ◌∷◌, ◌++◌, map, drop, slice_get, slice_index, Option, Some, None, Err, refl, sym, ap, ap₂, ◌∙◌, subst, arith}
use Rattle.std.specs.List.{zip}
use Rattle.std.proofs.lemmas.List.{map-append}
use Rattle.std.proofs.lemmas.Option.{same_Some}
use Rattle.field.specs.Below.{Below}
use Rattle.code.specs.Codes.{HasHalves, full}
use Rattle.code.specs.Contents.{parts}
use Rattle.code.specs.Laws.{NoneToSpare}
use Rattle.prime.specs.Five.{five_symbols}
use Rattle.prime.specs.declared.five.Five.{Five}
use Rattle.refusal.specs.declared.Refusal.{Refusal}
use Rattle.shelf.specs.Meaning.{IsShelf, Meaning, box_count, is_out}
use Rattle.stripe.specs.Stripes.{held, stands}
use Rattle.ledger.specs.Histories.{history, told_file}
use Rattle.ledger.specs.Laws.{Least}
use Rattle.ledger.specs.Ledgers.{LedgerCall, Ledger, final, fresh, step}
use Rattle.ledger.specs.Ledgers.{replies as ledger_replies}
use Rattle.ledger.specs.declared.calls.Answer.TheVariants.{Count}
use Rattle.ledger.specs.declared.calls.Call.{Call}
use Rattle.ledger_cases.specs.Worked.{Answers, blank, five, worked}
use Rattle.ledger_cases.specs.Worked.{Reply as WorkedReply}
use Rattle.vault_laws.specs.Agreement.{Agrees, told_call, told_reply}
use Rattle.vault_laws.specs.Laws.{TookHalves, VaultLaw}
use Rattle.vault_laws.proofs.Declining.{calls_are as history_calls}
use Rattle.vault_runs.specs.Entries.{calls, replies, reply}
use Rattle.vault_runs.specs.declared.Entry.{Entry}
use Rattle.run_cases.specs.Numbers.{Another, AreWorked, CameAsWorked, WorkedByLeast, HoldsWorked, RenewedFromFour, came_to, in_symbols, shown, small_code}
use Rattle.run_cases.proofs.Columns.{not_out, out_shown, stands_with}
use Rattle.run_cases.proofs.Told.{calls_are, numbers_are, value, worked_so_far}
use Rattle.run_cases.proofs.Worked.{column_of, halves, ledger, past, renewed, start, told}

-- entries in numbers, by way of the ledger's replies
came : (made : List (Entry Five)) → map came_to made ≡ map (λ r. (r.answer, map five_symbols.number r.buffer)) (map (told_reply five_symbols value) (replies made))
came [] = refl
came (e ∷ made) = ap₂ (λ n ns. (e.answer, n) ∷ ns) (sym (numbers_are (reply e).buffer)) (came made)

-- a history, one call more in its midst
history_split : (l : Ledger five_symbols) (cs : List (LedgerCall five_symbols)) (c : LedgerCall five_symbols) (ds : List (LedgerCall five_symbols))
    → history five_symbols l (cs ++ c ∷ ds) ≡ history five_symbols l cs ++ (c, (step five_symbols (final five_symbols l cs) c).reply) ∷ history five_symbols (step five_symbols (final five_symbols l cs) c).next ds
history_split l [] c ds = refl
history_split l (first ∷ cs) c ds = ap (λ es. (first, (step five_symbols l first).reply) ∷ es) (history_split (step five_symbols l first).next cs c ds)

-- what a ledger replies, in numbers
abbrev numbered : Ledger five_symbols → List (Call ℕ (List ℕ)) → List WorkedReply
numbered l cs = map (λ r. (r.answer, map five_symbols.number r.buffer)) (ledger_replies five_symbols l (map in_symbols cs))

-- the answer to a call is the one beside it
answer_at : (l : Ledger five_symbols) (before after : List (Call ℕ (List ℕ) × WorkedReply)) (call : Call ℕ (List ℕ)) (why : Refusal) (buffer : List ℕ)
    → let steps = before ++ (call, (Err why, buffer)) ∷ after in numbered l (map (λ p. p.0) steps) ≡ map (λ p. p.1) steps
    → (step five_symbols (final five_symbols l (map in_symbols (map (λ p. p.0) before))) (in_symbols call)).reply.answer ≡ Err why
answer_at l [] after call why buffer e =
    let r = (step five_symbols l (in_symbols call)).reply in
    let same : (r.answer, map five_symbols.number r.buffer) ≡ (Err why, buffer) = cc in
    ap (λ (x : WorkedReply). x.0) same
answer_at l (p ∷ before) after call why buffer e =
    let next = (step five_symbols l (in_symbols p.0)).next in
    let steps : List (Call ℕ (List ℕ) × WorkedReply) = before ++ (call, (Err why, buffer)) ∷ after in
    let rest : numbered next (map (λ p. p.0) steps) ≡ map (λ p. p.1) steps = cc in
    answer_at next before after call why buffer rest

module _ (n : ℕ) (s : Meaning Five) (asked made : List (Entry Five)) (size : Option ℕ) (s' : Meaning Five)
    (are : AreWorked n s asked) (law : VaultLaw five_symbols value s (calls asked) (replies made) size s') where
  -- the calls, and the ledger that they are made of at first
  calls_told : map (told_call five_symbols value) (calls asked) ≡ told n
  calls_told = calls_are (calls asked) ∙ ap (map in_symbols) are.calls

  starts : fresh five_symbols (box_count s) s.rows ≡ start
  starts = ap₂ (fresh five_symbols) are.boxes are.rows

  replies_told : map (told_reply five_symbols value) (replies made) ≡ ledger_replies five_symbols start (told n)
  replies_told = law.as_ledger.answered ∙ ap₂ (ledger_replies five_symbols) starts calls_told

  pub as_worked : Answers worked → CameAsWorked n made
  as_worked all = record { replies = came made ∙ ap (map (λ r. (r.answer, map five_symbols.number r.buffer))) replies_told ∙ worked_so_far n all }

  pub past_told : zip (map (told_call five_symbols value) (calls asked)) (map (told_reply five_symbols value) (replies made)) ≡ past n
  past_told = ap₂ zip calls_told replies_told

  pub agrees : Agrees five_symbols value (ledger n) size s'
  agrees = subst (λ (l : Ledger five_symbols). Agrees five_symbols value l size s') (ap₂ (final five_symbols) starts calls_told) law.as_ledger.agrees

  pub declined : Answers worked → WorkedByLeast n
  declined all before after call why buffer e =
      let cs = map in_symbols (map (λ p. p.0) before) in
      let o = step five_symbols (final five_symbols start cs) (in_symbols call) in
      let refused = answer_at start before after call why buffer (subst (λ steps. numbered start (map (λ p. p.0) steps) ≡ map (λ p. p.1) steps) e (worked_so_far n all)) in
      let split = history_split start cs (in_symbols call) (map in_symbols (map (λ p. p.0) after)) in
      let past_is : past n ≡ history five_symbols start cs ++ (in_symbols call, o.reply) ∷ history five_symbols o.next (map in_symbols (map (λ p. p.0) after)) =
      ap (λ steps. history five_symbols start (map in_symbols (map (λ p. p.0) steps))) e
      ∙ ap (history five_symbols start) (ap (map in_symbols) (map-append (λ p. p.0) before ((call, (Err why, buffer)) ∷ after)) ∙ map-append in_symbols (map (λ p. p.0) before) (call ∷ map (λ p. p.0) after)) ∙ split in
      let least = law.declined (history five_symbols start cs) (history five_symbols o.next (map in_symbols (map (λ p. p.0) after))) (in_symbols call) why o.reply.buffer
      (past_told ∙ past_is ∙ (λ i. history five_symbols start cs ++ (in_symbols call, record { answer = refused i; buffer = o.reply.buffer }) ∷ history five_symbols o.next (map in_symbols (map (λ p. p.0) after)))) in
      subst (λ (l : Ledger five_symbols). Least five_symbols l (in_symbols call) why) (ap₂ (final five_symbols) starts (history_calls five_symbols start cs)) least

  -- where it is set up, a box that is not out shows its column of the ledger's file
  module _ (sized : (ledger n).state.size ≡ Some 1) where
    pub set_up : size ≡ Some 1
    set_up = agrees.sized ∙ sized

    -- the vault, by the size that it has
    pub agrees_so : Agrees five_symbols value (ledger n) (Some 1) s'
    agrees_so = subst (λ o. Agrees five_symbols value (ledger n) o s') set_up agrees

    pub out_as : (b : ℕ) → is_out s' b ≡ (ledger n).state.out b
    out_as = agrees.out 1 set_up

    module _ (boxes : (ledger n).state.boxes ≡ 5) (b : ℕ) (inside : b < 5) where
      pub none_shown : (ledger n).state.out (suc b) ≡ true → shown s' (suc b) ≡ None
      none_shown e = out_shown s' (agrees.boxes ∙ boxes) b inside (out_as (suc b) ∙ e)

      module _ (e : (ledger n).state.out (suc b) ≡ false) where
        pub stands_yet : stands s' b ≡ true
        stands_yet = not_out s' (agrees.boxes ∙ boxes) b inside (out_as (suc b) ∙ e)

        pub holds_yet : (a : ℕ) → a < 2 → held five_symbols value 1 0 s' b a ≡ column_of n b a
        holds_yet = agrees.holds 1 set_up b inside stands_yet

        pub column_shown : IsShelf s' → (ledger n).state.rows ≡ 2 → shown s' (suc b) ≡ Some ((column_of n b 0).0 ∷ (column_of n b 1).0 ∷ [])
        column_shown is rows = stands_with s' is (agrees.rows ∙ rows) b (column_of n b) stands_yet holds_yet

-- after 36 calls
module _ (s : Meaning Five) (asked made : List (Entry Five)) (size : Option ℕ) (s' : Meaning Five)
    (are : AreWorked 36 s asked) (law : VaultLaw five_symbols value s (calls asked) (replies made) size s') where
  took : TookHalves five_symbols value (past 28) 1 (map five (blank 6)) halves (Count 4)
  took = law.renewals (past 28) (drop 29 (past 36)) 1 (map five (blank 6)) halves (Count 4) (past_told 36 s asked made size s' are law ∙ renewed)

  one : took.m ≡ 1
  one = sym (same_Some 1 took.m took.set_up)

  has : HasHalves small_code 0 (told_file five_symbols 1 (past 28)) (parts five_symbols (λ x. x) 1 halves)
  has = subst (λ (m : ℕ). HasHalves (full five_symbols m) 0 (told_file five_symbols m (past 28)) (parts five_symbols (λ x. x) (2 ^ (m - 1)) halves)) one took.halves

  none_to_spare : NoneToSpare small_code 0
  none_to_spare = subst (λ (m : ℕ). NoneToSpare (full five_symbols m) 0) one took.none_to_spare

  spared : (h : ℕ) → h < 4 → Another h
  spared h inside =
      let other = none_to_spare h inside 0 (omega arith) (told_file five_symbols 1 (past 28)) in
      record {
        file = other.0;
        others = λ i within apart. ap five_symbols.number (sym (other.1 i within 0 (omega arith) (λ e. absurd (apart e))) ∙ has i within 0 (omega arith)) ∙ number_in i within;
        column = λ same. other.2 (alike other.0 same);
      }
    where
      number_in : (i : ℕ) → i < 4 → five_symbols.number (parts five_symbols (λ x. x) 1 halves i 0) ≡ slice_index (3 ∷ 0 ∷ 4 ∷ 2 ∷ []) i
      number_in zero w = refl
      number_in (suc zero) w = refl
      number_in (suc (suc zero)) w = refl
      number_in (suc (suc (suc zero))) w = refl
      number_in (suc (suc (suc (suc i)))) w = absurd (omega arith)

      alike : (f : ℕ → ℕ → Below 5) → five_symbols.number (f 0 0) ∷ five_symbols.number (f 0 1) ∷ [] ≡ 1 ∷ 2 ∷ [] → (a : ℕ) → a < 2 → told_file five_symbols 1 (past 28) 0 a ≡ f 0 a
      alike f same zero w = five_symbols.number_same _ _ (let e : five_symbols.number (f 0 0) ≡ 1 = cc in sym e)
      alike f same (suc zero) w = five_symbols.number_same _ _ (let e : five_symbols.number (f 0 1) ≡ 2 = cc in sym e)
      alike f same (suc (suc a)) w = absurd (omega arith)

  pub renewed_from_four : Answers worked → RenewedFromFour made
  renewed_from_four all = record { took = ap (λ rs. slice_get rs 28) (as_worked 36 s asked made size s' are law all).replies; none_to_spare = spared }

  pub boxes : IsShelf s' → HoldsWorked s'
  boxes is =
      let out = none_shown 36 s asked made size s' are law refl refl in
      let stand = λ (b : ℕ) (inside : b < 5) (e : (ledger 36).state.out (suc b) ≡ false). column_shown 36 s asked made size s' are law refl refl b inside e is refl in
      record {
        first = out 0 (omega arith) refl;
        second = stand 1 (omega arith) refl;
        third = stand 2 (omega arith) refl;
        fourth = out 3 (omega arith) refl;
        fifth = stand 4 (omega arith) refl;
      }
