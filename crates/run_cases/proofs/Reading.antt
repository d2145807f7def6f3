-- What is read after the worked calls, by the law of vaults. Assumes nothing.
use Rattle.std.proofs.Common.{◌≡◌, ◌≢◌, ℕ, zero, suc, ◌^◌, ◌<◌, ◌≤◌, false, List, [], ◌∷◌, map, Option, Some, None, Result, Ok, Err, IfOk, OnErr, length, refl, sym, ap, ◌∙◌, subst, arith}
use Rattle.std.proofs.lemmas.Option.{same_Some}
use Rattle.code.specs.Codes.{full}
use Rattle.code.specs.Contents.{parts}
use Rattle.code.specs.Laws.{Same}
use Rattle.prime.specs.Five.{five_number, five_symbols}
use Rattle.prime.specs.declared.five.Five.{Five}
use Rattle.refusal.specs.declared.Refusal.{Refusal}
use Rattle.shelf.specs.Meaning.{IsShelf, Meaning}
use Rattle.ledger.specs.Calls.{State, out_count, size_of}
use Rattle.ledger.specs.Histories.{Entry as Past, told_file}
use Rattle.ledger.specs.declared.calls.Answer.{Answer}
use Rattle.ledger.specs.declared.calls.Answer.TheVariants.{Done, Count}
use Rattle.ledger.specs.declared.calls.Call.TheVariants.{Read}
use Rattle.ledger_cases.specs.Worked.{amended, five}
use Rattle.vault_calls.specs.Calls.{Accepts, Does, Reply, Unchanged}
use Rattle.vault_calls.specs.States.{state}
use Rattle.vault_calls.specs.Vaults.{done as as_answer}
use Rattle.vault_laws.specs.Laws.{AgreeBut, AgreeInAll, ReadOf, VaultLaw}
use Rattle.vault_laws.specs.Runs.{Run}
use Rattle.vault_laws.proofs.Files.{same_list}
use Rattle.vault_laws.proofs.Verdicts.{same_state}
use Rattle.vault_runs.specs.Entries.{calls, replies}
use Rattle.vault_runs.specs.declared.Entry.{Entry}
use Rattle.run_cases.specs.Numbers.{AreWorked, HoldsThree, shown}
use Rattle.run_cases.proofs.Columns.{shown_alike, shown_stands, stands_with}
use Rattle.run_cases.proofs.Lawful.{agrees_so, column_shown, holds_yet, past_told, set_up, stands_yet}
use Rattle.run_cases.proofs.Told.{numbers_are, value}
use Rattle.run_cases.proofs.Worked.{Amended, amended_35, amended_36, column_of, ledger, one_out, two_out}

-- a call that was accepted
pub accepted : (r : Result (Unit {0}) Refusal) → as_answer r ≡ Ok Done → r ≡ Ok tt
accepted (Ok x) e = refl
accepted (Err why) e = cc

-- a read of a vault of size 1
module _ (size : Option ℕ) (s : Meaning Five) (into : List Five) (r : Reply Five) (size' : Option ℕ) (s' : Meaning Five) (does : Does five_symbols value size s (Read into) r size' s') where
  abbrev pub Stays : Type 0
  Stays = (size' ≡ size) × (s' ≡ s)

  pub stays : Stays
  stays = by r.answer does.declined does.accepted does.vault
    where
      by : (a : Result Answer Refusal) → OnErr a (Unchanged five_symbols value size s (Read into) r size' s') → IfOk a (λ x. Accepts five_symbols value (size_of (state five_symbols size s)) s s' (Read into) x r.buffer) → IfOk a (λ x. size' ≡ size) → Stays
      by (Err why) unchanged reads sized = (unchanged.vault, unchanged.shelf)
      by (Ok Done) unchanged reads sized = (sized, reads.stays)
      by (Ok (Count n)) unchanged reads sized = absurd reads

  pub three_stay : HoldsThree size' s' → HoldsThree size s
  three_stay three = subst (λ t. HoldsThree size t) stays.1 (subst (λ o. HoldsThree o s') stays.0 three)

  pub read_of : size ≡ Some 1 → length into ≡ 6 → ReadOf five_symbols value 1 s r
  read_of is long = record { into = into; long = long; size' = size'; s' = s'; does = subst (λ o. Does five_symbols value o s (Read into) r size' s') is does }

-- a buffer that holds the file
in_order : (buffer : List Five) → length buffer ≡ 6 → Same (full five_symbols 1) (parts five_symbols value (2 ^ 1) buffer) (parts five_symbols (λ x. x) (2 ^ 1) (map five amended)) → map five_number buffer ≡ amended
in_order buffer long same = sym (numbers_are buffer) ∙ ap (map five_symbols.number) (same_list five_symbols value 1 buffer (map five amended) long refl same)

module _ (n : ℕ) (s : Meaning Five) (asked made : List (Entry Five)) (size : Option ℕ) (s' : Meaning Five)
    (are : AreWorked n s asked) (law : VaultLaw five_symbols value s (calls asked) (replies made) size s')
    (sized : (ledger n).state.size ≡ Some 1) (few : out_count (ledger n).state ≤ 2) (file : Amended n) where
  is_size : size ≡ Some 1
  is_size = set_up n s asked made size s' are law sized

  few_out : out_count (state five_symbols size s') ≤ 2
  few_out =
      subst (λ (t : State). out_count t ≤ 2)
      (sym (ap (λ o. state five_symbols o s') is_size ∙ same_state five_symbols value (ledger n) 1 s' (agrees_so n s asked made size s' are law sized))) few

  module _ (into : List Five) (r : Reply Five) (size'' : Option ℕ) (s'' : Meaning Five) (does : Does five_symbols value size s' (Read into) r size'' s'') (long : length into ≡ 6) where
    pub newest : (r.answer ≡ Ok Done) × (map five_number r.buffer ≡ amended)
    newest =
        let found = law.newest 1 is_size few_out r (read_of size s' into r size'' s'' does is_size long) in
        let same = subst (λ (h : List (Past five_symbols)). Same (full five_symbols 1) (parts five_symbols value (2 ^ 1) r.buffer) (told_file five_symbols 1 h)) (past_told n s asked made size s' are law) found.1 in
        (found.0, in_order r.buffer (does.long ∙ long) (λ b inside a row. same b inside a row ∙ file b inside a row))

-- after 36 calls, with boxes 1 and 4 out
module _ (s : Meaning Five) (asked made : List (Entry Five)) (size : Option ℕ) (s' : Meaning Five)
    (are : AreWorked 36 s asked) (law : VaultLaw five_symbols value s (calls asked) (replies made) size s')
    (into after : List Five) (r : Result (Unit {0}) Refusal) (size'' : Option ℕ) (s'' : Meaning Five) (does : Does five_symbols value size s' (Read into) (record { answer = as_answer r; buffer = after }) size'' s'') where
  pub reads_newest : length into ≡ 6 → (r ≡ Ok tt) × (map five_number after ≡ amended)
  reads_newest long =
      let found = newest 36 s asked made size s' are law refl (omega (arith, two_out)) amended_36 into _ size'' s'' does long in
      (accepted r found.0, found.1)

-- after 35, and a second vault
module _ (s : Meaning Five) (asked made : List (Entry Five)) (size : Option ℕ) (s' : Meaning Five)
    (are : AreWorked 35 s asked) (law : VaultLaw five_symbols value s (calls asked) (replies made) size s') (is : IsShelf s')
    (t : Meaning Five) (others answers : List (Entry Five)) (other : Option ℕ) (t' : Meaning Five)
    (run : Run five_symbols value (calls others) (replies answers) None t other t') (second : VaultLaw five_symbols value t (calls others) (replies answers) other t') (three : HoldsThree other t') where
  column_35 : (b : ℕ) → b < 5 → (ledger 35).state.out (suc b) ≡ false → shown s' (suc b) ≡ Some ((column_of 35 b 0).0 ∷ (column_of 35 b 1).0 ∷ [])
  column_35 b inside e = column_shown 35 s asked made size s' are law refl refl b inside e is refl

  -- a box that is shown so in both
  record Both (b : ℕ) : Type 0 where
    xs : List ℕ
    here : shown s' (suc b) ≡ Some xs
    there : shown t' (suc b) ≡ Some xs

  both : (b : ℕ) → b < 5 → b ≢ 0 → b ≢ 3 → Both b
  both zero inside nx ny = absurd (nx refl)
  both (suc zero) inside nx ny = record { xs = _; here = column_35 1 inside refl; there = three.second }
  both (suc (suc zero)) inside nx ny = record { xs = _; here = column_35 2 inside refl; there = three.third }
  both (suc (suc (suc zero))) inside nx ny = absurd (ny refl)
  both (suc (suc (suc (suc zero)))) inside nx ny = record { xs = _; here = column_35 4 inside refl; there = three.fifth }
  both (suc (suc (suc (suc (suc b))))) inside nx ny = absurd (omega arith)

  but : AgreeBut five_symbols value 1 s' t' 0 3
  but = record {
    first = λ b inside nx ny. let x = both b inside nx ny in shown_stands s' b x.xs x.here;
    second = λ b inside nx ny. let x = both b inside nx ny in shown_stands t' b x.xs x.there;
    alike = λ b inside nx ny. let x = both b inside nx ny in shown_alike s' t' b (x.here ∙ sym x.there);
  }

  all : AgreeInAll five_symbols value 1 s' t'
  all =
      law.any_boxes t (calls others) (replies answers) t' 1 (set_up 35 s asked made size s' are law refl)
      (subst (λ o. Run five_symbols value (calls others) (replies answers) None t o t') three.set_up run) 0 3 (omega arith) (omega arith) (omega arith) but

  pub fourth : IsShelf t' → (xs : List ℕ) → shown t' 4 ≡ Some xs → xs ≡ 4 ∷ 0 ∷ []
  fourth sound xs e =
      let a = second.as_ledger.agrees in
      let rows = a.rows ∙ (a.lawful.set_up 1 (sym a.sized ∙ three.set_up)).rows in
      let stand = shown_stands t' 3 xs e in
      let here = stands_yet 35 s asked made size s' are law refl refl 3 (omega arith) refl in
      let holds = holds_yet 35 s asked made size s' are law refl refl 3 (omega arith) refl in
      same_Some xs (4 ∷ 0 ∷ []) (sym e ∙ stands_with t' sound rows 3 (column_of 35 3) stand (λ i row. sym (all.boxes 3 (omega arith) here stand i row) ∙ holds i row))

  -- both are read, one after the other, into one buffer
  module _ (into between after : List Five) (a : Result Answer Refusal) (q : Result (Unit {0}) Refusal) (size'' other'' : Option ℕ) (s'' t'' : Meaning Five)
      (does : Does five_symbols value size s' (Read into) (record { answer = a; buffer = between }) size'' s'')
      (does' : Does five_symbols value other t' (Read between) (record { answer = as_answer q; buffer = after }) other'' t'') where
    pub reads_alike : length into ≡ 6 → (q ≡ Ok tt) × (map five_number after ≡ amended)
    reads_alike long =
        let mine = newest 35 s asked made size s' are law refl (omega (arith, one_out)) amended_35 into _ size'' s'' does long in
        let found = all.read _ _ (read_of size s' into _ size'' s'' does (set_up 35 s asked made size s' are law refl) long) (read_of other t' between _ other'' t'' does' three.set_up (does.long ∙ long)) in
        (accepted q found.1, sym (numbers_are after) ∙ ap (map five_symbols.number) (sym found.2) ∙ numbers_are between ∙ mine.1)
