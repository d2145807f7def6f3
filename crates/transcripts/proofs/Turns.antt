-- A vault whose calls are made again goes on as its ledger. Assumes nothing.
use Rattle.std.proofs.Common.{◌≡◌, ℕ, zero, suc, ◌+◌, ◌-◌, List, [], ◌∷◌, ◌++◌, length, map, min, drop, take, Option, refl, sym, ap, ap₂, ◌∙◌, subst, arith, add-one}
use borrow.Rule.Slice.PartMut.{put_mid}
use Rattle.std.specs.List.{zip}
use Rattle.std.specs.Fn.{iterate}
use Rattle.std.proofs.lemmas.List.{append-nil, drop-map, drop_all, drop_min, length-drop, map-append, take-map, take_all, take_min}
use Rattle.std.proofs.lemmas.Simd.{map-map}
use Rattle.std.proofs.lemmas.Slice.Zip.{seconds-zip}
use Rattle.field.specs.Symbols.{Symbols}
use Rattle.shelf.specs.Meaning.{Meaning, box_count}
use Rattle.ledger.specs.Calls.{call_map, lent}
use Rattle.ledger.specs.Histories.{history}
use Rattle.ledger.specs.Ledgers.{LedgerCall, Ledger, final, fresh, step}
use Rattle.ledger.specs.Ledgers.{replies as ledger_replies}
use Rattle.ledger.specs.declared.calls.Call.{Call}
use Rattle.ledger.specs.declared.calls.Call.TheVariants.{SetUp, Put, Amend, Read, Column, Message, Lose, Renew, Rebuild}
use Rattle.script.specs.Scripts.{ScriptValue}
use Rattle.vault_laws.specs.Agreement.{Agrees, told_call, told_reply}
use Rattle.vault_laws.specs.Laws.{VaultLaw}
use Rattle.vault_laws.specs.Runs.{Run}
use Rattle.vault_laws.proofs.Followed.{follows}
use Rattle.vault_runs.specs.Entries.{asked, bare, calls, replies, reply}
use Rattle.vault_runs.specs.declared.Entry.{Entry}
use Rattle.transcripts.specs.Lengths.{IsShelfFor, boxes_for, rows_for}
use Rattle.transcripts.specs.Calls.{calls_of, numbered_call}
use Rattle.transcripts.specs.Lines.{lines, numbered_reply}
use Rattle.transcripts.specs.Entries.{IsAt, called, came_to}
use Rattle.transcripts.specs.Rounds.{IsRounds, Round, again, made, turn, turns}
use Rattle.transcripts.specs.Transcripts.{IsTranscript}

-- one turn more, at the end
pub iterate-more : {A : Type 0} (h : A → A) (n : ℕ) (x : A) → iterate h (n + 1) x ≡ h (iterate h n x)
iterate-more {A = A} h n x = ap (λ k. iterate h k x) (add-one n) ∙ last n x
  where
    last : (n : ℕ) (x : A) → iterate h (suc n) x ≡ h (iterate h n x)
    last zero x = refl
    last (suc n) x = last n (h x)

-- a slice from a place to the end, and the list with others there
module _ {X : Type 0} (m from : ℕ) (xs : List X) (is : m ≡ min from (length xs)) where
  pub from_on : take (length xs - m) (drop m xs) ≡ drop from xs
  from_on = take_all _ _ (omega (arith, length-drop m xs)) ∙ ap (λ k. drop k xs) is ∙ drop_min from xs

  pub put_from_on : (ys : List X) → put_mid m (length xs - m) xs ys ≡ take from xs ++ ys
  put_from_on ys =
      ap (λ zs. take m xs ++ (ys ++ zs)) (drop_all (length xs - m) (drop m xs) (omega (arith, length-drop m xs)))
      ∙ ap₂ (λ front back. front ++ back) (ap (λ k. take k xs) is ∙ take_min from xs) (append-nil ys)

-- every call has a reply
module _ (Y : Symbols) where
  as_many : (l : Ledger Y) (calls : List (LedgerCall Y)) → length (ledger_replies Y l calls) ≡ length calls
  as_many l [] = refl
  as_many l (call ∷ calls) = ap suc (as_many (step Y l call).next calls)

  pub replies_in : (l : Ledger Y) (calls : List (LedgerCall Y)) → map (λ e. e.1) (history Y l calls) ≡ ledger_replies Y l calls
  replies_in l calls = seconds-zip calls (ledger_replies Y l calls) (as_many l calls)

  -- without more turns the rounds are the transcript
  pub no_turns : (s : ScriptValue) (from : ℕ) (bytes : List ℕ) → IsRounds Y s from 0 bytes → IsTranscript Y s bytes
  no_turns s from bytes r =
      let l = fresh Y (boxes_for s.m) (rows_for s.m) in
      record {
        calls = r.calls;
        made = r.are;
        printed = r.printed ∙ ap (lines s.commands) (sym (map-map (numbered_reply Y) (λ e. e.1) (history Y l r.calls)) ∙ ap (map (numbered_reply Y)) (replies_in l r.calls));
      }

module _ (Y : Symbols) {T : Type 0} (value : T → Y.Symbol) where
  -- a call with another buffer
  filled : (c : Call T (List T)) (buffer : List Y.Symbol) → call_map (λ x. x) (λ b. buffer) (told_call Y value c) ≡ call_map value (λ b. buffer) (bare c)
  filled (SetUp m) buffer = refl
  filled (Put file) buffer = refl
  filled (Amend b a x work) buffer = refl
  filled (Read into) buffer = refl
  filled (Column b into) buffer = refl
  filled (Message helper lost into) buffer = refl
  filled (Lose b) buffer = refl
  filled (Renew b work) buffer = refl
  filled (Rebuild work) buffer = refl

  -- with its own it is itself
  own : (c : Call T (List T)) → call_map value (λ b. map value (lent c)) (bare c) ≡ told_call Y value c
  own (SetUp m) = refl
  own (Put file) = refl
  own (Amend b a x work) = refl
  own (Read into) = refl
  own (Column b into) = refl
  own (Message helper lost into) = refl
  own (Lose b) = refl
  own (Renew b work) = refl
  own (Rebuild work) = refl

  -- calls that were made are the same calls, each with the buffer that it left
  keep : (old new : List (Entry T)) → map bare (calls new) ≡ map bare (calls old) → map (again Y) (zip (map (told_call Y value) (calls old)) (map (told_reply Y value) (replies new))) ≡ map (told_call Y value) (calls new)
  keep [] [] same = refl
  keep [] (n ∷ new) same = absurd (omega (arith, ap length same))
  keep (o ∷ old) [] same = absurd (omega (arith, ap length same))
  keep (o ∷ old) (n ∷ new) same =
      let head : bare (asked n.call) ≡ bare (asked o.call) = cc in
      let tail : map bare (calls new) ≡ map bare (calls old) = cc in
      ap₂ (λ c cs. c ∷ cs) (filled (asked o.call) (map value (lent (asked n.call))) ∙ ap (call_map value (λ b. map value (lent (asked n.call)))) (sym head) ∙ own (asked n.call)) (keep old new tail)

  -- calls that were answered as a ledger's
  pub at_first : (l : Ledger Y) (size : Option ℕ) (s : Meaning T) (old new : List (Entry T)) → Agrees Y value (final Y l (map (told_call Y value) (calls old))) size s
      → map (told_reply Y value) (replies new) ≡ ledger_replies Y l (map (told_call Y value) (calls old)) → map bare (calls new) ≡ map bare (calls old)
      → IsAt Y value (made Y l (map (told_call Y value) (calls old))) size s new
  at_first l size s old new agrees answered same = record {
    agrees = agrees;
    kept = ap (λ rs. map (again Y) (zip (map (told_call Y value) (calls old)) rs)) (sym answered) ∙ keep old new same;
    answered = replies_in Y l (map (told_call Y value) (calls old)) ∙ sym answered;
  }

  -- the later calls once more
  pub one_turn : (from : ℕ) (r : Round Y) (size size' : Option ℕ) (s s' : Meaning T) (old later new : List (Entry T)) → IsAt Y value r size s old
      → Run Y value (calls (drop from old)) (replies later) size s size' s' → map bare (calls later) ≡ map bare (calls (drop from old)) → new ≡ take from old ++ later
      → IsAt Y value (turn Y from r) size' s' new
  one_turn from r size size' s s' old later new at run same is =
      let told = map (told_call Y value) (calls (drop from old)) in
      let all = follows Y value (calls (drop from old)) (replies later) r.ledger size s size' s' at.agrees run in
      let then = at_first r.ledger size' s' (drop from old) later all.agrees all.answered same in
      let later_calls : map (again Y) (drop from r.entries) ≡ told =
      sym (drop-map (again Y) from r.entries) ∙ ap (drop from) at.kept ∙ drop-map (told_call Y value) from (calls old) ∙ ap (map (told_call Y value)) (drop-map (λ e. asked e.call) from old) in
      let now : Round Y = record { ledger = final Y r.ledger told; entries = take from r.entries ++ history Y r.ledger told } in
      let is_now : turn Y from r ≡ now = ap (λ cs. record { ledger = final Y r.ledger cs; entries = take from r.entries ++ history Y r.ledger cs }) later_calls in
      subst (λ es. IsAt Y value (turn Y from r) size' s' es) (sym is)
      (subst (λ x. IsAt Y value x size' s' (take from old ++ later)) (sym is_now)
      (record {
        agrees = all.agrees;
        kept =
            map-append (again Y) (take from r.entries) (history Y r.ledger told)
            ∙ ap₂ (λ xs ys. xs ++ ys) (sym (take-map (again Y) from r.entries) ∙ ap (take from) at.kept ∙ take-map (told_call Y value) from (calls old) ∙ ap (map (told_call Y value)) (take-map (λ e. asked e.call) from old)) then.kept
            ∙ sym (ap (map (told_call Y value)) (map-append (λ e. asked e.call) (take from old) later) ∙ map-append (told_call Y value) (calls (take from old)) (calls later));
        answered =
            map-append (λ e. e.1) (take from r.entries) (history Y r.ledger told)
            ∙ ap₂ (λ xs ys. xs ++ ys) (sym (take-map (λ e. e.1) from r.entries) ∙ ap (take from) at.answered ∙ take-map (told_reply Y value) from (replies old) ∙ ap (map (told_reply Y value)) (take-map reply from old)) then.answered
            ∙ sym (ap (map (told_reply Y value)) (map-append reply (take from old) later) ∙ map-append (told_reply Y value) (replies (take from old)) (replies later));
      }))

  -- the lines of a program's entries, when its vault has gone so many turns
  module _ (s : ScriptValue) (shelf : Meaning T) (asked_for : List (Entry T)) (fit : IsShelfFor s.m shelf) (are : map (λ e. numbered_call Y (called Y value e)) asked_for ≡ calls_of Y s.m s.commands) where
    abbrev told : List (LedgerCall Y)
    told = map (told_call Y value) (calls asked_for)

    abbrev pub begun : Round Y
    begun = made Y (fresh Y (boxes_for s.m) (rows_for s.m)) told

    pub begins : (after : Meaning T) (size : Option ℕ) (new : List (Entry T)) → VaultLaw Y value shelf (calls asked_for) (replies new) size after → map bare (calls new) ≡ map bare (calls asked_for) → IsAt Y value begun size after new
    begins after size new law same =
        subst (λ l. IsAt Y value (made Y l told) size after new) (ap₂ (fresh Y) fit.boxes fit.rows)
        (at_first (fresh Y (box_count shelf) shelf.rows) size after asked_for new law.as_ledger.agrees law.as_ledger.answered same)

    pub prints : (from times : ℕ) (after : Meaning T) (size : Option ℕ) (new : List (Entry T)) (bytes : List ℕ) → IsAt Y value (turns Y from times begun) size after new → bytes ≡ lines s.commands (map (came_to Y value) new) → IsRounds Y s from times bytes
    prints from times after size new bytes at printed = record {
      calls = told;
      are = map-map (numbered_call Y) (told_call Y value) (calls asked_for) ∙ map-map (λ call. numbered_call Y (told_call Y value call)) (λ e. asked e.call) asked_for ∙ are;
      printed =
          printed
          ∙ ap (lines s.commands)
          (sym (map-map (numbered_reply Y) (told_reply Y value) (replies new) ∙ map-map (λ r. numbered_reply Y (told_reply Y value r)) reply new)
          ∙ ap (map (numbered_reply Y)) (sym at.answered)
          ∙ map-map (numbered_reply Y) (λ e. e.1) (turns Y from times begun).entries);
    }
