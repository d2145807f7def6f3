-- A script has one transcript, since symbols and the numbers below the size go in pairs. Assumes nothing.
use Rattle.std.proofs.Common.{◌≡◌, ℕ, ◌<◌, ◌≤◌, ◌⊎◌, inl, inr, List, [], ◌∷◌, map, replicate, refl, sym, ap, ap₂, ◌∙◌, arith}
use Rattle.std.specs.List.{AllByRecursion}
use Rattle.std.proofs.lemmas.Bool.{cases_lt}
use Rattle.field.specs.Symbols.{Symbols}
use Rattle.ledger.specs.Calls.{call_map}
use Rattle.ledger.specs.Ledgers.{LedgerCall, fresh, replies}
use Rattle.ledger.specs.declared.calls.Call.{Call}
use Rattle.ledger.specs.declared.calls.Call.TheVariants.{SetUp, Put, Amend, Read, Column, Message, Lose, Renew, Rebuild}
use Rattle.script.specs.Scripts.{CommandValue, IsCommand, ScriptValue}
use Rattle.script.specs.Scripts as commands
use Rattle.transcripts.specs.Calls.{call_of, calls_of, numbered_call, zeros}
use Rattle.transcripts.specs.Lengths.{boxes_for, file_for, half_for, rows_for}
use Rattle.transcripts.specs.Lines.{lines, numbered_reply}
use Rattle.transcripts.specs.Rounds.{IsRounds, made, turns}
use Rattle.transcripts.specs.Transcripts.{IsTranscript}
use Rattle.transcripts.proofs.Lists.{twice_replicate}

module _ (Y : Symbols) where
  -- the symbol of a number, or zero where there is none
  abbrev chosen : (n : ℕ) → (n < Y.size) ⊎ (Y.size ≤ n) → Y.Symbol
  chosen n (inl below) = (Y.numbered n below).0
  chosen n (inr above) = Y.ring.zero

  abbrev symbol : ℕ → Y.Symbol
  symbol n = chosen n (cases_lt n Y.size)

  abbrev call_of_numbers : Call ℕ (List ℕ) → LedgerCall Y
  call_of_numbers call = call_map symbol (map symbol) call

  symbol_again : (x : Y.Symbol) → symbol (Y.number x) ≡ x
  symbol_again x = by (cases_lt (Y.number x) Y.size)
    where
      by : (side : (Y.number x < Y.size) ⊎ (Y.size ≤ Y.number x)) → chosen (Y.number x) side ≡ x
      by (inl below) = Y.number_same _ x (Y.numbered (Y.number x) below).1
      by (inr above) = absurd (omega (arith, above, Y.number_below x))

  symbols_again : (xs : List Y.Symbol) → map symbol (map Y.number xs) ≡ xs
  symbols_again [] = refl
  symbols_again (x ∷ xs) = ap₂ (λ y ys. y ∷ ys) (symbol_again x) (symbols_again xs)

  call_again : (call : LedgerCall Y) → call_of_numbers (numbered_call Y call) ≡ call
  call_again (SetUp m) = refl
  call_again (Put file) = ap Put (symbols_again file)
  call_again (Amend b a x work) = ap₂ (Amend b a) (symbol_again x) (symbols_again work)
  call_again (Read into) = ap Read (symbols_again into)
  call_again (Column b into) = ap (Column b) (symbols_again into)
  call_again (Message helper lost into) = ap (Message helper lost) (symbols_again into)
  call_again (Lose b) = refl
  call_again (Renew b work) = ap (Renew b) (symbols_again work)
  call_again (Rebuild work) = ap Rebuild (symbols_again work)

  calls_again : (calls : List (LedgerCall Y)) → map call_of_numbers (map (numbered_call Y) calls) ≡ calls
  calls_again [] = refl
  calls_again (call ∷ calls) = ap₂ (λ c cs. c ∷ cs) (call_again call) (calls_again calls)

  same_calls : (s : ScriptValue) (a b : List (LedgerCall Y)) → map (numbered_call Y) a ≡ calls_of Y s.m s.commands → map (numbered_call Y) b ≡ calls_of Y s.m s.commands → a ≡ b
  same_calls s a b is_a is_b = sym (calls_again a) ∙ ap (map call_of_numbers) (is_a ∙ sym is_b) ∙ calls_again b

  pub one_transcript : (s : ScriptValue) (a b : List ℕ) → IsTranscript Y s a → IsTranscript Y s b → a ≡ b
  one_transcript s a b t u =
      t.printed ∙ ap (λ calls. lines s.commands (map (numbered_reply Y) (replies Y (fresh Y (boxes_for s.m) (rows_for s.m)) calls))) (same_calls s t.calls u.calls t.made u.made) ∙ sym u.printed

  pub one_rounds : (s : ScriptValue) (from times : ℕ) (a b : List ℕ) → IsRounds Y s from times a → IsRounds Y s from times b → a ≡ b
  one_rounds s from times a b t u =
      t.printed ∙ ap (λ calls. lines s.commands (map (λ e. numbered_reply Y e.1) (turns Y from times (made Y (fresh Y (boxes_for s.m) (rows_for s.m)) calls)).entries)) (same_calls s t.calls u.calls t.are u.are) ∙ sym u.printed

  number_again : (n : ℕ) → n < Y.size → Y.number (symbol n) ≡ n
  number_again n below = by (cases_lt n Y.size)
    where
      by : (side : (n < Y.size) ⊎ (Y.size ≤ n)) → Y.number (chosen n side) ≡ n
      by (inl h) = (Y.numbered n h).1
      by (inr above) = absurd (omega (arith, above, below))

  numbers_again : (ns : List ℕ) → AllByRecursion (λ n. n < Y.size) ns → map Y.number (map symbol ns) ≡ ns
  numbers_again [] all = refl
  numbers_again (n ∷ ns) all = ap₂ (λ k ks. k ∷ ks) (number_again n all.0) (numbers_again ns all.1)

  zeros_again : (n : ℕ) → map Y.number (map symbol (zeros Y n)) ≡ zeros Y n
  zeros_again n = twice_replicate Y.number symbol n (Y.number Y.ring.zero) ∙ ap (λ x. replicate n (Y.number x)) (symbol_again Y.ring.zero)

  command_again : (m : ℕ) (c : CommandValue) → IsCommand Y.size c → numbered_call Y (call_of_numbers (call_of Y m c)) ≡ call_of Y m c
  command_again m (commands.Put symbols) is = ap Put (numbers_again symbols is.1)
  command_again m (commands.Amend data_box row x) is = ap₂ (Amend data_box row) (number_again x is.2) (zeros_again (file_for m))
  command_again m commands.Read is = ap Read (zeros_again (file_for m))
  command_again m (commands.Column wanted) is = ap (Column wanted) (zeros_again (rows_for m))
  command_again m (commands.Message helper lost) is = ap (Message helper lost) (zeros_again (half_for m))
  command_again m (commands.Lose lost) is = refl
  command_again m (commands.Renew lost) is = ap (Renew lost) (zeros_again (file_for m))
  command_again m commands.Rebuild is = ap Rebuild (zeros_again (file_for m))

  commands_again : (m : ℕ) (cs : List CommandValue) → AllByRecursion (IsCommand Y.size) cs → map (numbered_call Y) (map call_of_numbers (map (call_of Y m) cs)) ≡ map (call_of Y m) cs
  commands_again m [] all = refl
  commands_again m (c ∷ cs) all = ap₂ (λ d ds. d ∷ ds) (command_again m c all.0) (commands_again m cs all.1)

  abbrev script_calls : ScriptValue → List (LedgerCall Y)
  script_calls s = map call_of_numbers (calls_of Y s.m s.commands)

  script_again : (s : ScriptValue) → AllByRecursion (IsCommand Y.size) s.commands → map (numbered_call Y) (script_calls s) ≡ calls_of Y s.m s.commands
  script_again s each = ap (λ cs. SetUp s.m ∷ cs) (commands_again s.m s.commands each)

  pub some_transcript : (s : ScriptValue) → AllByRecursion (IsCommand Y.size) s.commands → (bytes : List ℕ) × IsTranscript Y s bytes
  some_transcript s each = (_, record { calls = script_calls s; made = script_again s each; printed = refl })

  pub some_rounds : (s : ScriptValue) (from times : ℕ) → AllByRecursion (IsCommand Y.size) s.commands → (bytes : List ℕ) × IsRounds Y s from times bytes
  some_rounds s from times each = (_, record { calls = script_calls s; are = script_again s each; printed = refl })
