-- The lines of a transcript. Assumes nothing.
use Rattle.std.specs.Prelude.{ℕ, List, [], ◌∷◌, map, codes, Result, Ok, Err}
use Rattle.std.specs.Fmt.{decimal}
use Rattle.std.specs.List.{flat_map}
use Rattle.refusal.specs.Refusals.{number}
use Rattle.refusal.specs.declared.Refusal.{Refusal}
use Rattle.script.specs.declared.commands.Command.{Command}
use Rattle.script.specs.declared.transcript.Answer.{Answer}
use Rattle.script.specs.declared.transcript.Answer.TheVariants.{Nothing, Count, Symbols}
use Rattle.script.specs.declared.transcript.Line.{Line}
use Rattle.script.specs.declared.transcript.Line.TheVariants.{NoScript, SetUp, Ran}
use Rattle.script.specs.Scripts.{command_value, letter, line}

-- 0 where a call was accepted, else its refusal's number
abbrev pub status : {A : Type 0} → Result A Refusal → ℕ
status (Ok answer) = 0
status (Err why) = number why

-- the numbers that a call answered
abbrev pub numbers_of : Answer → List ℕ
numbers_of Nothing = []
numbers_of (Count n) = n ∷ []
numbers_of (Symbols symbols) = symbols.now

abbrev pub answered : Result Answer Refusal → List ℕ
answered (Ok answer) = numbers_of answer
answered (Err why) = []

-- the words of a command's line: its letter, the status and what was answered
abbrev pub ran_words : Command → Result Answer Refusal → List (List ℕ)
ran_words command outcome = (letter (command_value command) ∷ []) ∷ map decimal (status outcome ∷ answered outcome)

-- the words of a line; set up's letter is S, and E says that there is no script
abbrev pub line_words : Line → List (List ℕ)
line_words NoScript = codes "E" ∷ []
line_words (SetUp outcome) = codes "S" ∷ decimal (status outcome) ∷ []
line_words (Ran command outcome) = ran_words command.now outcome

-- words behind a first one
abbrev pub spaced : List (List ℕ) → List ℕ
spaced = flat_map (λ word. 32 ∷ word)

-- the bytes of a line, with its line feed
abbrev pub line_printed : Line → List ℕ
line_printed l = line (line_words l)
