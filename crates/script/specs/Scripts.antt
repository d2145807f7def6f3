-- What a script holds, and the bytes that it is printed as. Assumes nothing.
use Rattle.std.specs.Prelude.{◌≡◌, ℕ, ◌≤◌, ◌<◌, ◌^◌, List, [], ◌∷◌, ◌++◌, length, map, codes}
use Rattle.std.specs.Fmt.{decimal}
use Rattle.std.specs.List.{flat_map, join_with_byte, AllByRecursion}
use Rattle.script.specs.declared.commands.Command.{Command}
use Rattle.script.specs.declared.commands.Command.TheVariants as commands
use Rattle.script.specs.declared.commands.FieldName.{FieldName}
use Rattle.script.specs.declared.commands.FieldName.TheVariants.{Five, Four, Bytes, Words}
use Rattle.script.specs.declared.commands.Script.{Script}

-- a command and the numbers that it takes, wherever they lie in memory
pub data CommandValue : Type 0 where
  Put : (symbols : List ℕ) → CommandValue
  Amend : (data_box row symbol : ℕ) → CommandValue
  Read : CommandValue
  Column : (wanted : ℕ) → CommandValue
  Message : (helper lost : ℕ) → CommandValue
  Lose : (lost : ℕ) → CommandValue
  Renew : (lost : ℕ) → CommandValue
  Rebuild : CommandValue

-- the same of a script
pub record ScriptValue : Type 0 where
  pub field : FieldName
  pub m : ℕ
  pub commands : List CommandValue

abbrev pub command_value : Command → CommandValue
command_value (commands.Put symbols) = Put symbols.items
command_value (commands.Amend data_box row symbol) = Amend data_box row symbol
command_value commands.Read = Read
command_value (commands.Column wanted) = Column wanted
command_value (commands.Message helper lost) = Message helper lost
command_value (commands.Lose lost) = Lose lost
command_value (commands.Renew lost) = Renew lost
command_value commands.Rebuild = Rebuild

abbrev pub script_value : Script → ScriptValue
script_value s = record { field = s.field; m = s.m; commands = map command_value s.commands.items }

-- a field's letter: f, q, b or w
abbrev pub field_letter : FieldName → ℕ
field_letter Five = 102
field_letter Four = 113
field_letter Bytes = 98
field_letter Words = 119

-- the number of its symbols
abbrev pub size : FieldName → ℕ
size Five = 5
size Four = 4
size Bytes = 256
size Words = 65537

-- a command's letter: P, A, R, C, M, L, N or B
abbrev pub letter : CommandValue → ℕ
letter (Put symbols) = 80
letter (Amend data_box row symbol) = 65
letter Read = 82
letter (Column wanted) = 67
letter (Message helper lost) = 77
letter (Lose lost) = 76
letter (Renew lost) = 78
letter Rebuild = 66

-- the numbers that it takes
abbrev pub numbers : CommandValue → List ℕ
numbers (Put symbols) = symbols
numbers (Amend data_box row symbol) = data_box ∷ row ∷ symbol ∷ []
numbers Read = []
numbers (Column wanted) = wanted ∷ []
numbers (Message helper lost) = helper ∷ lost ∷ []
numbers (Lose lost) = lost ∷ []
numbers (Renew lost) = lost ∷ []
numbers Rebuild = []

-- words parted by single spaces, and a line feed behind them
abbrev pub line : List (List ℕ) → List ℕ
line words = join_with_byte 32 words ++ 10 ∷ []

-- numbers in decimal digits, or a hyphen for none
abbrev pub number_words : List ℕ → List (List ℕ)
number_words [] = codes "-" ∷ []
number_words (n ∷ ns) = map decimal (n ∷ ns)

-- the line of the numbers of a command
abbrev pub number_line : CommandValue → List ℕ
number_line c = line (number_words (numbers c))

-- the bytes of a script: the field, m and the count of commands; the commands' letters; a line of numbers for each command
unfoldable pub printed : ScriptValue → List ℕ
printed s =
    line ((field_letter s.field ∷ []) ∷ decimal s.m ∷ decimal (length s.commands) ∷ [])
    ++ line (map letter s.commands ∷ [])
    ++ flat_map number_line s.commands

-- a number has at most nine digits
abbrev pub IsNumber : ℕ → Type 0
IsNumber n = n < 10 ^ 9

-- what a command may take in a field of so many symbols
abbrev pub IsCommand : ℕ → CommandValue → Type 0
IsCommand size (Put symbols) = (length symbols ≤ 1152) × AllByRecursion (λ x. x < size) symbols
IsCommand size (Amend data_box row symbol) = IsNumber data_box × IsNumber row × (symbol < size)
IsCommand size Read = Unit {0}
IsCommand size (Column wanted) = IsNumber wanted
IsCommand size (Message helper lost) = IsNumber helper × IsNumber lost
IsCommand size (Lose lost) = IsNumber lost
IsCommand size (Renew lost) = IsNumber lost
IsCommand size Rebuild = Unit {0}

-- what a script may hold, and how long it may be
pub record IsScript (s : ScriptValue) : Type 0 where
  pub m : s.m ≤ 9
  pub some : 1 ≤ length s.commands
  pub few : length s.commands ≤ 64
  pub each : AllByRecursion (IsCommand (size s.field)) s.commands
  pub short : length (printed s) ≤ 16384

-- s is a script, and it is printed as the text
pub record Prints (s : ScriptValue) (text : List ℕ) : Type 0 where
  pub script : IsScript s
  pub same : printed s ≡ text
