-- Reading a script from left to right: each reader gives what it has read and the bytes behind it, or nothing where the bytes are not as they should be. Assumes nothing.
use Rattle.std.specs.Prelude.{◌≡◌, ℕ, zero, suc, ◌+◌, ◌-◌, ◌*◌, Bool, true, false, ◌&&◌, ◌||◌, List, [], ◌∷◌, length, take, drop, Option, Some, None, option_and_then, Result, Ok, Err, nat_lt, nat_le, ◌==◌, if◌then◌else◌}
use Rattle.std.specs.List.{list_all}
use Rattle.script.specs.declared.commands.FieldName.{FieldName}
use Rattle.script.specs.declared.commands.FieldName.TheVariants.{Five, Four, Bytes, Words}
use Rattle.script.specs.declared.numbers.Stop.{Stop}
use Rattle.script.specs.declared.numbers.Stop.TheVariants as stops
use Rattle.script.specs.Scripts.{CommandValue, Put, Amend, Read, Column, Message, Lose, Renew, Rebuild, ScriptValue, size}

infixl 10 ◌>>=◌
abbrev pub ◌>>=◌ : {A B : Type 0} → Option A → (A → Option B) → Option B
o >>= f = option_and_then f o

-- what a function answers, seen by view, is what reading gives, unless memory runs out
abbrev pub Gives : {X Y : Type 0} → (X → Y) → Result X Stop → Option Y → Type 0
Gives view (Ok x) read = read ≡ Some (view x)
Gives view (Err stops.Malformed) read = read ≡ None
Gives view (Err stops.Memory) read = Unit {0}

abbrev pub first_byte : List ℕ → Option (ℕ × List ℕ)
first_byte [] = None
first_byte (b ∷ bs) = Some (b, bs)

-- behind one byte, which has to be the one that is wanted
unfoldable pub after_byte : ℕ → List ℕ → Option (List ℕ)
after_byte wanted [] = None
after_byte wanted (b ∷ bs) = if b == wanted then Some bs else None

abbrev pub is_digit : ℕ → Bool
is_digit b = nat_le 48 b && nat_le b 57

-- the number n goes on with the digits at the front, up to nine in all
unfoldable pub digits_on : ℕ → List ℕ → ℕ × List ℕ
digits_on n [] = (n, [])
digits_on n (b ∷ bs) = if is_digit b && nat_lt n 100000000 then digits_on (10 * n + (b - 48)) bs else (n, b ∷ bs)

-- a number; a zero at its front is all of it
unfoldable pub number_at : List ℕ → Option (ℕ × List ℕ)
number_at [] = None
number_at (b ∷ bs) = if b == 48 then Some (0, bs) else (if is_digit b then Some (digits_on (b - 48) bs) else None)

-- a number and one byte, which has to be the one that is wanted
unfoldable pub number_then : ℕ → List ℕ → Option (ℕ × List ℕ)
number_then wanted bytes = do
  n ← number_at bytes
  rest ← after_byte wanted n.1
  Some (n.0, rest)

-- a number and what ends it: whether that is the line feed, or else a space
unfoldable pub ended_at : List ℕ → Option ((ℕ × Bool) × List ℕ)
ended_at bytes = do
  n ← number_at bytes
  end ← first_byte n.1
  if end.0 == 10 then Some ((n.0, true), end.1) else (if end.0 == 32 then Some ((n.0, false), end.1) else None)

-- numbers up to the line feed, at most so many
unfoldable pub numbers_at : ℕ → List ℕ → Option (List ℕ × List ℕ)
numbers_at zero bytes = None
numbers_at (suc limit) bytes = do
  n ← ended_at bytes
  if n.0.1 then Some (n.0.0 ∷ [], n.1) else (numbers_at limit n.1 >>= λ others. Some (n.0.0 ∷ others.0, others.1))

-- a command's line of numbers
abbrev pub hyphen_or_numbers : ℕ → List ℕ → Option (List ℕ) → Option (List ℕ × List ℕ)
hyphen_or_numbers limit bytes None = numbers_at limit bytes
hyphen_or_numbers limit bytes (Some rest) = after_byte 10 rest >>= λ more. Some ([], more)

unfoldable pub number_line_at : ℕ → List ℕ → Option (List ℕ × List ℕ)
number_line_at limit bytes = hyphen_or_numbers limit bytes (after_byte 45 bytes)

-- the only number of a list, the only two
abbrev pub only_one : List ℕ → Option ℕ
only_one (n ∷ []) = Some n
only_one _ = None

abbrev pub only_two : List ℕ → Option (ℕ × ℕ)
only_two (n ∷ k ∷ []) = Some (n, k)
only_two _ = None

abbrev pub put_of : ℕ → List ℕ → Option CommandValue
put_of size ns = if list_all (λ x. nat_lt x size) ns then Some (Put ns) else None

abbrev pub amend_of : ℕ → List ℕ → Option CommandValue
amend_of size (data_box ∷ row ∷ symbol ∷ []) = if nat_lt symbol size then Some (Amend data_box row symbol) else None
amend_of size _ = None

abbrev pub bare_of : CommandValue → List ℕ → Option CommandValue
bare_of command [] = Some command
bare_of command (n ∷ ns) = None

-- the command of this letter with these numbers
unfoldable pub command_of : ℕ → ℕ → List ℕ → Option CommandValue
command_of size letter ns =
    if letter == 80 then put_of size ns
    else (if letter == 65 then amend_of size ns
    else (if letter == 82 then bare_of Read ns
    else (if letter == 67 then (only_one ns >>= λ wanted. Some (Column wanted))
    else (if letter == 77 then (only_two ns >>= λ boxes. Some (Message boxes.0 boxes.1))
    else (if letter == 76 then (only_one ns >>= λ lost. Some (Lose lost))
    else (if letter == 78 then (only_one ns >>= λ lost. Some (Renew lost))
    else (if letter == 66 then bare_of Rebuild ns
    else None)))))))

-- a command, whose letter stands before, from its line of numbers
unfoldable pub command_at : ℕ → ℕ → List ℕ → Option (CommandValue × List ℕ)
command_at size letter bytes = do
  ns ← number_line_at 1152 bytes
  command ← command_of size letter ns.0
  Some (command, ns.1)

-- a command for each letter
unfoldable pub commands_at : ℕ → List ℕ → List ℕ → Option (List CommandValue × List ℕ)
commands_at size [] bytes = Some ([], bytes)
commands_at size (letter ∷ letters) bytes = do
  first ← command_at size letter bytes
  others ← commands_at size letters first.1
  Some (first.0 ∷ others.0, others.1)

abbrev pub field_of : ℕ → Option FieldName
field_of letter =
    if letter == 102 then Some Five
    else (if letter == 113 then Some Four
    else (if letter == 98 then Some Bytes
    else (if letter == 119 then Some Words
    else None)))

-- the first line: the field, m and the count of commands
unfoldable pub first_line_at : List ℕ → Option ((FieldName × ℕ × ℕ) × List ℕ)
first_line_at bytes = do
  letter ← first_byte bytes
  field ← field_of letter.0
  rest ← after_byte 32 letter.1
  m ← number_then 32 rest
  count ← number_then 10 m.1
  if nat_lt 9 m.0 || (nat_lt count.0 1 || nat_lt 64 count.0) then None else Some ((field, m.0, count.0), count.1)

-- the second line: so many letters
unfoldable pub second_line_at : ℕ → List ℕ → Option (List ℕ × List ℕ)
second_line_at count bytes =
    if nat_lt (length bytes) count then None
    else (after_byte 10 (drop count bytes) >>= λ rest. Some (take count bytes, rest))

-- all of the bytes
unfoldable pub script_at : List ℕ → Option ScriptValue
script_at bytes =
    if nat_lt 16384 (length bytes) then None
    else (do
      first ← first_line_at bytes
      letters ← second_line_at first.0.2 first.1
      commands ← commands_at (size first.0.0) letters.0 letters.1
      if length commands.1 == 0 then Some (record { field = first.0.0; m = first.0.1; commands = commands.0 }) else None)
