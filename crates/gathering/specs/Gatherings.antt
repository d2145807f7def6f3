-- What a gathering has heard, what its store holds, and why it is declined. Assumes nothing.
use Rattle.std.specs.Prelude.{ℕ, ◌+◌, ◌-◌, ◌*◌, ◌^◌, ◌≡◌, ◌≤◌, ◌≢◌, Bool, false, not, ◌||◌, ◌==◌, List, [], ◌∷◌, ◌++◌, Ok, Err, Option, Some, None, Result, length, take, drop, slice_index_or, if◌then◌else◌}
use Rattle.std.specs.List.{All, list_any, range_with_len}
use Rattle.std.specs.Option.{is_some}
use Rattle.field.specs.Symbols.{Symbols}
use Rattle.code.specs.Codes.{File, Given, column, full, half_for}
use Rattle.code.specs.Contents.{Holds, at, parts}
use Rattle.code.specs.Recovery.{seat}
use Rattle.refusal.specs.Refusals.{Reason, earliest, wrong_size, few_marks, wrong_lengths, no_box, parity_box, no_helper, unheard}
use Rattle.refusal.specs.declared.Refusal.{Refusal}
use Rattle.gathering.specs.declared.states.Declined.{Declined}
use Rattle.gathering.specs.declared.states.Message.{Message}

-- the refusal of a declined call that gave back what it took
abbrev pub declined : {A T : Type 0} → Result A (Declined T) → Option Refusal
declined (Ok x) = None
declined (Err d) = Some d.why

-- the flags of boxes: has box b been heard?
abbrev pub heard_by : List Bool → ℕ → Bool
heard_by flags b = slice_index_or flags (b - 1) false

-- of the boxes 1 to n, one but the lost box has not been heard
abbrev pub missing : ℕ → ℕ → (ℕ → Bool) → Bool
missing n lost heard = list_any (λ b. not (b == lost || heard b)) (range_with_len 1 n)

-- the store, part after part of n symbols, with part h made the half; and part h of it
abbrev pub with_half : {S : Type 0} → ℕ → ℕ → List S → List S → List S
with_half n h half store = take (h * n) store ++ half ++ drop (h * n + n) store

abbrev pub half_in : {S : Type 0} → ℕ → ℕ → List S → List S
half_in n h store = take n (drop (h * n) store)

-- why a gathering is not begun
abbrev pub opening : Symbols → ℕ → ℕ → List Reason
opening Y m lost = wrong_size m ∷ few_marks Y m ∷ no_box (3 * m + 2) lost ∷ parity_box (3 * m) lost ∷ []

module _ {S : Type 0} where
  -- one of the messages is from box b
  abbrev pub sent : List (Message S) → ℕ → Bool
  sent messages b = list_any (λ msg. msg.helper == b) messages

  -- a cabinet's size, and its lost box
  module _ (m lost : ℕ) where
    -- the place of a message's half in the store
    abbrev pub place : Message S → ℕ
    place msg = seat (lost - 1) (msg.helper - 1)

    -- what is known of a message that was heard: it came from a helper, and its half is in its place
    pub record Heard (store : List S) (msg : Message S) : Type 0 where
      pub first : 1 ≤ msg.helper
      pub last : msg.helper ≤ 3 * m + 2
      pub other : msg.helper ≢ lost
      pub placed : half_in (2 ^ (m - 1)) (place msg) store ≡ msg.half.now

    -- for a store of some length: why a message is declined, after those before it
    abbrev pub message_reasons : ℕ → List (Message S) → Message S → List Reason
    message_reasons stored before msg =
        wrong_lengths ((length msg.half.now, 2 ^ (m - 1)) ∷ (stored, (3 * m + 1) * 2 ^ (m - 1)) ∷ [])
        ∷ no_box (3 * m + 2) msg.helper ∷ no_helper lost msg.helper (sent before msg.helper) ∷ []

    -- and so for one message after another
    abbrev pub reasons : ℕ → List (Message S) → List (Message S) → List Reason
    reasons stored before [] = []
    reasons stored before (msg ∷ rest) = message_reasons stored before msg ++ reasons stored (before ++ msg ∷ []) rest

    -- what is asked of a gathering once it is begun: for a store and a column of some lengths
    abbrev pub asked : ℕ → ℕ → List (Message S) → List Reason
    asked stored rows messages =
        reasons stored [] messages
        ++ unheard (missing (3 * m + 2) lost (sent messages)) ∷ wrong_lengths ((stored, (3 * m + 1) * 2 ^ (m - 1)) ∷ (rows, 2 ^ m) ∷ []) ∷ []

    -- the store with the halves in their places, up to the first message that is declined
    abbrev pub filled : List (Message S) → List (Message S) → List S → List S
    filled before [] store = store
    filled before (msg ∷ rest) store =
        if is_some (earliest (message_reasons (length store) before msg)) then store
        else filled (before ++ msg ∷ []) rest (with_half (2 ^ (m - 1)) (place msg) msg.half.now store)

  module _ (Y : Symbols) (value : S → Y.Symbol) (m lost : ℕ) (messages : List (Message S)) where
    -- the messages bring a file's halves
    abbrev pub BringHalves : File (full Y m) → Type 0
    BringHalves f = All (λ msg. Holds Y value (2 ^ (m - 1)) msg.half.now (half_for (full Y m) (lost - 1) (column (full Y m) f (msg.helper - 1)))) messages

    -- what a gathering that is not declined leaves in the store and in the column
    pub record Renewed (store into : List S) : Type 0 where
      -- the lost column of every file whose halves came
      pub file : (f : File (full Y m)) → BringHalves f → Holds Y value (2 ^ m) into (f (lost - 1))
      -- the column that the store's halves give
      pub given : Given (full Y m) (lost - 1) (parts Y value (2 ^ (m - 1)) store) (at Y value into)
      -- and the halves, each in its place
      pub heard : All (Heard m lost store) messages
