-- Calls, and why each is declined: one list of reasons for each, in rising order. Assumes nothing.
use Rattle.std.specs.Prelude.{ℕ, suc, ◌+◌, ◌-◌, ◌*◌, ◌^◌, Bool, false, not, ◌&&◌, ◌==◌, nat_le, nat_lt, List, [], ◌∷◌, count_by, length, Option, unwrap_or}
use Rattle.std.specs.List.{range_with_len}
use Rattle.std.specs.Option.{is_none}
use Rattle.field.specs.Symbols.{Symbols}
use Rattle.code.specs.Standing.{standing}
use Rattle.refusal.specs.Refusals.{Reason, few_marks, no_box, no_helper, parity_box, where_holds, wrong_lengths, wrong_size}
use Rattle.refusal.specs.declared.Refusal.TheVariants.{NotSetUp, Shape, NoRow, Out, Standing, NotRenewable}
use Rattle.boxes.specs.Out.{many_out}
use Rattle.ledger.specs.declared.calls.Call.{Call}
use Rattle.ledger.specs.declared.calls.Call.TheVariants.{SetUp, Put, Amend, Read, Column, Message, Lose, Renew, Rebuild}

-- the same call with other symbols and buffers
abbrev pub call_map : {S T A B : Type 0} → (S → T) → (A → B) → Call S A → Call T B
call_map f g (SetUp m) = SetUp m
call_map f g (Put file) = Put (g file)
call_map f g (Amend b a x work) = Amend b a (f x) (g work)
call_map f g (Read into) = Read (g into)
call_map f g (Column b into) = Column b (g into)
call_map f g (Message helper lost into) = Message helper lost (g into)
call_map f g (Lose b) = Lose b
call_map f g (Renew b work) = Renew b (g work)
call_map f g (Rebuild work) = Rebuild (g work)

-- What the reasons depend on: how many boxes and rows there are, the size once set up, and which boxes are out.
-- Boxes go by their numbers, from 1.
pub record State : Type 0 where
  pub boxes : ℕ
  pub rows : ℕ
  pub size : Option ℕ
  pub out : ℕ → Bool

-- the size in force, and 0 before it is set up
abbrev pub size_of : State → ℕ
size_of s = unwrap_or s.size 0

-- how many boxes a cabinet of size m has, and how many symbols a file, a column and a half
abbrev pub boxes_of : ℕ → ℕ
boxes_of m = 3 * m + 2

abbrev pub file_length : ℕ → ℕ
file_length m = 3 * m * 2 ^ m

abbrev pub column_length : ℕ → ℕ
column_length m = 2 ^ m

abbrev pub half_length : ℕ → ℕ
half_length m = 2 ^ (m - 1)

-- how many boxes are out
abbrev pub out_count : State → ℕ
out_count s = count_by s.out (range_with_len 1 (boxes_of (size_of s)))

module _ {T : Type 0} where
  -- the buffer that a call is lent
  abbrev pub lent : Call T (List T) → List T
  lent (SetUp m) = []
  lent (Put file) = file
  lent (Amend b a x work) = work
  lent (Read into) = into
  lent (Column b into) = into
  lent (Message helper lost into) = into
  lent (Lose b) = []
  lent (Renew b work) = work
  lent (Rebuild work) = work

  -- how long it should be in a cabinet of size m
  abbrev pub wanted : ℕ → Call T (List T) → ℕ
  wanted m (SetUp k) = 0
  wanted m (Put file) = file_length m
  wanted m (Amend b a x work) = file_length m
  wanted m (Read into) = file_length m
  wanted m (Column b into) = column_length m
  wanted m (Message helper lost into) = half_length m
  wanted m (Lose b) = 0
  wanted m (Renew b work) = file_length m
  wanted m (Rebuild work) = file_length m

  abbrev pub wrong_buffer : ℕ → Call T (List T) → Reason
  wrong_buffer m call = wrong_lengths ((length (lent call), wanted m call) ∷ [])

module _ (s : State) where
  -- whether the box in place b, from 0, stands
  abbrev pub stands : ℕ → Bool
  stands b = not (s.out (suc b))

  abbrev pub not_set_up : Reason
  not_set_up = where_holds (is_none s.size) NotSetUp

  abbrev pub wrong_shape : ℕ → Reason
  wrong_shape m = where_holds (not (s.boxes == boxes_of m && s.rows == column_length m)) Shape

  abbrev pub box_out : ℕ → Reason
  box_out b = where_holds (s.out b) Out

  abbrev pub box_standing : ℕ → Reason
  box_standing b = where_holds (not (s.out b)) Standing

  abbrev pub three_out : Reason
  three_out = many_out (boxes_of (size_of s)) stands

  -- two boxes or more are out: fewer than all but one stand
  abbrev pub two_out : Reason
  two_out = where_holds (nat_lt (standing stands (boxes_of (size_of s)) + 1) (boxes_of (size_of s))) NotRenewable

abbrev pub no_row : ℕ → ℕ → Reason
no_row m a = where_holds (nat_le (column_length m) a) NoRow

module _ (Y : Symbols) (s : State) where
  abbrev m : ℕ
  m = size_of s

  module _ {T : Type 0} where
    -- why a call is declined
    abbrev pub reasons : Call T (List T) → List Reason
    reasons (SetUp k) = wrong_size k ∷ few_marks Y k ∷ wrong_shape s k ∷ []
    reasons (Put file) = not_set_up s ∷ wrong_buffer m (Put file) ∷ three_out s ∷ []
    reasons (Amend b a x work) = not_set_up s ∷ wrong_buffer m (Amend b a x work) ∷ no_box (3 * m) b ∷ no_row m a ∷ three_out s ∷ []
    reasons (Read into) = not_set_up s ∷ wrong_buffer m (Read into) ∷ three_out s ∷ []
    reasons (Column b into) = not_set_up s ∷ wrong_buffer m (Column b into) ∷ no_box (boxes_of m) b ∷ box_out s b ∷ []
    reasons (Message helper lost into) =
        not_set_up s ∷ wrong_buffer m (Message helper lost into) ∷ no_box (boxes_of m) helper ∷ no_box (boxes_of m) lost
        ∷ box_out s helper ∷ parity_box (3 * m) lost ∷ no_helper lost helper false ∷ []
    reasons (Lose b) = not_set_up s ∷ no_box (boxes_of m) b ∷ box_out s b ∷ []
    reasons (Renew b work) =
        not_set_up s ∷ wrong_buffer m (Renew b work) ∷ no_box (boxes_of m) b ∷ box_standing s b ∷ three_out s
        ∷ parity_box (3 * m) b ∷ two_out s ∷ []
    reasons (Rebuild work) = not_set_up s ∷ wrong_buffer m (Rebuild work) ∷ three_out s ∷ []
