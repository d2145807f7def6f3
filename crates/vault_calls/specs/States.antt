-- What a vault is: a shelf, and beside it the size that it was set up with, if it was. Assumes nothing.
use Rattle.std.specs.Prelude.{ℕ, Bool, [], ◌∷◌, Option, Some, None, if◌then◌else◌}
use Rattle.std.specs.Option.{is_none}
use Rattle.field.specs.Symbols.{Symbols}
use Rattle.refusal.specs.Refusals.{earliest, few_marks, wrong_size}
use Rattle.shelf.specs.Meaning.{Meaning, box_count, is_out}
use Rattle.ledger.specs.Calls.{State, wrong_shape}

module _ (Y : Symbols) {T : Type 0} where
  -- what the reasons of a call depend on, where the size in force is `size`
  abbrev pub shelf_state : Option ℕ → Meaning T → State
  shelf_state size s = record { boxes = box_count s; rows = s.rows; size = size; out = λ b. is_out s b }

  -- set up would not decline the size m on this shelf
  abbrev pub fits : Meaning T → ℕ → Bool
  fits s m = is_none (earliest (wrong_size m ∷ few_marks Y m ∷ wrong_shape (shelf_state None s) m ∷ []))

  -- the size in force: a vault counts as set up where what it holds fits its field and its shelf
  abbrev pub in_force : Option ℕ → Meaning T → Option ℕ
  in_force None s = None
  in_force (Some m) s = if fits s m then Some m else None

  abbrev pub state : Option ℕ → Meaning T → State
  state size s = shelf_state (in_force size s) s
