-- Why a call is declined that wants a box to stand, or to be out. Assumes nothing.
use Rattle.std.specs.Prelude.{ℕ, not}
use Rattle.refusal.specs.Refusals.{Reason, where_holds}
use Rattle.refusal.specs.declared.Refusal.TheVariants.{Out, Standing}
use Rattle.shelf.specs.Meaning.{Meaning, is_standing}

-- box b is out
abbrev pub box_out : {T : Type 0} → Meaning T → ℕ → Reason
box_out s b = where_holds (not (is_standing s b)) Out

-- box b stands
abbrev pub box_stands : {T : Type 0} → Meaning T → ℕ → Reason
box_stands s b = where_holds (is_standing s b) Standing
