-- What a gathering is known by: the size of its cabinet, its lost box, and the boxes that it has heard. Assumes nothing.
use Rattle.std.specs.Prelude.{◌≡◌, ℕ, Bool, List}
use Rattle.field.specs.declared.Sums.{Ghosts}
use Rattle.gathering.specs.declared.states.Gathering.{Gathering}

module _ {S : Type 0} {F : Ghosts S} where
  abbrev pub size_of : Gathering S F → ℕ
  size_of g = g.lost.cabinet.size.m

  abbrev pub lost_box : Gathering S F → ℕ
  lost_box g = g.lost.number

  -- two gatherings are of one lost box of one cabinet
  abbrev pub SameLost : Gathering S F → Gathering S F → Type 0
  SameLost g g' = g.lost ≡ g'.lost

  -- box by box: has it been heard?
  abbrev pub flags : Gathering S F → List Bool
  flags g = g.heard
