-- What a flat shelf holds, and in which buffer. Assumes nothing.
use Rattle.std.specs.Prelude.{ℕ, List, [], ◌∷◌}
use Rattle.shelf.specs.Meaning.{IsShelf, Meaning}
use Rattle.frame.specs.Frames.{framed, framed_sound}
use Rattle.flat.specs.declared.Flat.{Flat}

-- the symbols of the buffer, as its frame divides them
abbrev pub held : {T : Type 0} → Flat T → Meaning T
held s = framed s.frame s.buffer.now

-- the buffer, by the name of its reference
abbrev pub lent : {T : Type 0} → Flat T → List ℕ
lent s = s.buffer.ghost_name ∷ []

pub held_sound : {T : Type 0} (s : Flat T) → IsShelf (held s)
held_sound s = framed_sound s.frame s.buffer.now
