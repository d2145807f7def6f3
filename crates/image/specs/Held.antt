-- What an image holds, and in which buffer. Assumes nothing.
use Rattle.std.specs.Prelude.{ℕ, List, [], ◌∷◌}
use Rattle.shelf.specs.Meaning.{IsShelf, Meaning}
use Rattle.frame.specs.Frames.{framed, framed_sound}
use Rattle.prime.specs.declared.words.Words.{Words}
use Rattle.image.specs.Triples.{words}
use Rattle.image.specs.declared.Image.{Image}

-- the words of the buffer, as its frame divides them
abbrev pub held : Image → Meaning Words
held s = framed s.frame (words s.buffer.now)

-- the buffer, by the name of its reference
abbrev pub lent : Image → List ℕ
lent s = s.buffer.ghost_name ∷ []

pub held_sound : (s : Image) → IsShelf (held s)
held_sound s = framed_sound s.frame (words s.buffer.now)
