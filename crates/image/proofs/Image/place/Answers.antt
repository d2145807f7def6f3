use Rattle.frame.proofs.Calls.{located}
use Rattle.image.specs.Triples.{words}
use Rattle.image.proofs.Image.place.Goals as goal

pub returns : goal.returns
returns c = let s = c.args.self.now in located s.frame (words s.buffer.now) _ c.room.ensures c.args.b c.args.a c.place.result c.place.ensures
