use Rattle.frame.proofs.Calls.{rows_located}
use Rattle.image.specs.Triples.{words}
use Rattle.image.proofs.Image.places.Goals as goal

pub returns : goal.returns
returns c = let s = c.args.self.now in rows_located s.frame (words s.buffer.now) _ c.room.ensures c.args.b c.args.from c.args.count c.places.result c.places.ensures
