use Rattle.std.proofs.Common.{sym}
use Rattle.image.proofs.Triples.{length_words}
use Rattle.image.proofs.Image.room.Goals as goal

pub returns : goal.returns
returns c = sym (length_words c.args.self.now.buffer.now)
