use Rattle.std.proofs.Common.{sym}
use Rattle.frame.proofs.Calls.{no_row}
use Rattle.image.specs.Triples.{words}
use Rattle.image.proofs.ImageShelf.store.Goals as goal

pub returns-in_default-clause-after : goal.returns-in_default-clause-after
returns-in_default-clause-after c = let s = c.args.self.now in sym (no_row s.frame (words s.buffer.now) c.args.b c.args.a c.args.x c.in_default.ensures.row)
