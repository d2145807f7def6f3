use Rattle.std.proofs.Common.{sym}
use Rattle.frame.proofs.Calls.{no_row}
use Rattle.flat.proofs.FlatShelf.store.Goals as goal

pub returns-in_default-clause-after : goal.returns-in_default-clause-after
returns-in_default-clause-after g c = let s = c.args.self.now in sym (no_row s.frame s.buffer.now c.args.b c.args.a c.args.x c.in_default.ensures.row)
