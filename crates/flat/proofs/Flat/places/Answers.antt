use Rattle.std.proofs.Common.{refl}
use Rattle.frame.proofs.Calls.{rows_located}
use Rattle.flat.proofs.Flat.places.Goals as goal

pub returns : goal.returns
returns g c = let s = c.args.self.now in rows_located s.frame s.buffer.now _ refl c.args.b c.args.from c.args.count c.places.result c.places.ensures
