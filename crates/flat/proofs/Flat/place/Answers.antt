use Rattle.std.proofs.Common.{refl}
use Rattle.frame.proofs.Calls.{located}
use Rattle.flat.proofs.Flat.place.Goals as goal

pub returns : goal.returns
returns g c = let s = c.args.self.now in located s.frame s.buffer.now _ refl c.args.b c.args.a c.place.result c.place.ensures
