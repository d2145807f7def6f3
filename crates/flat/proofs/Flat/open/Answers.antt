use Rattle.std.proofs.Common.{refl}
use Rattle.frame.proofs.Calls.{opened}
use Rattle.flat.proofs.Flat.open.Goals as goal

pub returns-clause-answer : goal.returns-clause-answer
returns-clause-answer g c =
    let s = c.args.self.now in
    opened s.frame s.buffer.now _ refl c.insert.new.self c.args.b c.insert.result c.insert.ensures.answer c.insert.ensures.after
