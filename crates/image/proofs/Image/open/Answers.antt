use Rattle.frame.proofs.Calls.{opened}
use Rattle.image.specs.Triples.{words}
use Rattle.image.proofs.Image.open.Goals as goal

pub returns-clause-answer : goal.returns-clause-answer
returns-clause-answer c =
    let s = c.args.self.now in
    opened s.frame (words s.buffer.now) _ c.room-room.ensures c.insert.new.self c.args.b c.insert.result c.insert.ensures.answer c.insert.ensures.after
