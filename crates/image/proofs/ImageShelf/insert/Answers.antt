use Rattle.std.proofs.Common.{sym, ap, ◌∙◌}
use Rattle.frame.specs.Frames.{framed}
use Rattle.frame.proofs.Calls.{not_out}
use Rattle.image.specs.Triples.{words}
use Rattle.image.proofs.ImageShelf.insert.Goals as goal

pub returns-in_default-clause-after : goal.returns-in_default-clause-after
returns-in_default-clause-after c =
    let s = c.args.self.now in
    let opened = c.in_default.ensures in
    ap (λ bytes. framed c.open.new.self.frame (words bytes)) opened.bytes ∙ opened.answer.same ∙ sym (not_out s.frame (words s.buffer.now) c.args.b c.args.x opened.answer.out)
