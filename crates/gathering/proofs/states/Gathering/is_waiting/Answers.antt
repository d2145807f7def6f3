use Rattle.std.proofs.Common.{◌+◌, ◌*◌, not, ◌||◌, ◌==◌, sym, ◌∙◌, arith}
use Rattle.gathering.specs.Gatherings.{heard_by}
use Rattle.gathering.proofs.Boxes.{some_box, no_box}
use Rattle.gathering.proofs.states.Gathering.is_waiting.Goals as goal

pub returns-then-awaits : goal.returns-then-awaits
returns-then-awaits g c =
    let self = c.args.self.now in
    sym (some_box (λ b. not (b == self.lost.number || heard_by self.heard b)) (3 * self.lost.cabinet.size.m + 2) c.loop-b.b (omega arith) (omega arith) (sym c.awaits.ensures ∙ c.if-awaits.true))

pub returns : goal.returns
returns g c =
    let self = c.args.self.now in
    sym (no_box (λ b. not (b == self.lost.number || heard_by self.heard b)) 1 (3 * self.lost.cabinet.size.m + 2) (λ b first last. c.loop-b.invariant.1 b first (omega arith)))
