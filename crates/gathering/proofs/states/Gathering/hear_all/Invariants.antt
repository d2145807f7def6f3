use Rattle.std.proofs.Common.{◌≡◌, take, drop}
use Rattle.gathering.proofs.Turns.{Midway}
use Rattle.gathering.proofs.states.Gathering.hear_all.Given as goal

abbrev pub invariant-loop-message : goal.invariant-loop-message
invariant-loop-message g l =
    (l.self.lost ≡ l.initial.self.lost)
    × Midway l.initial.self.lost.cabinet.size.m l.initial.self.lost.number l.messages l.initial.store (take l.message-index l.messages) (drop l.message-index l.messages) l.self.heard l.store
