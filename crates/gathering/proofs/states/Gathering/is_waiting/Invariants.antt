use Rattle.std.proofs.Common.{◌≡◌, ℕ, ◌+◌, ◌*◌, ◌<◌, ◌≤◌, false, not, ◌||◌, ◌==◌}
use Rattle.gathering.specs.Gatherings.{heard_by}
use Rattle.gathering.proofs.states.Gathering.is_waiting.Given as goal

-- none of the boxes so far is missing
abbrev pub invariant-loop-b : goal.invariant-loop-b
invariant-loop-b g l =
    (l.boxes ≡ 3 * l.self.lost.cabinet.size.m + 2)
    × ((k : ℕ) → 1 ≤ k → k < l.b → not (k == l.self.lost.number || heard_by l.self.heard k) ≡ false)
