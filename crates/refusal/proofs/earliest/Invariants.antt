use Rattle.std.proofs.Common.{◌≡◌, drop}
use Rattle.refusal.specs.Refusals.{earliest}
use Rattle.refusal.proofs.earliest.Given as goal

-- no reason so far fits
abbrev pub invariant-loop-reason : goal.invariant-loop-reason
invariant-loop-reason l = earliest (drop l.reason-index l.reasons) ≡ earliest l.reasons
