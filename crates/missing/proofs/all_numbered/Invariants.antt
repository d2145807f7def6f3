use Rattle.std.proofs.Common.{◌≡◌, drop}
use Rattle.missing.specs.Missing.{wrong_boxes}
use Rattle.missing.proofs.all_numbered.Given as goal

-- none so far is wrong
abbrev pub invariant-loop-b : goal.invariant-loop-b
invariant-loop-b l = wrong_boxes l.n (drop l.b-index l.out) ≡ wrong_boxes l.n l.out
