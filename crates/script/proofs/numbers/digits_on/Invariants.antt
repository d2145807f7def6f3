use Rattle.std.proofs.Common.{◌≡◌, ◌<◌, ◌^◌, drop}
use Rattle.script.specs.Reading.{digits_on as digits_at}
use Rattle.script.proofs.numbers.digits_on.Given as goal

-- from here on the number goes on as from the beginning
abbrev pub invariant-loop-i : goal.invariant-loop-i
invariant-loop-i l = (l.n < 10 ^ 9) × (digits_at l.n (drop l.i l.text) ≡ digits_at l.first l.text)
