use Rattle.std.proofs.Common.{◌≡◌, ◌-◌}
use Rattle.script.specs.Reading.{numbers_at}
use Rattle.script.proofs.Turns.{with_front}
use Rattle.script.proofs.numbers.numbers.Given as goal

abbrev pub invariant-loop : goal.invariant-loop
invariant-loop l = with_front l.numbers.items (numbers_at (l.limit - l.counter) l.rest) ≡ numbers_at l.limit l.text
