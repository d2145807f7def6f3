use Rattle.std.proofs.Common.{◌≡◌, drop, map}
use Rattle.script.specs.Reading.{commands_at}
use Rattle.script.specs.Scripts.{command_value}
use Rattle.script.proofs.Turns.{with_front}
use Rattle.script.proofs.reading.commands.Given as goal

abbrev pub invariant-loop-letter : goal.invariant-loop-letter
invariant-loop-letter l = with_front (map command_value l.commands.items) (commands_at l.size (drop l.letter-index l.letters) l.rest) ≡ commands_at l.size l.letters l.text
