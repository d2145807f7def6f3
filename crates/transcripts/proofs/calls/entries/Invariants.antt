use Rattle.std.proofs.Common.{◌≡◌, map, take}
use Rattle.script.specs.Scripts.{command_value}
use Rattle.transcripts.specs.Calls.{calls_of, numbered_call}
use Rattle.transcripts.specs.Entries.{called}
use Rattle.transcripts.proofs.calls.entries.Given as goal

abbrev pub invariant-loop-command : goal.invariant-loop-command
invariant-loop-command g l =
    let f = g.F.Sums in
    (l.lengths.m ≡ l.m)
    × (map (λ e. numbered_call f.symbols (called f.symbols f.value e)) l.entries.items ≡ calls_of f.symbols l.m (map command_value (take l.command-index l.commands)))
