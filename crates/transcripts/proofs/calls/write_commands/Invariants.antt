use Rattle.std.proofs.Common.{◌≡◌, ◌++◌, drop, length, map}
use Rattle.std.specs.String.{string_bytes}
use Rattle.script.specs.Scripts.{command_value}
use Rattle.transcripts.specs.Lines.{command_lines}
use Rattle.transcripts.specs.Entries.{came_to}
use Rattle.transcripts.proofs.calls.write_commands.Given as goal

-- what is written, with the lines that are left, is all of it
abbrev pub invariant-loop-command : goal.invariant-loop-command
invariant-loop-command g l =
    let f = g.F.Sums in
    let done = length l.yielded in
    string_bytes l.out ++ command_lines (map command_value (drop done l.commands)) (map (came_to f.symbols f.value) (drop done l.entries))
    ≡ string_bytes l.initial.out ++ command_lines (map command_value l.commands) (map (came_to f.symbols f.value) l.entries)
