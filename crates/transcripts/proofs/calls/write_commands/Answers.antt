use Rattle.std.proofs.Common.{length, rules}
use Rattle.std.proofs.lemmas.List.{length_push}
use Rattle.std.proofs.lemmas.Slice.Zip.{zip_end, zip_turn}
use Rattle.std.specs.String.{string_bytes}
use Rattle.script.specs.Scripts.{command_value}
use Rattle.transcripts.specs.Entries.{came_to}
use Rattle.transcripts.proofs.Printing.{over, turn}
use Rattle.transcripts.proofs.calls.write_commands.Goals as goal

pub loop-command-preserved : goal.loop-command-preserved
loop-command-preserved g c =
    let f = g.F.Sums in
    let t = zip_turn c.args.commands.now c.args.entries.now c.loop-command.yielded c.into_iter-command-iterator.result c.loop-command.command-iterator c.next.new.self c.next.result (search rules) (search rules) c.loop-command.yielded_by (c.in-Some.command, c.in-Some.entry) c.in-Some.is c.next.ensures.steps in
    turn command_value (came_to f.symbols f.value) c.args.commands.now c.args.entries.now (length c.loop-command.yielded) _ c.in-Some.command.now c.in-Some.entry.now (string_bytes c.args.out.now) (string_bytes c.loop-command.out) (string_bytes c.write_command.new.out) (length_push c.loop-command.yielded (c.in-Some.command, c.in-Some.entry)) t.0 t.1 (t.2 _) (t.3 _) c.loop-command.invariant c.in_ok-write_command.ensures

pub returns : goal.returns
returns g c =
    let f = g.F.Sums in
    let e = zip_end c.args.commands.now c.args.entries.now c.loop-command.yielded c.into_iter-command-iterator.result c.loop-command.command-iterator c.next.new.self c.next.result (search rules) (search rules) c.loop-command.yielded_by c.in-None.is c.next.ensures.steps in
    over command_value (came_to f.symbols f.value) c.args.commands.now c.args.entries.now (length c.loop-command.yielded) (string_bytes c.args.out.now) (string_bytes c.loop-command.out) e c.loop-command.invariant
