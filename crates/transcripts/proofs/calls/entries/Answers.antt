use Rattle.script.specs.Scripts.{IsCommand, command_value}
use Rattle.transcripts.proofs.Lists.{each_at}
use Rattle.transcripts.proofs.calls.entries.Goals as goal

pub call-requires : goal.call-requires
call-requires g c = each_at (IsCommand g.F.Sums.symbols.size) command_value c.args.commands.now c.loop-command.command-index c.command-item.result c.loop-command-test.true c.command-item.is c.requires
