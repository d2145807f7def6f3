use Rattle.std.proofs.lemmas.Result.{on_ok_weaker}
use Rattle.std.specs.String.{string_bytes}
use Rattle.script.specs.Scripts.{command_value, letter}
use Rattle.script.specs.Transcripts.{answered, status}
use Rattle.script.proofs.Words.{letter_joined}
use Rattle.script.proofs.transcript.write_ran.Goals as goal

pub returns : goal.returns
returns c =
    on_ok_weaker c.write_outcome.result
    (letter_joined (string_bytes c.args.out.now) (string_bytes c.write_letter.new.out) (string_bytes c.write_outcome.new.out) (letter (command_value c.args.command.now)) (status c.args.outcome.now) (answered c.args.outcome.now) c.in_ok-write_letter.ensures)
    c.write_outcome.ensures
