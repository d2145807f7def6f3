use Rattle.std.proofs.Common.{◌∙◌, map}
use Rattle.std.proofs.lemmas.List.{map_push}
use Rattle.script.specs.Scripts.{command_value}
use Rattle.script.proofs.Turns.{commands_next}
use Rattle.script.proofs.reading.commands.Goals as goal

pub loop-letter-preserved : goal.loop-letter-preserved
loop-letter-preserved c =
    let l = c.loop-letter in
    rw (c.in_ok-push.ensures.items, map_push command_value l.commands.items c.in_ok-next.next)
    (commands_next (map command_value l.commands.items) c.args.size c.args.letters.now l.letter-index _ l.rest.now (command_value c.in_ok-next.next) c.in_ok-next.behind.now c.loop-letter-test.true c.in_ok-next.ensures
    ∙ l.invariant)
