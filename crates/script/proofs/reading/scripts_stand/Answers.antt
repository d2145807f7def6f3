use Rattle.script.proofs.ScriptLaws.{printed_once}
use Rattle.script.proofs.reading.scripts_stand.Goals as goal

pub returns : goal.returns
returns c = printed_once
