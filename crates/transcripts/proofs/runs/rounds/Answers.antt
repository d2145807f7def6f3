use Rattle.std.proofs.lemmas.Result.{IfOk-weaker}
use Rattle.script.specs.declared.commands.FieldName.TheVariants.{Five, Four, Bytes, Words}
use Rattle.transcripts.proofs.Read.{commands_take, rounds_of}
use Rattle.transcripts.proofs.runs.rounds.Goals as goal

pub returns-in-Five-clause-script : goal.returns-in-Five-clause-script
returns-in-Five-clause-script c = IfOk-weaker c.run_flat.result _ _ (λ out. rounds_of c.args.text.now c.in_ok-script.field-0 c.in-Some.script c.in-Some.is c.args.from c.args.times Five _ c.in-Five.is c.in_ok-script.ensures.only) c.run_flat.ensures

pub run_flat-requires-in-Four : goal.run_flat-requires-in-Four
run_flat-requires-in-Four c = commands_take c.args.text.now c.in_ok-script.field-0 c.in-Some.script c.in-Some.is Four c.in-Four.is c.in_ok-script.ensures.read

pub run_flat-requires-in-Bytes : goal.run_flat-requires-in-Bytes
run_flat-requires-in-Bytes c = commands_take c.args.text.now c.in_ok-script.field-0 c.in-Some.script c.in-Some.is Bytes c.in-Bytes.is c.in_ok-script.ensures.read

pub run_joined-requires : goal.run_joined-requires
run_joined-requires c = commands_take c.args.text.now c.in_ok-script.field-0 c.in-Some.script c.in-Some.is Words c.in-Words.is c.in_ok-script.ensures.read
