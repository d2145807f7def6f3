use Rattle.std.proofs.Common.{◌∙◌, sym}
use Rattle.std.proofs.lemmas.Option.{none-some}
use Rattle.script.specs.Scripts.{script_value}
use Rattle.script.proofs.ScriptLaws.{text_read, text_again}
use Rattle.script.proofs.reading.parse.Goals as goal

pub returns-in-Ok-clause-read : goal.returns-in-Ok-clause-read
returns-in-Ok-clause-read c = text_read c.args.text.now (script_value c.in-Ok.script) c.in-Ok.ensures

pub returns-in-Ok-clause-only : goal.returns-in-Ok-clause-only
returns-in-Ok-clause-only c s is = sym c.in-Ok.ensures ∙ text_again c.args.text.now s is

pub returns-in-Err-Malformed-clause-none : goal.returns-in-Err-Malformed-clause-none
returns-in-Err-Malformed-clause-none c s is = none-some s (sym (rw c.in-Err-Malformed.field-0-is at c.in-Err-Malformed.ensures) ∙ text_again c.args.text.now s is)

pub returns-in-Err-Malformed-clause-only : goal.returns-in-Err-Malformed-clause-only
returns-in-Err-Malformed-clause-only c s is = sym (rw c.in-Err-Malformed.field-0-is at c.in-Err-Malformed.ensures) ∙ text_again c.args.text.now s is
