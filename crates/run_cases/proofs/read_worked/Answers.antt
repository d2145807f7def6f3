use Rattle.run_cases.proofs.Reading.{reads_newest}
use Rattle.run_cases.proofs.read_worked.Goals as goal

pub returns : goal.returns
returns g c = record { newest = λ are long. reads_newest _ _ _ _ _ are c.run_new.ensures.law c.args.into.now c.read.new.into c.read.result _ _ c.read.ensures.does long }
