use Rattle.run_cases.proofs.Lawful.{as_worked, boxes, declined, renewed_from_four}
use Rattle.run_cases.proofs.run_worked.Goals as goal

pub returns-clause-replies : goal.returns-clause-replies
returns-clause-replies g c n are = as_worked n _ _ _ _ _ are c.run_new.ensures.law c.worked_run.ensures

pub returns-clause-declined : goal.returns-clause-declined
returns-clause-declined g c n are = declined n _ _ _ _ _ are c.run_new.ensures.law c.worked_run.ensures

pub returns-clause-renewed : goal.returns-clause-renewed
returns-clause-renewed g c are = renewed_from_four _ _ _ _ _ are c.run_new.ensures.law c.worked_run.ensures

pub returns-clause-boxes : goal.returns-clause-boxes
returns-clause-boxes g c are = boxes _ _ _ _ _ are c.run_new.ensures.law (g.met.S.Shelf.sound c.run_new.result.shelf)
