use Rattle.std.proofs.Common.{sym, ap, ◌∙◌}
use Rattle.run_cases.specs.Numbers.{shown}
use Rattle.run_cases.proofs.Reading.{fourth, reads_alike, stays, three_stay}
use Rattle.run_cases.proofs.read_alike.Goals as goal

pub returns-clause-read : goal.returns-clause-read
returns-clause-read g c are three =
    reads_alike _ _ _ _ _ are c.run_new-first.ensures.law (g.met.S.Shelf.sound c.run_new-first.result.shelf) _ _ _ _ _ c.run_new-second.ensures.run c.run_new-second.ensures.law (three_stay _ _ _ _ _ _ c.read-2.ensures.does three)
    _ _ _ _ _ _ _ _ _ c.read.ensures.does c.read-2.ensures.does

pub returns-clause-fourth : goal.returns-clause-fourth
returns-clause-fourth g c are three xs e =
    fourth _ _ _ _ _ are c.run_new-first.ensures.law (g.met.S.Shelf.sound c.run_new-first.result.shelf) _ _ _ _ _ c.run_new-second.ensures.run c.run_new-second.ensures.law (three_stay _ _ _ _ _ _ c.read-2.ensures.does three)
    (g.met.U.Shelf.sound c.run_new-second.result.shelf) xs (ap (λ s. shown s 4) (sym (stays _ _ _ _ _ _ c.read-2.ensures.does).1) ∙ e)
