use Rattle.joined.proofs.Found.{first-change, second-change}
use Rattle.joined.proofs.JoinedShelf.write_rows.Goals as goal

pub returns-in-First-clause-after : goal.returns-in-First-clause-after
returns-in-First-clause-after g c =
    rw (c.write_rows.ensures.after, c.side.ensures.first, c.side.ensures.second) (first-change _ _ _ _ c.in-First.ensures.answer _)

pub returns-in-Second-clause-after : goal.returns-in-Second-clause-after
returns-in-Second-clause-after g c =
    rw (c.write_rows-in-Second.ensures.after, c.side.ensures.first, c.side.ensures.second) (second-change _ _ _ _ c.in-Second.ensures.answer _)
