use Rattle.joined.proofs.Found.{first-with_standing, second-with_standing}
use Rattle.joined.proofs.JoinedShelf.insert.Goals as goal

pub returns-in-First-clause-after : goal.returns-in-First-clause-after
returns-in-First-clause-after g c =
    rw (c.insert.ensures.after, c.side.ensures.first, c.side.ensures.second) (first-with_standing _ _ _ _ c.in-First.ensures.answer _)

pub returns-in-Second-clause-after : goal.returns-in-Second-clause-after
returns-in-Second-clause-after g c =
    rw (c.insert-in-Second.ensures.after, c.side.ensures.first, c.side.ensures.second) (second-with_standing _ _ _ _ c.in-Second.ensures.answer _)
