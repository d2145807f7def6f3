use Rattle.shelf.proofs.Lawful.{lawful}
use Rattle.shelf.proofs.shelves_stand.Goals as goal

pub returns-clause-laws : goal.returns-clause-laws
returns-clause-laws g c = lawful
