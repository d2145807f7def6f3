use Rattle.std.proofs.Common.{arith}
use Rattle.std.proofs.lemmas.Grind.{common_steps}
use Rattle.joined.proofs.Found.{associates}
use Rattle.joined.proofs.joining_associates.Goals as goal

pub returns : goal.returns
returns g c = record {
  together = λ m k j l r h. (grind (arith, common_steps), grind (arith, common_steps));
  too_many = λ m k j e f h. (grind (arith, common_steps), grind (arith, common_steps));
  neither_refused = λ m k j e f. grind (arith, common_steps);
  shelves = associates;
}
