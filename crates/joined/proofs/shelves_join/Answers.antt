use Rattle.std.proofs.Common.{arith}
use Rattle.std.proofs.lemmas.Grind.{common_steps}
use Rattle.shelf.proofs.Places.{in_box-left, in_box-right}
use Rattle.joined.proofs.shelves_join.Goals as goal

pub returns : goal.returns
returns g c = record {
  together = λ m k l h. record {
    rows = grind (arith, common_steps);
    counts = grind (arith, common_steps);
    first = λ b i. grind (arith, common_steps, in_box-left);
    second = λ b i. grind (arith, common_steps, in_box-right);
  };
  other_lengths = λ m k l. grind (arith, common_steps);
  too_many = λ m k h. grind (arith, common_steps);
}
