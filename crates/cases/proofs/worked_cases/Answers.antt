use Rattle.std.proofs.Common.{rules}
use Rattle.byte_field.specs.Product.{product}
use Rattle.cases.proofs.Small.{box_1, box_3, boxes_1_2}
use Rattle.cases.proofs.worked_cases.Goals as goal

pub returns : goal.returns
unfolding product
returns c = search (rules, box_1, box_3, boxes_1_2)
