use Rattle.field.proofs.Binary.{sum_stands}
use Rattle.four.specs.Four.{above_one, product, four_product}
use Rattle.four.proofs.FourSums.sum.Goals as goal

pub returns : goal.returns
returns c = sum_stands 2 above_one product four_product _ _ _ c.add.ensures
