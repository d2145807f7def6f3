use Rattle.std.proofs.Common.{rules}
use Rattle.field.proofs.Binary.{product_stands}
use Rattle.four.specs.Four.{above_one, product, four_product}
use Rattle.four.proofs.FourSums.product.Goals as goal

pub returns : goal.returns
returns c = product_stands 2 above_one product four_product _ _ _ c.multiply.ensures (search rules) (search rules)
