use Rattle.std.proofs.Common.{refl}
use Rattle.field.proofs.Binary.{binary_divides}
use Rattle.four.specs.Four.{above_one, product, inverse, four_product}
use Rattle.four.proofs.FourQuotients.divides.Goals as goal

pub returns : goal.returns
returns c = binary_divides 2 above_one product four_product inverse refl
