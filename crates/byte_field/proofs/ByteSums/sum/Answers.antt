use Rattle.std.proofs.Common.{refl}
use Rattle.field.proofs.Binary.{sum_stands}
use Rattle.byte_field.specs.Bytes.{above_one}
use Rattle.byte_field.specs.Linear.{byte_product}
use Rattle.byte_field.specs.Product.{product}
use Rattle.byte_field.proofs.ByteSums.sum.Goals as goal

pub returns : goal.returns
returns c = sum_stands 8 above_one product byte_product _ c.args.self.0 c.args.other.0 refl
