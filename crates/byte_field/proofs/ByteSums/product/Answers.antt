use Rattle.std.proofs.Common.{arith}
use Rattle.field.proofs.Binary.{product_stands}
use Rattle.byte_field.specs.Bytes.{above_one}
use Rattle.byte_field.specs.Linear.{byte_product}
use Rattle.byte_field.specs.Product.{product}
use Rattle.byte_field.proofs.ByteSums.product.Goals as goal

pub returns : goal.returns
returns c = product_stands 8 above_one product byte_product _ c.args.self.0 c.args.other.0 c.times.ensures (omega arith) (omega arith)
