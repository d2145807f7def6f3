use Rattle.field.proofs.Binary.{binary_divides}
use Rattle.byte_field.specs.Bytes.{above_one}
use Rattle.byte_field.specs.Linear.{byte_product}
use Rattle.byte_field.specs.Product.{product, inverse}
use Rattle.byte_field.proofs.Steps.{inverted}
use Rattle.byte_field.proofs.ByteQuotients.divides.Goals as goal

pub returns : goal.returns
returns c = binary_divides 8 above_one product byte_product inverse inverted
