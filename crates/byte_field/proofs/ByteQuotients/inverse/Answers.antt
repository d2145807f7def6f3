use Rattle.std.proofs.Common.{◌≡◌, ap, ◌∙◌, arith}
use Rattle.field.proofs.Binary.{inverse_stands, inverts}
use Rattle.byte_field.specs.Bytes.{above_one}
use Rattle.byte_field.specs.Linear.{byte_product}
use Rattle.byte_field.specs.Product.{product, inverse}
use Rattle.byte_field.proofs.Steps.{inverted}
use Rattle.byte_field.proofs.ByteQuotients.inverse.Goals as goal

pub returns-else-self-eq0 : goal.returns-else-self-eq0
returns-else-self-eq0 c =
    let a = c.args.self.0 in
    let one : product a c.invert.result ≡ 1 = ap (product a) c.invert.ensures ∙ inverts 256 product inverse inverted a (omega arith) (omega arith) in
    inverse_stands 8 above_one product byte_product a _ one (omega arith) (omega arith)
