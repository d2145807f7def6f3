use Rattle.byte_field.proofs.Remainders.{remainders}
use Rattle.byte_field.proofs.products_stand.Goals as goal

pub returns : goal.returns
returns c = remainders
