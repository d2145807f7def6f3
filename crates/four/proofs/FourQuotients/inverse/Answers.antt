use Rattle.std.proofs.Common.{rules, ◌≡◌, Option, Some, None, ap}
use Rattle.std.specs.Option.{MatchOption}
use Rattle.field.proofs.Binary.{inverse_stands}
use Rattle.field.specs.Numbers.{residue}
use Rattle.four.specs.Four.{above_one, product, four_number, four_product, four_symbols, four_value}
use Rattle.four.specs.declared.Four.{Four}
use Rattle.four.proofs.FourQuotients.inverse.Goals as goal

stands : (a : Four) (r : Option Four) → MatchOption r (four_number a ≡ 0) (λ b. product (four_number a) (four_number b) ≡ 1)
    → MatchOption r (four_value a ≡ residue 4 above_one 0) (λ b. four_symbols.ring.times (four_value a) (four_value b) ≡ residue 4 above_one 1)
stands a None e = ap (residue 4 above_one) e
stands a (Some b) e = inverse_stands 2 above_one product four_product _ _ e (search rules) (search rules)

pub returns : goal.returns
returns c = stands c.args.self c.invert.result c.invert.ensures
