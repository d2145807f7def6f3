use Rattle.std.proofs.Common.{◌≡◌, ◌≤◌, arith, tests}
use Rattle.renewing.proofs.Numbers.{half_sent}
use Rattle.renewing.proofs.halves.send_half.Goals as goal

pub returns-clause-half : goal.returns-clause-half
returns-clause-half g c =
    let first : 1 ≤ c.args.helper = grind (arith, tests) in
    let same : g.S.Shelf.meaning c.stands.new.self ≡ g.S.Shelf.meaning c.args.shelf.now = grind arith in
    half_sent g.F.Sums.symbols g.F.Sums.value _ _ _ _ _ _ _ first same c.take_half.ensures.half
