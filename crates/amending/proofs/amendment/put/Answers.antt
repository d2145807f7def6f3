use Rattle.std.proofs.Common.{◌<◌, length, arith}
use Rattle.amending.proofs.Amends.{amended, change_is}
use Rattle.amending.proofs.amendment.put.Goals as goal

pub returns-clause-amended : goal.returns-clause-amended
returns-clause-amended g c =
    let Y = g.F.Sums.symbols in
    let v = g.F.Sums.value in
    let some = c.args.stripe.now.cabinet.size.some in
    let place = c.place_of-place.ensures.place in
    let inside : c.place_of-place.result < length c.args.file.now = omega (arith, c.place_of-place.ensures.inside, c.requires.whole) in
    amended Y v _ _ _ _ _ some c.requires.row place c.args.file.now inside c.args.x _ _ _ _ c.replace-change.ensures.file
    (change_is Y v _ c.args.stripe.now.from _ _ _ some c.requires.row place c.args.file.now inside c.args.x _ c.replace-change.ensures.change)
    c.requires.file c.write_change.ensures.moved
