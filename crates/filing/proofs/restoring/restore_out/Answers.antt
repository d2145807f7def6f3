use Rattle.std.proofs.Common.{◌^◌}
use Rattle.code.specs.Contents.{parts}
use Rattle.filing.proofs.Restores.{first_asked, restored}
use Rattle.filing.proofs.restoring.restore_out.Goals as goal

pub returns-clause-boxes : goal.returns-clause-boxes
returns-clause-boxes g c =
    let Y = g.F.Sums.symbols in
    let v = g.F.Sums.value in
    let stripe = c.args.stripe.now in
    let m = stripe.cabinet.size.m in
    restored Y v m stripe.from (parts Y v (2 ^ m) c.read_file.new.file) c.in_ok-out.out (g.S.Shelf.meaning c.args.shelf.now) _ _ _ c.read_file.ensures.stays
    (first_asked _ _ _ c.in_ok-out.ensures.answer) c.in_ok-out.ensures.missing c.put_in.ensures.after c.write_listed.ensures.after
