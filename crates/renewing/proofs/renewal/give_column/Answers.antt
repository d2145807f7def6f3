use Rattle.std.proofs.Common.{◌≡◌, ◌-◌, ◌^◌, length, sym, subst, arith}
use Rattle.std.proofs.lemmas.Result.{MatchResult-at_ok}
use Rattle.code.specs.Codes.{Given, full}
use Rattle.code.specs.Contents.{at, parts}
use Rattle.stripe.proofs.Writes.{only_written, others_stay, rows_hold}
use Rattle.renewing.proofs.renewal.give_column.Goals as goal

pub returns-clause-given : goal.returns-clause-given
returns-clause-given g c =
    let Y = g.F.Sums.symbols in
    let m = c.args.stripe.now.cabinet.size.m in
    let halves = parts Y g.F.Sums.value (2 ^ (m - 1)) c.args.halves.now in
    subst (λ xs. Given (full Y m) (c.args.lost - 1) halves (at Y g.F.Sums.value xs))
    (sym (rows_hold _ _ _ _ _ c.write_rows.ensures.after m (omega arith) (g.met.S.Shelf.sound c.args.shelf.now) c.requires.rows))
    (MatchResult-at_ok _ _ _ c.unwrap.ensures c.restore.ensures.column)

pub returns-clause-others : goal.returns-clause-others
returns-clause-others g c = others_stay _ _ _ _ _ c.write_rows.ensures.after

pub returns-clause-only : goal.returns-clause-only
returns-clause-only g c =
    let m = c.args.stripe.now.cabinet.size.m in
    let long : length c.restore.new.column ≡ 2 ^ m = omega arith in
    only_written _ _ _ _ _ c.write_rows.ensures.after m long
