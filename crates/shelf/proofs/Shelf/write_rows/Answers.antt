use Rattle.std.proofs.Common.{refl, sym, arith, tests}
use Rattle.shelf.proofs.Rows.{refused}
use Rattle.shelf.proofs.Turns.{write_none}
use Rattle.shelf.proofs.Shelf.write_rows.Goals as goal

pub returns-then-not-stands-clause-after : goal.returns-then-not-stands-clause-after
returns-then-not-stands-clause-after g c =
    let a = c.args in
    let r = refused (g.Self.Shelf.meaning a.self.now) a.b a.from a.symbols.now (g.met.Self.Shelf.sound a.self.now) in
    grind (arith, tests)

pub loop-i-init : goal.loop-i-init
loop-i-init g c = (sym (write_none _ _ _), refl, g.met.Self.Shelf.sound _, grind (arith, tests))
