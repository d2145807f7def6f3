use Rattle.std.proofs.Common.{sym, ap, ◌∙◌, ap₂}
use Rattle.code.specs.Blocks.{◌∸◌}
use Rattle.code.specs.Codes.{full}
use Rattle.code.proofs.Theory.{recovered_given, proper, gap}
use Rattle.columns.proofs.recovery.write_column.Goals as goal

pub unreachable-requires : goal.unreachable-requires
unreachable-requires g c =
    let Y = g.F.Sums.symbols in
    let halves = c.args.halves.now in
    let size = halves.cabinet.size in
    let block = c.block-block.ensures in
    gap (full Y size.m) (proper Y size.m size.some halves.cabinet.marks) halves.lost
    (sym (c.gap.ensures ∙ ap₂ (◌∸◌ Y.ring) block.second block.first) ∙ c.in_default.ensures)

pub returns : goal.returns
returns g c =
    let Y = g.F.Sums.symbols in
    let halves = c.args.halves.now in
    let size = halves.cabinet.size in
    let block = c.block-block.ensures in
    let d = g.F.Sums.value c.in-Some.d in
    recovered_given (full Y size.m) (proper Y size.m size.some halves.cabinet.marks) halves.lost halves.data d
    (Y.ring.times_comm d _ ∙ ap (λ y. Y.ring.times y d) (sym (c.gap.ensures ∙ ap₂ (◌∸◌ Y.ring) block.second block.first)) ∙ c.in-Some.ensures) _ _ c.write.ensures
