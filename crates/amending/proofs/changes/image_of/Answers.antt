use Rattle.std.proofs.Common.{true, false, refl, sym, ap, ◌∙◌}
use Rattle.code.specs.Rows.{digit, odd}
use Rattle.amending.proofs.Singles.{image_across}
use Rattle.amending.proofs.changes.image_of.Goals as goal

pub returns-then-is_upper-clause-across : goal.returns-then-is_upper-clause-across
returns-then-is_upper-clause-across g c =
    image_across g.F.Sums.symbols _ _ _ _ true _ _ _ _ _ _ (ap (λ k. odd (digit k c.args.a)) (sym c.digit.ensures.place) ∙ sym c.is_upper.ensures ∙ c.if-is_upper.true)
    c.block-block.ensures c.zero.ensures refl c.apply-low.ensures.lower

pub returns-else-is_upper-clause-across : goal.returns-else-is_upper-clause-across
returns-else-is_upper-clause-across g c =
    image_across g.F.Sums.symbols _ _ _ _ false _ _ _ _ _ _ (ap (λ k. odd (digit k c.args.a)) (sym c.digit.ensures.place) ∙ sym c.is_upper.ensures ∙ c.if-is_upper.false)
    c.block-block.ensures refl c.zero-else-is_upper.ensures c.apply.ensures.upper
