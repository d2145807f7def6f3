use Rattle.std.proofs.Common.{◌∙◌}
use Rattle.vault_calls.proofs.Clearing.{next_cleared}
use Rattle.vault_calls.proofs.set_up.clear.Goals as goal

pub loop-b-preserved : goal.loop-b-preserved
loop-b-preserved g c =
    let f = g.F.Sums in
    (next_cleared f.symbols f.value c.loop-b.b _ _ _ c.loop-b.invariant.0 c.clear_box.ensures.after, c.clear_box.ensures.lender ∙ c.loop-b.invariant.1)
