use Rattle.std.proofs.Common.{◌∙◌}
use Rattle.vault_runs.proofs.Runs.{turn}
use Rattle.vault_runs.proofs.run.Goals as goal

pub loop-entry-preserved : goal.loop-entry-preserved
loop-entry-preserved g c =
    let f = g.F.Sums in
    let inv = c.loop-entry.invariant in
    let made = c.serve-entry in
    let t = turn f.symbols f.value _ _ _ _ _ _ c.args.entries.now c.loop-entry.entries c.loop-entry.entry-index c.entry-item.result (record { call = made.new.call; answer = made.result })
    c.loop-entry-test.true inv.3 inv.2 inv.0 inv.1 made.ensures.does made.ensures.call in
    (t.0, t.1, t.2, t.3, made.ensures.lender ∙ inv.4)
