use Rattle.std.proofs.Common.{◌+◌, ◌*◌, ap, ap₂, ◌∙◌}
use Rattle.renewing.proofs.Restored.{renewed}
use Rattle.renewing.proofs.renewal.renew_standing.Goals as goal

pub returns-clause-renewed : goal.returns-clause-renewed
returns-clause-renewed g c =
    let e = ap₂ ◌*◌ (ap (λ n. n + 1) c.boxes.ensures) c.pairs.ensures.value in
    renewed g.F.Sums.symbols g.F.Sums.value _ _ _ c.requires.first _ _ _ _ _ (c.take_halves-taken.auto.halves ∙ c.split_at_mut-halves.ensures.front_len ∙ e)
    c.take_halves-taken.ensures.stays c.take_halves-taken.ensures.taken c.give_column.ensures.given c.give_column.ensures.others c.args.stripe.now.cabinet.size.some c.requires.data
