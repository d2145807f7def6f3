use Rattle.renewing.proofs.Restored.{others_still, put_in, renewed_out, stands_now, stripe_still}
use Rattle.renewing.proofs.renewal.renew_absent.Goals as goal

pub renew_standing-requires-clause-stripe : goal.renew_standing-requires-clause-stripe
renew_standing-requires-clause-stripe g c = stripe_still c.args.lost (g.S.Shelf.meaning c.args.shelf.now) _ c.zero.result c.insert.ensures.after _ _ c.requires.stripe

pub renew_standing-requires-clause-stands : goal.renew_standing-requires-clause-stands
renew_standing-requires-clause-stands g c =
    stands_now c.args.lost (g.S.Shelf.meaning c.args.shelf.now) _ c.zero.result c.insert.ensures.after c.requires.first _ _ c.requires.stripe c.requires.data c.requires.out

pub renew_standing-requires-clause-others : goal.renew_standing-requires-clause-others
renew_standing-requires-clause-others g c = others_still c.args.lost (g.S.Shelf.meaning c.args.shelf.now) _ c.zero.result c.insert.ensures.after c.requires.first _ c.requires.others

pub returns-clause-renewed : goal.returns-clause-renewed
returns-clause-renewed g c = renewed_out _ _ _ _ _ c.requires.first _ _ _ c.zero.result c.insert.ensures.after _ c.renew_standing.ensures.renewed

pub returns-clause-put_in : goal.returns-clause-put_in
returns-clause-put_in g c =
    put_in _ _ _ _ _ c.requires.first _ _ _ c.zero.result c.insert.ensures.after c.requires.stripe c.requires.data c.requires.out c.zero.ensures c.renew_standing.ensures.only
