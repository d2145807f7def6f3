use Rattle.stripe_file.proofs.Searches.{none_out, one_out, two_out, third_out}
use Rattle.stripe_file.proofs.search.find.Goals as goal

pub returns-in_default-clause-answer : goal.returns-in_default-clause-answer
returns-in_default-clause-answer g c = none_out (g.S.Shelf.meaning c.args.shelf.now) c.args.n c.in_default.ensures.lowest

pub returns-in_default-lowest_out-clause-answer : goal.returns-in_default-lowest_out-clause-answer
returns-in_default-lowest_out-clause-answer g c = one_out (g.S.Shelf.meaning c.args.shelf.now) c.args.n _ _ c.lowest_out.ensures.stays c.in-Some.ensures.lowest c.in_default-lowest_out.ensures.lowest

pub returns-in-None-clause-answer : goal.returns-in-None-clause-answer
returns-in-None-clause-answer g c =
    two_out (g.S.Shelf.meaning c.args.shelf.now) c.args.n _ _ _ _ c.lowest_out.ensures.stays c.lowest_out-2.ensures.stays c.in-Some.ensures.lowest c.in-Some-lowest_out.ensures.lowest c.in-None.ensures.lowest

pub returns-in-Some-lowest_out-2-clause-answer : goal.returns-in-Some-lowest_out-2-clause-answer
returns-in-Some-lowest_out-2-clause-answer g c =
    third_out (g.S.Shelf.meaning c.args.shelf.now) c.args.n _ _ _ _ c.lowest_out.ensures.stays c.lowest_out-2.ensures.stays c.in-Some.ensures.lowest c.in-Some-lowest_out.ensures.lowest _ c.in-Some-lowest_out-2.ensures.lowest
