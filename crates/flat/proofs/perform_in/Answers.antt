use Rattle.std.proofs.Common.{rules}
use Rattle.frame.proofs.Calls.{kept_after}
use Rattle.flat.proofs.perform_in.Goals as goal

pub returns : goal.returns
returns g c = kept_after _ _ _ c.args.calls.now _ c.new-shelf.ensures.meaning c.perform_all.ensures.after (search rules)
