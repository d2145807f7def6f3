use Rattle.std.proofs.Common.{map, ap, subst, ◌∙◌}
use Rattle.vault_laws.specs.Runs.{Run}
use Rattle.vault_runs.specs.Entries.{bare, calls, replies}
use Rattle.transcripts.proofs.Turns.{from_on, one_turn, put_from_on}
use Rattle.transcripts.proofs.runs.make_again.Goals as goal

pub returns : goal.returns
returns g c = λ r at.
    let f = g.F.Sums in
    let s = g.S.Shelf in
    let old = c.args.entries.now in
    let part = from_on c.min-from.result c.args.from old c.min-from.ensures in
    one_turn f.symbols f.value c.args.from r c.args.vault.now.size c.run.new.vault.size (s.meaning c.args.vault.now.shelf) (s.meaning c.run.new.vault.shelf) old c.run.new.entries _ at
    (subst (λ es. Run f.symbols f.value (calls es) (replies c.run.new.entries) c.args.vault.now.size (s.meaning c.args.vault.now.shelf) c.run.new.vault.size (s.meaning c.run.new.vault.shelf)) part c.run.ensures.run)
    (c.run.ensures.calls ∙ ap (λ es. map bare (calls es)) part)
    (put_from_on c.min-from.result c.args.from old c.min-from.ensures c.run.new.entries)
