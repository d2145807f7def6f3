use Rattle.std.proofs.Common.{◌≡◌, subst, sym, arith}
use Rattle.transcripts.specs.Entries.{IsAt}
use Rattle.transcripts.specs.Rounds.{turn, turns}
use Rattle.transcripts.proofs.Turns.{iterate-more}
use Rattle.transcripts.proofs.runs.make_turns.Goals as goal

pub loop-preserved : goal.loop-preserved
loop-preserved g c = λ r at.
    let f = g.F.Sums in
    let s = g.S.Shelf in
    subst (λ x. IsAt f.symbols f.value x c.make_again.new.vault.size (s.meaning c.make_again.new.vault.shelf) c.make_again.new.entries)
    (sym (iterate-more (turn f.symbols c.args.again.from) c.loop.counter r))
    (c.make_again.ensures (turns f.symbols c.args.again.from c.loop.counter r) (c.loop.invariant r at))

pub returns : goal.returns
returns g c =
    let f = g.F.Sums in
    let s = g.S.Shelf in
    let all : c.loop.counter ≡ c.args.again.times = omega (arith, c.loop-test.false, c.loop.auto.counter-end) in
    λ r at. subst (λ n. IsAt f.symbols f.value (turns f.symbols c.args.again.from n r) c.loop.vault.size (s.meaning c.loop.vault.shelf) c.loop.entries) all (c.loop.invariant r at)
