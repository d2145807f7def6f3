use Rattle.std.proofs.Common.{ap, ◌∙◌, map, replicate}
use Rattle.std.proofs.Common.{arith}
use Rattle.std.proofs.lemmas.Grind.{common_steps}
use Rattle.transcripts.proofs.Lists.{twice_replicate}
use Rattle.transcripts.proofs.lengths.zeros.Goals as goal

pub returns-clause-zero : goal.returns-clause-zero
returns-clause-zero g c =
    let f = g.F.Sums in
    ap (λ xs. map f.symbols.number (map f.value xs)) (grind (arith, common_steps, c.in_ok-resize.ensures.items, c.new-zeros.ensures.items))
    ∙ twice_replicate f.symbols.number f.value c.args.n c.zero.result
    ∙ ap (λ x. replicate c.args.n (f.symbols.number x)) c.zero.ensures
