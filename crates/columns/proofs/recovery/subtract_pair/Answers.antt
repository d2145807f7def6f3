use Rattle.std.proofs.Common.{◌<◌, length, slice_set, ap, ◌∙◌, arith, length-set}
use Rattle.code.specs.Blocks.{◌∸◌}
use Rattle.columns.proofs.Slices.{read, written, written_else}
use Rattle.columns.proofs.recovery.subtract_pair.Goals as goal

pub returns : goal.returns
returns g c =
    let Y = g.F.Sums.symbols in
    let v = g.F.Sums.value in
    let xs = c.args.column.now in
    let low = c.args.low in
    let high = c.args.high in
    let s = c.minus.result in
    let t = c.minus-2.result in
    let inside : low < length xs = omega (arith, c.requires.rising, c.requires.inside) in
    let still : high < length (slice_set xs low s) = simp length-set c.requires.inside in
    record {
      low = written_else Y v (slice_set xs low s) high low t (λ e. omega (arith, c.requires.rising)) ∙ written Y v xs low s inside ∙ c.minus.ensures
          ∙ ap (λ z. ◌∸◌ Y.ring z (v c.args.numbers.0)) (read Y v xs low _ inside c.index-column-low.is);
      high = written Y v (slice_set xs low s) high t still ∙ c.minus-2.ensures
          ∙ ap (λ z. ◌∸◌ Y.ring z (v c.args.numbers.1)) (read Y v (slice_set xs low s) high _ still c.index-column-high.is ∙ written_else Y v xs low high s (λ e. omega (arith, c.requires.rising)));
      rest = λ a nl nh. written_else Y v (slice_set xs low s) high a t nh ∙ written_else Y v xs low a s nl;
    }
