use Rattle.std.proofs.Common.{◌≡◌, ◌*◌, ◌^◌, length, sym, ap, ◌∙◌, subst, arith}
use Rattle.code.specs.Codes.{full, sum}
use Rattle.code.specs.Contents.{at, parts}
use Rattle.columns.specs.Parities.{share}
use Rattle.columns.proofs.Shares.{shares_more, all_parts}
use Rattle.columns.proofs.Slices.{Left, left_part, left_more}
use Rattle.columns.proofs.parity.Parity.write.Goals as goal

pub loop-b-preserved : goal.loop-b-preserved
loop-b-preserved g c =
    let Y = g.F.Sums.symbols in
    let v = g.F.Sums.value in
    let m = c.args.cabinet.now.size.m in
    let steps = c.in-Some.ensures.steps in
    let x = c.in-Some.column.now in
    let b = c.in-Some.b in
    let came = c.loop-b.b-iterator.count in
    let file = c.args.file.now in
    let code = full Y m in
    let inv = c.loop-b.invariant in
    let size : length x ≡ 2 ^ m = steps.0.1.1 ∙ inv.0 in
    let next = left_more Y v (2 ^ m) came file _ x _ steps.0.1.0 size inv.1 in (
      steps.0.0 ∙ inv.0,
      subst (λ k. Left Y v (2 ^ m) k file c.next.new.self.iter.rest.now) (sym steps.2) next,
      λ a l.
          c.add_share.ensures a l
          ∙ shares_more c.args.self code c.args.cabinet.now.size.some (parts Y v (2 ^ m) file) (at Y v x) came _ _ a steps.1 steps.2
          (left_part Y v (2 ^ m) came file _ x _ steps.0.1.0 size inv.1) l _ (inv.2 a l),
    )

pub returns : goal.returns
returns g c =
    let Y = g.F.Sums.symbols in
    let v = g.F.Sums.value in
    let m = c.args.cabinet.now.size.m in
    let code = full Y m in
    let inv = c.loop-b.invariant in
    let file = parts Y v (2 ^ m) c.args.file.now in
    let short = c.in-None.ensures.steps.0.1.0 in
    let all : c.loop-b.b-iterator.count ≡ 3 * m = all_parts c.loop-b.b-iterator.count (3 * m) (2 ^ m) (length c.loop-b.b-iterator.iter.rest.now) (inv.1.long ∙ c.requires.whole) (omega (arith, short, inv.0)) in
    λ a l. inv.2 a l ∙ ap (λ k. sum Y.ring k (λ b. share c.args.self code b (file b) a)) all
