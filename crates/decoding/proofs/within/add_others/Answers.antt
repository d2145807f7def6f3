use Rattle.std.proofs.Common.{◌≡◌, ◌+◌, ◌^◌, ◌⊎◌, inl, inr, sym, subst}
use Rattle.code.specs.Codes.{full}
use Rattle.code.specs.Contents.{parts}
use Rattle.decoding.proofs.Filled.{Upto, upto_skip, upto_more}
use Rattle.decoding.proofs.within.add_others.Goals.{then-b-x+then-b-y, else-b-x, else-b-x-via-then-b-x+else-b-y, else-b-x-via-else-b-x}
use Rattle.decoding.proofs.within.add_others.Goals as goal

pub loop-b-preserved : goal.loop-b-preserved
loop-b-preserved g c =
    let Y = g.F.Sums.symbols in
    let v = g.F.Sums.value in
    let size = c.args.cabinet.now.size in
    let code = full Y size.m in
    let x = c.args.x in
    let y = c.args.y in
    let which = c.args.which in
    let into = c.args.into in
    let b = c.loop-b.b in
    let before = parts Y v (2 ^ size.m) c.args.file.now in
    let inv = c.loop-b.invariant in
    elim c.if-b-x.branch [
      | then-b-x+then-b-y w ↦
          subst (λ file. Upto code size.some which x y into before (b + 1) (parts Y v (2 ^ size.m) file)) (sym w.file-is)
          (upto_more code size.some which x y into before c.requires.one b _ _ w.if-b-x.true w.if-b-y.true inv w.add_within.ensures)
      | else-b-x w ↦
          let aside : (b ≡ x) ⊎ (b ≡ y) = elim w.else-b-x.branch [
            | else-b-x-via-then-b-x+else-b-y k ↦ inr k.if-b-y.false
            | else-b-x-via-else-b-x k ↦ inl k.if-b-x.false
          ] in
          subst (λ file. Upto code size.some which x y into before (b + 1) (parts Y v (2 ^ size.m) file)) (sym w.file-is)
          (upto_skip code size.some which x y into before b _ aside inv)
    ]
