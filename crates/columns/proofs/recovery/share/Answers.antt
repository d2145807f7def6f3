use Rattle.std.proofs.Common.{◌≡◌, ℕ, ◌-◌, ◌^◌, ◌<◌, Bool, true, false, if◌then◌else◌, sym, ap, ◌∙◌, arith}
use Rattle.code.specs.Blocks.{block}
use Rattle.code.specs.Contents.{at}
use Rattle.code.specs.Rows.{pair_of}
use Rattle.code.proofs.Pairing.{pair_below}
use Rattle.columns.proofs.Slices.{read}
use Rattle.columns.proofs.recovery.share.Goals as goal

-- a test whose answer is known
chosen : {A : Type 0} (b c : Bool) (v x z : A) → c ≡ b → v ≡ (if b then x else z) → v ≡ (if c then x else z)
chosen b c v x z e h = h ∙ ap (λ d. if d then x else z) (sym e)

-- the pair of a row is one of the half's
within : (m k a i n : ℕ) → i ≡ pair_of k a → n ≡ 2 ^ (m - 1) → k < m → a < 2 ^ m → i < n
within m k a i n is size hk l = omega (arith, is, size, pair_below m k a hk l)

pub bounds-half-pair_index : goal.bounds-half-pair_index
bounds-half-pair_index g c =
    let along = c.args.along.now in
    within along.digits along.place _ _ _ c.pair_index.ensures c.requires.pairs along.inside c.requires.low

pub offset_bounds-half-pair_index : goal.offset_bounds-half-pair_index
offset_bounds-half-pair_index g c =
    let along = c.args.along.now in
    omega (arith, within along.digits along.place _ _ _ c.pair_index.ensures c.requires.pairs along.inside c.requires.low)

pub bounds-half-pair_index-2 : goal.bounds-half-pair_index-2
bounds-half-pair_index-2 g c =
    let along = c.args.along.now in
    within along.digits along.place _ _ _ c.pair_index-2.ensures c.requires.pairs along.inside c.requires.high

pub offset_bounds-half-pair_index-2 : goal.offset_bounds-half-pair_index-2
offset_bounds-half-pair_index-2 g c =
    let along = c.args.along.now in
    omega (arith, within along.digits along.place _ _ _ c.pair_index-2.ensures c.requires.pairs along.inside c.requires.high)

pub returns-then-is_upper : goal.returns-then-is_upper
returns-then-is_upper g c =
    let Y = g.F.Sums.symbols in
    let v = g.F.Sums.value in
    let along = c.args.along.now in
    let half = c.args.half.now in
    let made = c.args.block in
    let upper = sym c.is_upper.ensures ∙ c.if-is_upper.true in
    let es = read Y v half c.pair_index.result _ (within along.digits along.place _ _ _ c.pair_index.ensures c.requires.pairs along.inside c.requires.low) c.index-half-pair_index.is ∙ ap (at Y v half) c.pair_index.ensures in
    let et = read Y v half c.pair_index-2.result _ (within along.digits along.place _ _ _ c.pair_index-2.ensures c.requires.pairs along.inside c.requires.high) c.index-half-pair_index-2.is ∙ ap (at Y v half) c.pair_index-2.ensures in
    record {
      lower = chosen true _ _ _ _ upper (c.apply.ensures.lower ∙ (λ i. block Y.ring made.kind (v made.p) (v made.q) (es i) (et i) false));
      upper = chosen true _ _ _ _ upper (c.apply.ensures.upper ∙ (λ i. block Y.ring made.kind (v made.p) (v made.q) (es i) (et i) true));
    }

pub returns-else-is_upper : goal.returns-else-is_upper
returns-else-is_upper g c =
    let Y = g.F.Sums.symbols in
    let v = g.F.Sums.value in
    let along = c.args.along.now in
    let half = c.args.half.now in
    let lower = sym c.is_upper.ensures ∙ c.if-is_upper.false in
    let es = read Y v half c.pair_index.result _ (within along.digits along.place _ _ _ c.pair_index.ensures c.requires.pairs along.inside c.requires.low) c.index-half-pair_index.is ∙ ap (at Y v half) c.pair_index.ensures in
    let et = read Y v half c.pair_index-2.result _ (within along.digits along.place _ _ _ c.pair_index-2.ensures c.requires.pairs along.inside c.requires.high) c.index-half-pair_index-2.is ∙ ap (at Y v half) c.pair_index-2.ensures in
    record { lower = chosen false _ _ _ _ lower es; upper = chosen false _ _ _ _ lower et }
