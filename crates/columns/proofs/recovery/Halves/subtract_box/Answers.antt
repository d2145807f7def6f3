use Rattle.std.proofs.Common.{◌≡◌, ◌-◌, ◌^◌, ◌<◌, ◌≢◌, sym, ap, ◌∙◌, subst}
use Rattle.code.specs.Blocks.{◌∸◌}
use Rattle.code.specs.Codes.{full, shift, image}
use Rattle.code.specs.Contents.{at, parts}
use Rattle.code.specs.Recovery.{eigenvalue, half_image, seat}
use Rattle.code.specs.Rows.{lower, pair_of}
use Rattle.code.proofs.Sums.{if_same, if_other}
use Rattle.code.proofs.Theory.{shift_below, half_image_same}
use Rattle.columns.specs.Sides.{sides}
use Rattle.columns.proofs.Sides.{sides_same}
use Rattle.columns.proofs.recovery.Halves.subtract_box.Goals as goal

pub returns-then-digit-along : goal.returns-then-digit-along
returns-then-digit-along g c =
    let Y = g.F.Sums.symbols in
    let R = Y.ring in
    let v = g.F.Sums.value in
    let size = c.args.self.now.cabinet.size in
    let m = size.m in
    let code = full Y m in
    let x = c.args.self.now.lost in
    let b = c.args.b in
    let k = shift code x in
    let half = at Y v c.half-half.result.now in
    let sent = parts Y v (2 ^ (m - 1)) c.args.self.now.numbers.now (seat x b) in
    let numbers = c.half-half.ensures.numbers in
    let made = c.block.ensures in
    let e = v c.eigenvalue-eigenvalue.result in
    let is_e = c.eigenvalue-eigenvalue.ensures ∙ (λ i. eigenvalue R (c.args.self.now.is_kind i) (made.is_kind i) (made.first i) (made.second i)) in
    let same : shift code b ≡ shift code x = sym c.digit.ensures.place ∙ c.if-digit-along.true ∙ c.args.self.now.place in
    λ a l.
    c.subtract_multiple.ensures a (subst (λ n. a < 2 ^ n) (sym c.args.self.now.digits) l)
    ∙ ap (◌∸◌ R (at Y v c.args.column.now a))
    ((λ i. sides (c.args.self.now.place i) half (λ j. R.times e (half j)) a)
    ∙ sides_same k half (λ j. R.times e (half j)) m sent (half_image code x b sent) (shift_below code x size.some) numbers
    (λ j h. (λ i. R.times (is_e i) (numbers j h i)) ∙ sym (if_same (shift code b) (shift code x) same _ _)) a l)

pub returns-else-digit-along : goal.returns-else-digit-along
returns-else-digit-along g c =
    let Y = g.F.Sums.symbols in
    let v = g.F.Sums.value in
    let size = c.args.self.now.cabinet.size in
    let m = size.m in
    let code = full Y m in
    let x = c.args.self.now.lost in
    let b = c.args.b in
    let k = shift code x in
    let half = at Y v c.half-half.result.now in
    let sent = parts Y v (2 ^ (m - 1)) c.args.self.now.numbers.now (seat x b) in
    let numbers = c.half-half.ensures.numbers in
    let apart : shift code b ≢ shift code x = λ e. c.if-digit-along.false (c.digit.ensures.place ∙ e ∙ sym c.args.self.now.place) in
    λ a l.
    c.subtract_image.ensures a l
    ∙ ap (◌∸◌ Y.ring (at Y v c.args.column.now a))
    (sides_same k half (λ j. image code b (λ a. half (pair_of k a)) (lower k j)) m sent (half_image code x b sent) (shift_below code x size.some) numbers
    (λ j h. sym (if_other (shift code b) (shift code x) apart _ _) ∙ half_image_same code x b half sent (shift_below code x size.some) (shift_below code b size.some) numbers j h) a l)
