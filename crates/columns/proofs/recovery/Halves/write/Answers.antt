use Rattle.std.proofs.Common.{◌≡◌, suc, ◌-◌, ◌*◌, ◌^◌, ◌<◌, Bool, false, true, sym, ap, ◌∙◌, subst, ap₂}
use Rattle.code.specs.Blocks.{◌∸◌}
use Rattle.code.specs.Codes.{full, shift}
use Rattle.code.specs.Contents.{at, parts}
use Rattle.code.specs.Recovery.{lost_half, lost_image, recover, seat, taken, taken_image}
use Rattle.code.specs.Rows.{odd, digit, pair_of, partner}
use Rattle.code.proofs.Digits.{partner_lt}
use Rattle.code.proofs.Theory.{shift_below}
use Rattle.columns.proofs.Sides.{sides_partner}
use Rattle.columns.proofs.recovery.Halves.write.Goals as goal

pub returns : goal.returns
returns g c =
    let Y = g.F.Sums.symbols in
    let R = Y.ring in
    let v = g.F.Sums.value in
    let size = c.args.self.now.cabinet.size in
    let m = size.m in
    let code = full Y m in
    let x = c.args.self.now.lost in
    let k = shift code x in
    let halves = parts Y v (2 ^ (m - 1)) c.args.self.now.numbers.now in
    let first = halves (seat x (3 * m)) in
    let second = halves (seat x (suc (3 * m))) in
    let off = taken code x (3 * m) halves in
    let off_image = taken_image code x (3 * m) halves in
    let place = c.args.self.now.place in
    let block = c.requires.block in
    let sums = at Y v c.subtract_boxes.new.column in
    λ a l.
    let left = λ (d : Bool). partner_lt m k d a (shift_below code x size.some) l in
    let lower : sums (partner k false a) ≡ lost_half code x halves (pair_of k a) =
    c.subtract_boxes.ensures (partner k false a) (left false)
    ∙ ap₂ (◌∸◌ R) (c.write_parities.ensures (partner k false a) (left false) ∙ sides_partner k first second false a) (sides_partner k off off_image false a) in
    let upper : sums (partner k true a) ≡ lost_image code x halves (pair_of k a) =
    c.subtract_boxes.ensures (partner k true a) (left true)
    ∙ ap₂ (◌∸◌ R) (c.write_parities.ensures (partner k true a) (left true) ∙ sides_partner k first second true a) (sides_partner k off off_image true a) in
    c.recover_pairs.ensures a (subst (λ n. a < 2 ^ n) (sym c.args.self.now.digits) l)
    ∙ (λ i. recover R (block.is_kind i) (block.first i) (block.second i) (v c.args.d) ((ap (λ n. sums (partner n false a)) place ∙ lower) i) ((ap (λ n. sums (partner n true a)) place ∙ upper) i) (odd (digit (place i) a)))
