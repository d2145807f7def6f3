use Rattle.std.proofs.Common.{◌≡◌, ◌*◌, ◌/◌, ◌%◌, sym, ap, ◌∙◌, arith}
use Rattle.std.specs.Int.Bits.{bit_xor, xor_zero_r}
use Rattle.byte_field.specs.Product.{pick}
use Rattle.byte_field.proofs.twice.Goals as goal

pub returns-then-a-lt128 : goal.returns-then-a-lt128
returns-then-a-lt128 c =
    let a = c.args.a in
    let none : a / 128 % 2 ≡ 0 = omega arith in
    let same : a % 128 * 2 ≡ a * 2 % 256 = omega arith in
    same ∙ sym (xor_zero_r (a * 2 % 256)) ∙ ap (λ s. bit_xor (a * 2 % 256) (pick s 27)) (sym none)
