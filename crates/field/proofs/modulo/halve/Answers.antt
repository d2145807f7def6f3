use Rattle.std.proofs.Common.{◌≡◌, ◌+◌, ◌-◌, ◌*◌, ◌/◌, ◌%◌, ◌<◌, sym, ap, ◌∙◌, inl, inr, mod-lt, arith}
use Rattle.std.proofs.lemmas.Bool.{cases_lt}
use Rattle.field.proofs.Inverses.{halved, remainder, remainder_positive, lacking}
use Rattle.field.proofs.modulo.halve.Goals as goal

pub returns : goal.returns
returns g c =
    let p = g.R.Residue.SIZE in
    let a = c.args.a in
    let b = c.smaller-b.result.0 in
    let m = c.smaller-b.result.1 in
    let some : 0 < p % a = remainder_positive p a g.met.R.Residue.prime (omega arith) (omega arith) in
    let low : p % a < a = mod-lt p (omega arith) in
    elim (cases_lt (a - p % a) (p % a)) [
      | inl h ↦
          let e = c.smaller-b.ensures.lacking h in
          let is_b : b ≡ a - p % a = ap (λ r. r.0) e in
          let is_m : m ≡ p / a + 1 = ap (λ r. r.1) e in
          halved p a c.args.factor m b _ (omega arith) (omega arith) (omega arith) (ap (λ n. (n * a) % p) is_m ∙ lacking p a (omega arith) some (omega arith) ∙ sym is_b) c.product.ensures
      | inr h ↦
          let e = c.smaller-b.ensures.left h in
          let is_b : b ≡ p % a = ap (λ r. r.0) e in
          let is_m : m ≡ p - p / a = ap (λ r. r.1) e in
          halved p a c.args.factor m b _ (omega arith) (omega arith) (omega arith) (ap (λ n. (n * a) % p) is_m ∙ remainder p a (omega arith) (omega arith) ∙ sym is_b) c.product.ensures
    ]
