-- The image of a column at the two rows of a pair. Assumes nothing.
use Rattle.std.proofs.Common.{◌≡◌, ℕ, ◌+◌, ◌^◌, ◌<◌, Bool, true, false, sym, ap, ◌∙◌, ap₂}
use Rattle.code.specs.Blocks.{block}
use Rattle.code.specs.Codes.{Code, kind, shift, eigen_p, eigen_q, image}
use Rattle.code.specs.Rows.{odd, digit, partner, lower}
use Rattle.code.specs.declared.Kind.{Kind}
use Rattle.code.proofs.Digits.{partner_lt, bit_to_c, to_to_c}
use Rattle.code.proofs.Pairing.{lower_partner, upper_partner}

-- the image below 2 ^ m depends on the rows below 2 ^ m alone
pub image_same : {A : Type 0} (c : Code A) (b : ℕ) (C E : ℕ → A) → shift c b < c.size → ((a : ℕ) → a < 2 ^ c.size → C a ≡ E a) → (a : ℕ) → a < 2 ^ c.size → image c b C a ≡ image c b E a
image_same c b C E h same a l =
    ap₂ (λ s t. block c.ring (kind c b) (eigen_p c b) (eigen_q c b) s t (odd (digit (shift c b) a)))
    (same (partner (shift c b) false a) (partner_lt c.size (shift c b) false a h l)) (same (partner (shift c b) true a) (partner_lt c.size (shift c b) true a h l))

module _ {A : Type 0} (c : Code A) (b : ℕ) (C : ℕ → A) (j : ℕ) where
  abbrev k : ℕ
  k = shift c b

  -- what the block of box b makes of pair j
  abbrev pub pair_block : Bool → A
  pair_block = block c.ring (kind c b) (eigen_p c b) (eigen_q c b) (C (lower k j)) (C (lower k j + 2 ^ k))

  image_row : (d : Bool) → image c b C (partner k d (lower k j)) ≡ pair_block d
  image_row d = λ i.
      block c.ring (kind c b) (eigen_p c b) (eigen_q c b) (C ((to_to_c k false d (lower k j) ∙ lower_partner k j) i)) (C ((to_to_c k true d (lower k j) ∙ upper_partner k j) i)) (bit_to_c k d (lower k j) i)

  -- what a block that is computed at the rows low and high of pair j gives is the image there
  module _ (low high : ℕ) (el : low ≡ lower k j) (eh : high ≡ lower k j + 2 ^ k) (u : Kind) (p q s t : A)
      (eu : u ≡ kind c b) (ep : p ≡ eigen_p c b) (eq : q ≡ eigen_q c b) (es : s ≡ C low) (et : t ≡ C high) where
    image_at : (d : Bool) (row : ℕ) → row ≡ partner k d (lower k j) → block c.ring u p q s t d ≡ image c b C row
    image_at d row e = (λ i. block c.ring (eu i) (ep i) (eq i) ((es ∙ ap C el) i) ((et ∙ ap C eh) i) d) ∙ sym (image_row d) ∙ ap (image c b C) (sym e)

    pub image_at_low : block c.ring u p q s t false ≡ image c b C low
    image_at_low = image_at false low (el ∙ sym (lower_partner k j))

    pub image_at_high : block c.ring u p q s t true ≡ image c b C high
    image_at_high = image_at true high (eh ∙ sym (upper_partner k j))
