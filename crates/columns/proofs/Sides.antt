-- Columns by the two numbers of each pair of rows. Assumes nothing.
use Rattle.std.proofs.Common.{◌≡◌, ℕ, ◌+◌, ◌-◌, ◌^◌, ◌<◌, Bool, true, false, if◌then◌else◌, ◌≢◌, ◌==◌, sym, refl, ap, ◌∙◌, ap₂}
use Rattle.code.specs.Blocks.{block, ◌∸◌}
use Rattle.code.specs.Codes.{Code, kind, shift, eigen_p, eigen_q, image}
use Rattle.code.specs.Recovery.{seat, half_image, taken, taken_image}
use Rattle.code.specs.Rows.{odd, digit, partner, lower, pair_of}
use Rattle.code.specs.declared.Kind.{Kind}
use Rattle.code.proofs.Digits.{bit_to_c, to_to_c, bit_else_c, to_else_c}
use Rattle.code.proofs.Images.{image_at_low, image_at_high}
use Rattle.code.proofs.Pairing.{pair_lower, pair_upper, pair_partner, pair_below, lower_pair, lower_partner, upper_partner, digit_lower, digit_upper}
use Rattle.code.proofs.Sums.{if_same, if_other}
use Rattle.code.proofs.Theory.{less_none, less_more}
use Rattle.columns.specs.Sides.{sides}

-- the numbers of a row, of the rows of a pair, and of a row's partners
module _ {A : Type 0} (k : ℕ) (g h : ℕ → A) where
  abbrev pick : Bool → ℕ → A
  pick d j = if d then h j else g j

  pub sides_low : (j a : ℕ) → a ≡ lower k j → sides k g h a ≡ g j
  sides_low j a e = ap (sides k g h) e ∙ ap₂ pick (digit_lower k j) (pair_lower k j)

  pub sides_high : (j a : ℕ) → a ≡ lower k j + 2 ^ k → sides k g h a ≡ h j
  sides_high j a e = ap (sides k g h) e ∙ ap₂ pick (digit_upper k j) (pair_upper k j)

  pub sides_partner : (d : Bool) (a : ℕ) → sides k g h (partner k d a) ≡ (if d then h (pair_of k a) else g (pair_of k a))
  sides_partner d a = ap₂ pick (bit_to_c k d a) (pair_partner k d a)

  pub sides_same : (m : ℕ) (g' h' : ℕ → A) → k < m → ((j : ℕ) → j < 2 ^ (m - 1) → g j ≡ g' j) → ((j : ℕ) → j < 2 ^ (m - 1) → h j ≡ h' j)
      → (a : ℕ) → a < 2 ^ m → sides k g h a ≡ sides k g' h' a
  sides_same m g' h' hk eg eh a l =
      let below = pair_below m k a hk l in
      ap₂ (λ s t. if odd (digit k a) then t else s) (eg (pair_of k a) below) (eh (pair_of k a) below)

-- the partners of the two rows of pair j
module _ (k j low high : ℕ) (el : low ≡ lower k j) (eh : high ≡ lower k j + 2 ^ k) where
  is_upper : high ≡ partner k true (lower k j)
  is_upper = eh ∙ sym (upper_partner k j)

  pub low_lower : partner k false low ≡ low
  low_lower = ap (partner k false) el ∙ lower_partner k j ∙ sym el

  pub low_upper : partner k true low ≡ high
  low_upper = ap (partner k true) el ∙ sym is_upper

  pub high_lower : partner k false high ≡ low
  high_lower = ap (partner k false) is_upper ∙ to_to_c k false true (lower k j) ∙ lower_partner k j ∙ sym el

  pub high_upper : partner k true high ≡ high
  high_upper = ap (partner k true) is_upper ∙ to_to_c k true true (lower k j) ∙ sym is_upper

  pub low_digit : odd (digit k low) ≡ false
  low_digit = ap (λ a. odd (digit k a)) el ∙ digit_lower k j

  pub high_digit : odd (digit k high) ≡ true
  high_digit = ap (λ a. odd (digit k a)) eh ∙ digit_upper k j

-- what a box of another direction sent, at the two rows of a pair along its own digit
module _ {A : Type 0} (c : Code A) (x b : ℕ) (apart : shift c x ≢ shift c b) (g : ℕ → A) where
  abbrev k : ℕ
  k = shift c x

  abbrev l : ℕ
  l = shift c b

  -- the half as a column that is the same in the two rows of a pair
  abbrev C : ℕ → A
  C a = g (pair_of k a)

  abbrev pub across : ℕ → A
  across j = image c b C (lower k j)

  flat : (a : ℕ) → image c b C a ≡ across (pair_of k a)
  flat a =
      let same : (d : Bool) → C (partner l d a) ≡ C (partner l d (partner k false a)) =
      λ d. ap g (sym (pair_partner k false (partner l d a)) ∙ ap (pair_of k) (sym (to_else_c l k (λ e. apart (sym e)) d false a))) in
      (λ i. block c.ring (kind c b) (eigen_p c b) (eigen_q c b) (same false i) (same true i) (sym (bit_else_c l k (λ e. apart (sym e)) false a) i))
      ∙ ap (image c b C) (sym (lower_pair k a))

  module _ (j low high : ℕ) (el : low ≡ lower l j) (eh : high ≡ lower l j + 2 ^ l) (u : Kind) (p q : A) (eu : u ≡ kind c b) (ep : p ≡ eigen_p c b) (eq : q ≡ eigen_q c b) where
    pub across_low : (if odd (digit k low) then block c.ring u p q (C low) (C high) false else C low) ≡ sides k g across low
    across_low = ap (λ z. if odd (digit k low) then z else C low) (image_at_low c b C j low high el eh u p q (C low) (C high) eu ep eq refl refl ∙ flat low)

    digits : odd (digit k low) ≡ odd (digit k high)
    digits = ap (λ a. odd (digit k a)) el ∙ sym (bit_else_c k l apart true (lower l j)) ∙ ap (λ a. odd (digit k a)) (sym (eh ∙ sym (upper_partner l j)))

    pub across_high : (if odd (digit k low) then block c.ring u p q (C low) (C high) true else C high) ≡ sides k g across high
    across_high = ap₂ (λ d z. if d then z else C high) digits (image_at_high c b C j low high el eh u p q (C low) (C high) eu ep eq refl refl ∙ flat high)

-- one box more is taken off, or left out if it is the lost one
module _ {A : Type 0} (c : Code A) (x : ℕ) (halves : ℕ → ℕ → A) (n j : ℕ) (left a : A) where
  abbrev sent : Bool → A
  sent d = if d then half_image c x n (halves (seat x n)) j else halves (seat x n) j

  abbrev off : ℕ → Bool → A
  off n d = if d then taken_image c x n halves j else taken c x n halves j

  pub box_off : (r : A) → n ≢ x → (d : Bool) → r ≡ ◌∸◌ c.ring left (sent d) → left ≡ ◌∸◌ c.ring a (off n d) → r ≡ ◌∸◌ c.ring a (off (n + 1) d)
  box_off r o false e h = less_more c.ring r left a n (λ b. if b == x then c.ring.zero else halves (seat x b) j) (e ∙ ap (◌∸◌ c.ring left) (sym (if_other n x o c.ring.zero _))) h
  box_off r o true e h = less_more c.ring r left a n (λ b. if b == x then c.ring.zero else half_image c x b (halves (seat x b)) j) (e ∙ ap (◌∸◌ c.ring left) (sym (if_other n x o c.ring.zero _))) h

  pub box_left : n ≡ x → (d : Bool) → left ≡ ◌∸◌ c.ring a (off n d) → left ≡ ◌∸◌ c.ring a (off (n + 1) d)
  box_left e false h = less_more c.ring left left a n (λ b. if b == x then c.ring.zero else halves (seat x b) j) (less_none c.ring left ∙ ap (◌∸◌ c.ring left) (sym (if_same n x e c.ring.zero _))) h
  box_left e true h = less_more c.ring left left a n (λ b. if b == x then c.ring.zero else half_image c x b (halves (seat x b)) j) (less_none c.ring left ∙ ap (◌∸◌ c.ring left) (sym (if_same n x e c.ring.zero _))) h
