-- The column given by a set of halves: such files exist and agree in it, and it is what the recovery computes. Assumes nothing.
use Rattle.std.proofs.Common.{◌≡◌, ℕ, zero, suc, ◌+◌, ◌-◌, ◌*◌, ◌/◌, ◌%◌, ◌^◌, ◌<◌, ◌≤◌, Bool, if◌then◌else◌, ◌==◌, ◌≢◌, [], ◌∷◌, sym, refl, ap, ◌∙◌, subst, ap₂, div-lt_iff_lt-mul, arith}
use mathlib.Core.Path.{fun_ext}
use native.Mathlib.Nat.{div-add-mod}
use Rattle.field.specs.Ring.{Ring, Divides}
use Rattle.field.specs.Symbols.{Symbols}
use Rattle.field.proofs.Solver.{o, i, ◌⊕◌, ◌⊖◌, ◌≐◌, ◌⟸◌, ◌·◌, ring, ring_by}
use Rattle.code.specs.Blocks.{kind_number, kind_of, half, ◌∸◌}
use Rattle.code.specs.Codes.{Code, Proper, full, sum, kind, direction, shift, eigen_p, eigen_q, image, parity1, parity2, column, half_for, helper, Alike, HasHalves, Given, Restorable, Renews}
use Rattle.code.specs.Recovery.{seat, eigenvalue, recover, half_image, recovered}
use Rattle.code.specs.Rows.{odd, digit, partner, lower, pair_of}
use Rattle.code.proofs.Digits.{rows}
use Rattle.code.proofs.Pairing.{lower_partner, pair_lower, lower_pair, pair_partner, row_of_pair, pair_below, lower_below}
use Rattle.code.proofs.Images.{image_same}
use Rattle.code.proofs.Cuts.{cut, cut_in, cut_same, cut_after, cut_halved, cut_sum}
use Rattle.code.proofs.Columns.{column_data, column_first, column_second, by_box}
use Rattle.code.proofs.Sums.{but_ext, sum_more}
use Rattle.code.proofs.Seats.{seat_most, seat_helper, helper_seat, helper_apart, helper_most}
use Rattle.code.proofs.Halves as halves
use Rattle.code.proofs.Files as files

number_of : (n : ℕ) → n < 3 → kind_number (kind_of n) ≡ n
number_of zero h = refl
number_of (suc zero) h = refl
number_of (suc (suc zero)) h = refl
number_of (suc (suc (suc n))) h = absurd (omega arith)

pub shift_below : {A : Type 0} (c : Code A) (b : ℕ) → 1 ≤ c.size → shift c b < c.size
shift_below c b h = omega arith

module _ {A : Type 0} (c : Code A) (ok : Proper c) where
  abbrev R : Ring A
  R = c.ring

  abbrev m : ℕ
  m = c.size

  abbrev n : ℕ
  n = c.kinds * c.size

  -- two boxes of one direction differ in kind
  pub apart : (a b : ℕ) → a < n → b < n → a ≢ b → shift c a ≡ shift c b → kind c a ≢ kind c b
  apart a b ha hb h e k =
      let s : 1 ≤ m = ok.some in
      let f : c.kinds ≤ 3 = ok.few in
      let la : a / m < c.kinds = (div-lt_iff_lt-mul s).1 ha in
      let lb : b / m < c.kinds = (div-lt_iff_lt-mul s).1 hb in
      let es : a / m ≡ b / m = sym (number_of (a / m) (omega arith)) ∙ ap kind_number k ∙ number_of (b / m) (omega arith) in
      let er : a % m ≡ b % m = omega arith in
      h (sym (div-add-mod a m) ∙ ap₂ (λ x y. m * x + y) es er ∙ div-add-mod b m)

  pub same_if : (a b : A) → ◌∸◌ R a b ≡ R.zero → a ≡ b
  same_if a b = ring_by R (a ∷ b ∷ []) (λ a b. a ≐ b ⟸ (i · a ⊖ b ≐ o) ∷ []) refl

  -- the two eigenvalues of a direction differ
  pub gap : (x : ℕ) → ◌∸◌ R (eigen_q c x) (eigen_p c x) ≡ R.zero → ⊥
  gap x e =
      let s : 1 ≤ m = ok.some in
      let w : 2 * direction c x ≡ 2 * direction c x - 1 = ok.mark_distinct (2 * direction c x) (2 * direction c x - 1) (omega arith) (omega arith) (omega arith) (omega arith) (same_if (eigen_q c x) (eigen_p c x) e) in
      omega arith

  abbrev pub trim : (ℕ → A) → ℕ → A
  trim = cut R m

  pub below : (C E : ℕ → A) → trim C ≡ trim E → Alike c C E
  below C E e a l = sym (cut_in R m C a l) ∙ ap (λ X. X a) e ∙ cut_in R m E a l

  abbrev T : ℕ → (ℕ → A) → ℕ → A
  T b = halves.after R rows (kind c b) (shift c b) (eigen_p c b) (eigen_q c b)

  -- the parities of trimmed columns are trimmed
  pub trim1 : (f : ℕ → ℕ → A) → (λ a. sum R n (λ b. trim (f b) a)) ≡ trim (parity1 c f)
  trim1 f = cut_sum R m n f

  pub trim2 : (f : ℕ → ℕ → A) → (λ a. sum R n (λ b. T b (trim (f b)) a)) ≡ trim (parity2 c f)
  trim2 f =
      ap {B = ℕ → A} (λ (X : ℕ → ℕ → A) a. sum R n (λ b. X b a)) (fun_ext λ b. cut_after R m (kind c b) (shift c b) (shift_below c b ok.some) (eigen_p c b) (eigen_q c b) (f b))
      ∙ cut_sum R m n (λ b. T b (f b))

  abbrev HalfAlike : (ℕ → A) → (ℕ → A) → Type 0
  HalfAlike G H = (j : ℕ) → j < 2 ^ (m - 1) → G j ≡ H j

  module _ (x : ℕ) (hx : x < n) (d : A) (inverse : R.times d (◌∸◌ R (eigen_q c x) (eigen_p c x)) ≡ R.one) where
    abbrev k : ℕ
    k = shift c x

    abbrev H : (ℕ → A) → ℕ → A
    H = halves.halved R rows (kind c x) k

    -- a half by pairs is a half by rows
    abbrev wide : (ℕ → A) → ℕ → A
    wide G a = G (pair_of k a)

    abbrev wides : (ℕ → ℕ → A) → ℕ → ℕ → A
    wides g b = wide (g (seat x b))

    abbrev join : (ℕ → A) → ℕ → A
    join C a = half R (kind c x) (C a) (C (a + 2 ^ k))

    widen : (C G : ℕ → A) → HalfAlike (half_for c x C) G → H (trim C) ≡ trim (wide G)
    widen C G h =
        cut_halved R m (kind c x) k (shift_below c x ok.some) C
        ∙ cut_same R m (H C) (wide G) (λ a l. ap (join C) (sym (lower_pair k a)) ∙ h (pair_of k a) (pair_below m k a (shift_below c x ok.some) l))

    narrow : (C G : ℕ → A) → H C ≡ wide G → HalfAlike (half_for c x C) G
    narrow C G e j l = ap (join C) (sym (lower_partner k j)) ∙ ap (λ X. X (lower k j)) e ∙ ap G (pair_lower k j)

    abbrev boxes : files.Boxes A
    boxes = record { n = n; kind = kind c; place = shift c; apart = apart; p = eigen_p c; q = eigen_q c }

    abbrev lost : files.Lost R boxes
    lost = record { x = x; inside = hx; d = d; inverse = inverse }

    abbrev Theory : (f g : ℕ → ℕ → A) → Type 0
    Theory = files.Halves R rows boxes x

    -- a helper's half, by its box and what column that box has
    half_by_box : (f g : ℕ → ℕ → A) → HasHalves c x f g → (b : ℕ) (C : ℕ → A) → column c f b ≡ C → b ≢ x → b < suc (suc n) → H (trim C) ≡ trim (wides g b)
    half_by_box f g h b C is e l = widen C (g (seat x b)) λ j lj.
        ap (λ X. half_for c x X j) (sym is) ∙ ap (λ y. half_for c x (column c f y) j) (sym (helper_seat c x b e))
        ∙ h (seat x b) (seat_most x b (suc n) (omega arith) e l) j lj

    to_theory : (f g : ℕ → ℕ → A) → HasHalves c x f g → Theory (λ b. trim (f b)) (λ b. trim (wides g b))
    to_theory f g h = record {
      each = λ b l e. half_by_box f g h b (f b) (column_data c f b l) e (omega arith);
      first = ap H (trim1 f) ∙ half_by_box f g h n (parity1 c f) (column_first c f n refl) (λ e. omega arith) (omega arith);
      second = ap H (trim2 f) ∙ half_by_box f g h (suc n) (parity2 c f) (column_second c f (suc n) refl) (λ e. omega arith) (omega arith);
    }

    from_theory : (f g : ℕ → ℕ → A) → Theory f (wides g) → HasHalves c x f g
    from_theory f g t h l =
        subst (λ y. HalfAlike (half_for c x (column c f (helper c x h))) (g y)) (seat_helper c x h)
        (by_box c f (λ b C. b ≢ x → HalfAlike (half_for c x C) (g (seat x b)))
        (λ b l e. narrow (f b) (g (seat x b)) (t.each b l e))
        (λ e. narrow (parity1 c f) (g (seat x n)) t.first)
        (λ e. narrow (parity2 c f) (g (seat x (suc n))) t.second)
        (helper c x h) (omega (arith, helper_most c x h (suc n) l)) (helper_apart c x h))

    flat : (g : ℕ → A) → halves.Flat R rows k (wide g)
    flat g b a = ap g (pair_partner k b a)

    -- the column that the theory gives from the halves g
    abbrev known : (ℕ → ℕ → A) → ℕ → A
    known g = files.given R rows boxes lost (wides g)

    trimmed : (f g : ℕ → ℕ → A) → HasHalves c x f g
        → trim (f x) ≡ files.given R rows boxes lost (λ b. trim (wides g b))
    trimmed f g h = files.agree R rows boxes lost _ _ (to_theory f g h)

    agree : (g f f' : ℕ → ℕ → A) → HasHalves c x f g → HasHalves c x f' g → Alike c (f x) (f' x)
    agree g f f' h h' = below (f x) (f' x) (trimmed f g h ∙ sym (trimmed f' g h'))

    -- a file that has the halves, and whose lost column is the known one
    found : (g : ℕ → ℕ → A) → (f : ℕ → ℕ → A) × Theory f (wides g)
    found g = files.exist R rows boxes lost (wides g) (λ b. flat (g (seat x b)))

    exists : (g : ℕ → ℕ → A) → (f : ℕ → ℕ → A) × HasHalves c x f g
    exists g = ((found g).0, from_theory (found g).0 g (found g).1)

    pub restorable : Restorable c x
    restorable = record { exists = exists; agree = agree }

    known_given : (g : ℕ → ℕ → A) → Given c x g (known g)
    unfolding exists
    known_given g f h a l =
        agree g f (found g).0 h (exists g).1 a l
        ∙ ap (λ X. X a) (files.agree R rows boxes lost _ _ (found g).1)

    -- the known column is the recovered one
    image_half : (b : ℕ) (G : ℕ → A) (j : ℕ) → files.known R rows boxes lost b (wide G) (lower k j) ≡ half_image c x b G j
    image_half b G j =
        files.known_at R rows boxes lost b (wide G) (lower k j)
        ∙ ap (λ v. if shift c b == k then R.times (eigenvalue R (kind c x) (kind c b) (eigen_p c b) (eigen_q c b)) (G v) else image c b (wide G) (lower k j)) (pair_lower k j)

    known_recovered : (g : ℕ → ℕ → A) (b : Bool) (j : ℕ) → known g (partner k b (lower k j)) ≡ recovered c x d g j b
    known_recovered g b j =
        files.given_at R rows boxes lost (wides g) (λ b. flat (g (seat x b))) b (lower k j)
        ∙ ap₂ (λ y z. recover R (kind c x) (eigen_p c x) (eigen_q c x) d y z b)
        (ap₂ (◌∸◌ R) (ap (g (seat x n)) (pair_lower k j)) (but_ext R n x _ _ (λ b l a. ap (g (seat x b)) (pair_lower k j))))
        (ap₂ (◌∸◌ R) (ap (g (seat x (suc n))) (pair_lower k j)) (but_ext R n x _ _ (λ b l a. image_half b (g (seat x b)) j)))

    -- so a column that is recovered pair by pair is the column given by the halves
    pub recovered_given : (g : ℕ → ℕ → A) (C : ℕ → A) → ((a : ℕ) → a < 2 ^ m → C a ≡ recovered c x d g (pair_of k a) (odd (digit k a))) → Given c x g C
    recovered_given g C h f has a l =
        known_given g f has a l ∙ ap (known g) (sym (row_of_pair k a)) ∙ known_recovered g (odd (digit k a)) (pair_of k a) ∙ sym (h a l)

-- the inverse of their difference
pub gap_inverse : {A : Type 0} (c : Code A) → Proper c → Divides c.ring → (x : ℕ) → (d : A) × (c.ring.times d (◌∸◌ c.ring (eigen_q c x) (eigen_p c x)) ≡ c.ring.one)
gap_inverse c ok divides x =
    let r = divides (◌∸◌ c.ring (eigen_q c x) (eigen_p c x)) (gap c ok x) in
    (r.0, c.ring.times_comm r.0 (◌∸◌ c.ring (eigen_q c x) (eigen_p c x)) ∙ r.1)

pub restores : {A : Type 0} (c : Code A) → Proper c → Divides c.ring → (x : ℕ) → x < c.kinds * c.size → Restorable c x
restores c ok divides x hx = let d = gap_inverse c ok divides x in restorable c ok x hx d.0 d.1

pub renews : {A : Type 0} (R : Ring A) → Divides R → Renews R
renews R divides m kinds mark ok = restores (record { ring = R; size = m; kinds = kinds; mark = mark }) ok divides

-- the code of a cabinet is proper where the field has 2m marks
pub proper : (Y : Symbols) (m : ℕ) → 1 ≤ m → 2 * m ≤ Y.marks → Proper (full Y m)
proper Y m h k = record {
  some = h;
  few = omega arith;
  mark_not_zero = λ j a b. Y.mark_not_zero j a (omega arith);
  mark_distinct = λ i j a b a' b'. Y.mark_distinct i j a (omega arith) a' (omega arith);
}

-- a helper's half of the image depends on the pairs below 2 ^ (m - 1) alone
pub half_image_same : {A : Type 0} (c : Code A) (x b : ℕ) (G H : ℕ → A) → shift c x < c.size → shift c b < c.size → ((j : ℕ) → j < 2 ^ (c.size - 1) → G j ≡ H j) → (j : ℕ) → j < 2 ^ (c.size - 1) → half_image c x b G j ≡ half_image c x b H j
half_image_same c x b G H hx hb same j l =
    ap₂ (λ s t. if shift c b == shift c x then s else t) (ap (c.ring.times (eigenvalue c.ring (kind c x) (kind c b) (eigen_p c b) (eigen_q c b))) (same j l))
    (image_same c b (λ a. G (pair_of (shift c x) a)) (λ a. H (pair_of (shift c x) a)) hb (λ a k. same (pair_of (shift c x) a) (pair_below c.size (shift c x) a hx k)) (lower (shift c x) j) (lower_below c.size (shift c x) j hx l))

-- differences, one term at a time
module _ {A : Type 0} (R : Ring A) where
  pub less_none : (a : A) → a ≡ ◌∸◌ R a R.zero
  less_none a = ring R (a ∷ []) (λ a. a ≐ a ⊖ o) refl

  pub less_more : (r left a : A) (n : ℕ) (f : ℕ → A) → r ≡ ◌∸◌ R left (f n) → left ≡ ◌∸◌ R a (sum R n f) → r ≡ ◌∸◌ R a (sum R (n + 1) f)
  less_more r left a n f e h =
      ring_by R (r ∷ left ∷ a ∷ sum R n f ∷ f n ∷ sum R (n + 1) f ∷ [])
      (λ r l a s w t. r ≐ a ⊖ t ⟸ (i · r ≐ l ⊖ w) ∷ (i · l ≐ a ⊖ s) ∷ (i · t ≐ s ⊕ w) ∷ []) refl e h (sum_more R n f)
