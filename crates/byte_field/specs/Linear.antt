-- The product of bytes is linear in each factor, so its laws follow from those at the eight powers of two. Assumes nothing.
use Rattle.std.specs.Prelude.{◌≡◌, ℕ, zero, suc, ◌*◌, ◌/◌, ◌%◌, ◌<◌, Bool, IsTrue, List, [], ◌∷◌, map, ◌==◌, bit_xor, refl}
use Rattle.std.proofs.Common.{sym, ◌∙◌, ap, mod-lt, add-zero, arith, lit<}
use Rattle.std.proofs.lemmas.Bool.{eqb-true}
use Rattle.std.proofs.lemmas.List.Elements.{All-head, All-tail, All-weaker}
use Rattle.std.proofs.lemmas.List.Sums.{AllPass-from_list_all}
use Rattle.std.proofs.lemmas.Nat.{xor_comm, xor_mod, xor_shr, xor_block, xor_lt}
use Rattle.std.specs.List.{All, list_all}
use Rattle.std.specs.Int.Bits.{xor_assoc, xor_zero_r, xor_self}
use Rattle.field.specs.Binary.{Product}
use Rattle.field.specs.Computed.{all, all_at}
use Rattle.byte_field.specs.Product.{pick, twice, doublings, picked, product}

-- ---- sums
pub xor_swap : (a b c d : ℕ) → bit_xor (bit_xor a b) (bit_xor c d) ≡ bit_xor (bit_xor a c) (bit_xor b d)
xor_swap a b c d =
    xor_assoc a b (bit_xor c d)
    ∙ ap (bit_xor a) (sym (xor_assoc b c d) ∙ ap (λ n. bit_xor n d) (xor_comm b c) ∙ xor_assoc c b d)
    ∙ sym (xor_assoc a c (bit_xor b d))

xor_half : (a b : ℕ) → bit_xor a b / 2 ≡ bit_xor (a / 2) (b / 2)
xor_half a b = xor_shr a b 1

pub xor_odd : (a b : ℕ) → bit_xor a b % 2 ≡ bit_xor (a % 2) (b % 2)
xor_odd a b = xor_mod a b 1

pub xor_twice : (a b : ℕ) → bit_xor a b * 2 ≡ bit_xor (a * 2) (b * 2)
xor_twice a b =
    sym
    ((λ i. bit_xor (sym (add-zero (a * 2)) i) (sym (add-zero (b * 2)) i)) ∙ xor_block 1 a b 0 0 (lit< tt) (lit< tt) ∙ add-zero (bit_xor a b * 2))

-- ---- picks
pub pick_right : (s d e : ℕ) → pick s (bit_xor d e) ≡ bit_xor (pick s d) (pick s e)
pick_right zero d e = refl
pick_right (suc s) d e = refl

small : (s t d : ℕ) → s < 2 → t < 2 → pick (bit_xor s t) d ≡ bit_xor (pick s d) (pick t d)
small zero t d h k = refl
small (suc zero) zero d h k = sym (xor_zero_r d)
small (suc zero) (suc zero) d h k = sym (xor_self d)
small (suc zero) (suc (suc t)) d h k = absurd (omega arith)
small (suc (suc s)) t d h k = absurd (omega arith)

pick_left : (b c d : ℕ) → pick (bit_xor b c % 2) d ≡ bit_xor (pick (b % 2) d) (pick (c % 2) d)
pick_left b c d = ap (λ s. pick s d) (xor_odd b c) ∙ small (b % 2) (c % 2) d (mod-lt b (lit< tt)) (mod-lt c (lit< tt))

-- ---- linear in the factor that picks
pub picked_sum : (ds : List ℕ) (b c : ℕ) → picked ds (bit_xor b c) ≡ bit_xor (picked ds b) (picked ds c)
picked_sum [] b c = refl
picked_sum (d ∷ ds) b c =
    (λ i. bit_xor (pick_left b c d i) ((ap (picked ds) (xor_half b c) ∙ picked_sum ds (b / 2) (c / 2)) i))
    ∙ xor_swap (pick (b % 2) d) (pick (c % 2) d) (picked ds (b / 2)) (picked ds (c / 2))

-- ---- linear in the factor that is doubled
pub twice_sum : (a b : ℕ) → twice (bit_xor a b) ≡ bit_xor (twice a) (twice b)
twice_sum a b =
    (λ i. bit_xor ((ap (λ n. n % 256) (xor_twice a b) ∙ xor_mod (a * 2) (b * 2) 8) i) ((ap (λ n. pick (n % 2) 27) (xor_shr a b 7) ∙ pick_left (a / 128) (b / 128) 27) i))
    ∙ xor_swap (a * 2 % 256) (b * 2 % 256) (pick (a / 128 % 2) 27) (pick (b / 128 % 2) 27)

pub doubled_sum : (k a b c : ℕ) → picked (doublings k (bit_xor a b)) c ≡ bit_xor (picked (doublings k a) c) (picked (doublings k b) c)
doubled_sum zero a b c = refl
doubled_sum (suc k) a b c =
    (λ i. bit_xor (pick_right (c % 2) a b i) ((ap (λ n. picked (doublings k n) (c / 2)) (twice_sum a b) ∙ doubled_sum k (twice a) (twice b) (c / 2)) i))
    ∙ xor_swap (pick (c % 2) a) (pick (c % 2) b) (picked (doublings k (twice a)) (c / 2)) (picked (doublings k (twice b)) (c / 2))

pub product_right : (a b c : ℕ) → product a (bit_xor b c) ≡ bit_xor (product a b) (product a c)
unfolding product
product_right a b c = picked_sum (doublings 8 a) b c

pub product_left : (a b c : ℕ) → product (bit_xor a b) c ≡ bit_xor (product a c) (product b c)
unfolding product
product_left a b c = doubled_sum 8 a b c

-- ---- a linear function is known by its values at the powers of two
abbrev pub Linear : (ℕ → ℕ) → Type 0
Linear f = (a b : ℕ) → f (bit_xor a b) ≡ bit_xor (f a) (f b)

at_zero : (f : ℕ → ℕ) → Linear f → f 0 ≡ 0
at_zero f l = l 0 0 ∙ xor_self (f 0)

abbrev pub powers : List ℕ
powers = 1 ∷ 2 ∷ 4 ∷ 8 ∷ 16 ∷ 32 ∷ 64 ∷ 128 ∷ []

pick_out : (f : ℕ → ℕ) → f 0 ≡ 0 → (s d : ℕ) → f (pick s d) ≡ pick s (f d)
pick_out f z zero d = z
pick_out f z (suc s) d = refl

spread : (f : ℕ → ℕ) → Linear f → (ds : List ℕ) (b : ℕ) → f (picked ds b) ≡ picked (map f ds) b
spread f l [] b = at_zero f l
spread f l (d ∷ ds) b = l (pick (b % 2) d) (picked ds (b / 2)) ∙ (λ i. bit_xor (pick_out f (at_zero f l) (b % 2) d i) (spread f l ds (b / 2) i))

same_map : (f g : ℕ → ℕ) (xs : List ℕ) → All (λ x. f x ≡ g x) xs → map f xs ≡ map g xs
same_map f g [] e = refl
same_map f g (x ∷ xs) e = λ i. All-head (λ y. f y ≡ g y) x xs e i ∷ same_map f g xs (All-tail (λ y. f y ≡ g y) x xs e) i

-- every byte is the sum of the powers that its digits pick
digits : IsTrue (all (λ c. picked powers c == c) 256)
digits = refl

pub agree : (f g : ℕ → ℕ) → Linear f → Linear g → All (λ x. f x ≡ g x) powers → (c : ℕ) → c < 256 → f c ≡ g c
agree f g lf lg e c h =
    let whole : picked powers c ≡ c = eqb-true (picked powers c) c (all_at (λ c. picked powers c == c) 256 digits c h) in
    ap f (sym whole) ∙ spread f lf powers c ∙ ap (λ ds. picked ds c) (same_map f g powers e) ∙ sym (spread g lg powers c) ∙ ap g whole

-- ---- and a function that is linear in two, by one computed test at the powers of two
abbrev pub Bilinear : (ℕ → ℕ → ℕ) → Type 0
Bilinear f = ((a : ℕ) → Linear (f a)) × ((b : ℕ) → Linear (λ a. f a b))

abbrev pub Tested : (f g : ℕ → ℕ → ℕ) → Type 0
Tested f g = IsTrue (list_all (λ y. list_all (λ x. f x y == g x y) powers) powers)

-- what holds of the powers for which a test is true
pub told : (p : ℕ → Bool) (P : ℕ → Type 0) → ((x : ℕ) → IsTrue (p x) → P x) → IsTrue (list_all p powers) → All P powers
told p P f t = All-weaker (λ x. IsTrue (p x)) P f powers (AllPass-from_list_all p powers t)

pub agree_both : (f g : ℕ → ℕ → ℕ) → Bilinear f → Bilinear g → Tested f g → (a b : ℕ) → a < 256 → b < 256 → f a b ≡ g a b
agree_both f g lf lg t a b ha hb =
    agree (f a) (g a) (lf.0 a) (lg.0 a)
    (told (λ y. list_all (λ x. f x y == g x y) powers) (λ y. f a y ≡ g a y)
    (λ y u. agree (λ x. f x y) (λ x. g x y) (lf.1 y) (lg.1 y) (told (λ x. f x y == g x y) (λ x. f x y ≡ g x y) (λ x. eqb-true (f x y) (g x y)) u) a ha) t) b hb

-- ---- the product's laws
pub by_right : (a : ℕ) → Linear (product a)
by_right a = product_right a

pub by_left : (b : ℕ) → Linear (λ a. product a b)
by_left b x y = product_left x y b

pub after : (f g : ℕ → ℕ) → Linear f → Linear g → Linear (λ x. f (g x))
after f g lf lg a b = ap f (lg a b) ∙ lf (g a) (g b)

turned : Tested product (λ a b. product b a)
unfolding product
turned = refl

pub product_comm : (a b : ℕ) → a < 256 → b < 256 → product a b ≡ product b a
product_comm a b ha hb = agree_both product (λ a b. product b a) (by_right, by_left) (by_left, by_right) turned a b ha hb

-- both sides of the law of three factors, of which z is the last
abbrev left_first : ℕ → ℕ → ℕ → ℕ
left_first z x y = product (product x y) z

abbrev right_first : ℕ → ℕ → ℕ → ℕ
right_first z x y = product x (product y z)

abbrev joins : ℕ → Bool
joins z = list_all (λ y. list_all (λ x. left_first z x y == right_first z x y) powers) powers

joined : IsTrue (list_all joins powers)
unfolding product
joined = refl

assoc_2 : (z : ℕ) → IsTrue (joins z) → (a b : ℕ) → a < 256 → b < 256 → product (product a b) z ≡ product a (product b z)
assoc_2 z t a b ha hb =
    agree_both (left_first z) (right_first z)
    ((λ x. after (λ n. product n z) (product x) (by_left z) (by_right x)), (λ y. after (λ n. product n z) (λ n. product n y) (by_left z) (by_left y)))
    ((λ x. after (product x) (λ n. product n z) (by_right x) (by_left z)), (λ y. by_left (product y z))) t a b ha hb

pub product_assoc : (a b c : ℕ) → a < 256 → b < 256 → c < 256 → product (product a b) c ≡ product a (product b c)
product_assoc a b c ha hb hc =
    agree (product (product a b)) (λ z. product a (product b z)) (by_right (product a b)) (after (product a) (product b) (by_right a) (by_right b))
    (told joins (λ z. product (product a b) z ≡ product a (product b z)) (λ z u. assoc_2 z u a b ha hb) joined) c hc

ones : IsTrue (all (λ x. product 1 x == x) 256)
unfolding product
ones = refl

pub one_product : (a : ℕ) → a < 256 → product 1 a ≡ a
one_product a h = eqb-true (product 1 a) a (all_at (λ x. product 1 x == x) 256 ones a h)

-- ---- a product of bytes is a byte
pick_below : (s d : ℕ) → d < 256 → pick s d < 256
pick_below zero d h = lit< tt
pick_below (suc s) d h = h

pub twice_below : (a : ℕ) → twice a < 256
twice_below a = xor_lt 8 (a * 2 % 256) (pick (a / 128 % 2) 27) (mod-lt (a * 2) (lit< tt)) (pick_below (a / 128 % 2) 27 (lit< tt))

picked_below : (k a b : ℕ) → a < 256 → picked (doublings k a) b < 256
picked_below zero a b h = lit< tt
picked_below (suc k) a b h = xor_lt 8 (pick (b % 2) a) (picked (doublings k (twice a)) (b / 2)) (pick_below (b % 2) a h) (picked_below k (twice a) (b / 2) (twice_below a))

pub product_below : (a b : ℕ) → a < 256 → product a b < 256
unfolding product
product_below a b h = picked_below 8 a b h

-- ---- so the product is that of a ring
pub byte_product : Product 8 product
byte_product = record {
  below = λ x y. product_below x.0 y.0 x.1;
  comm = λ x y. product_comm x.0 y.0 x.1 y.1;
  assoc = λ x y z. product_assoc x.0 y.0 z.0 x.1 y.1 z.1;
  one = λ x. one_product x.0 x.1;
  spread = λ x y z. product_right x.0 y.0 z.0;
}
