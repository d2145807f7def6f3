-- How many boxes stand, where those that are out are known. Assumes nothing.
use Rattle.std.proofs.Common.{◌≡◌, ℕ, zero, suc, ◌+◌, ◌<◌, ◌≤◌, ◌≢◌, Bool, true, false, if◌then◌else◌, List, Some, None, inl, inr, sym, refl, ap, ap₂, ◌∙◌, arith, add-one, le-ltb, lt-ltb}
use Rattle.std.proofs.lemmas.Bool.{cases_lt, cases_order, cases_eq, cond-true, cond-false, true≢false}
use Rattle.code.specs.Standing.{standing}
use Rattle.code.proofs.Sums.{if_same, if_other}
use Rattle.refusal.specs.declared.Refusal.TheVariants.{ManyOut}
use Rattle.missing.specs.Missing.{AllStand, LowestOut, Found, aside, many_out, stands}
use Rattle.missing.specs.declared.Missing.{Missing}
use Rattle.missing.specs.declared.Missing.TheVariants.{Nothing, One, Two}

-- where the same boxes stand they are as many
pub as_many : (p q : ℕ → Bool) (n : ℕ) → ((b : ℕ) → b < n → p b ≡ q b) → standing p n ≡ standing q n
as_many p q zero like = refl
as_many p q (suc n) like = ap₂ (λ (t : Bool) (k : ℕ). if t then suc k else k) (like n (omega arith)) (as_many p q n (λ b l. like b (omega arith)))

module _ (s : ℕ → Bool) where
  one_stands : (b : ℕ) → s b ≡ true → standing s (suc b) ≡ suc (standing s b)
  one_stands b e = cond-true (s b) _ _ e

  one_out : (b : ℕ) → s b ≡ false → standing s (suc b) ≡ standing s b
  one_out b e = cond-false (s b) _ _ e

  next_out : (b : ℕ) → s b ≡ false → standing s (b + 1) ≡ standing s b
  next_out b e = ap (standing s) (add-one b) ∙ one_out b e

  all_between : (i j : ℕ) → i ≤ j → AllStand s i j → standing s j + i ≡ standing s i + j
  all_between i zero l h = let e : i ≡ 0 = omega arith in omega (arith, ap (standing s) e)
  all_between i (suc j) l h =
      elim (cases_lt i (suc j)) [
        | inl k ↦ omega (arith, one_stands j (h j (omega arith) (omega arith)), all_between i j (omega arith) (λ b m o. h b m (omega arith)))
        | inr k ↦ let e : i ≡ suc j = omega arith in omega (arith, ap (standing s) e)
      ]

  one_more : (j : ℕ) → standing s (suc j) ≤ suc (standing s j)
  one_more j = by_case (s j) refl
    where
      by_case : (v : Bool) → s j ≡ v → standing s (suc j) ≤ suc (standing s j)
      by_case true e = omega (arith, one_stands j e)
      by_case false e = omega (arith, one_out j e)

  most_between : (i j : ℕ) → i ≤ j → standing s j + i ≤ standing s i + j
  most_between i zero l = let e : i ≡ 0 = omega arith in omega (arith, ap (standing s) e)
  most_between i (suc j) l =
      elim (cases_lt i (suc j)) [
        | inl k ↦ omega (arith, one_more j, most_between i j (omega arith))
        | inr k ↦ let e : i ≡ suc j = omega arith in omega (arith, ap (standing s) e)
      ]

  pub most_below : (b : ℕ) → standing s b ≤ b
  most_below b = omega (arith, most_between 0 b (omega arith))

  narrow : (i j k : ℕ) → k ≤ j → AllStand s i j → AllStand s i k
  narrow i j k l h b m o = h b m (omega arith)

  -- up to the lowest box out, and behind it
  before_out : (i n x b : ℕ) → LowestOut s i n x → i ≤ b → b ≤ x → standing s b + i ≡ standing s i + b
  before_out i n x b o l k = all_between i b l (narrow i x b k o.before)

  past_out : (i n x : ℕ) → LowestOut s i n x → standing s (x + 1) + (i + 1) ≡ standing s i + (x + 1)
  past_out i n x o = let l : i ≤ x = o.from in omega (arith, next_out x o.out, before_out i n x x o l (omega arith))

  -- three boxes out
  pub three_out : (n x y z : ℕ) → LowestOut s 0 n x → LowestOut s (x + 1) n y → LowestOut s (y + 1) n z → standing s n + 2 < n
  three_out n x y z ox oy oz =
      let l : z < n = oz.inside in
      let bound : standing s n + (z + 1) ≤ standing s (z + 1) + n = most_between (z + 1) n (omega arith) in
      omega (arith, bound, past_out 0 n x ox, past_out (x + 1) n y oy, past_out (y + 1) n z oz)

  -- each box by itself, where none is out, one, or two: whether it stands, and how many do below it
  pub record Stands (b d : ℕ) : Type 0 where
    pub it : s b ≡ true
    pub below : standing s b + d ≡ b

  none_out : (n b : ℕ) → AllStand s 0 n → b < n → Stands b 0
  none_out n b h l = record { it = h b (omega arith) l; below = omega (arith, all_between 0 b (omega arith) (narrow 0 n b (omega arith) h)) }

  low : (n x b : ℕ) → LowestOut s 0 n x → b < x → Stands b 0
  low n x b o l = record { it = o.before b (omega arith) l; below = omega (arith, before_out 0 n x b o (omega arith) (omega arith)) }

  high : (n x k b : ℕ) → LowestOut s 0 n x → AllStand s (x + 1) k → x < b → b < k → Stands b 1
  high n x k b o h l m = record {
    it = h b (omega arith) m;
    below = omega (arith, past_out 0 n x o, all_between (x + 1) b (omega arith) (narrow (x + 1) k b (omega arith) h));
  }

  highest : (n x y b : ℕ) → LowestOut s 0 n x → LowestOut s (x + 1) n y → AllStand s (y + 1) n → y < b → b < n → Stands b 2
  highest n x y b ox oy h l m = record {
    it = h b (omega arith) m;
    below = omega (arith, past_out 0 n x ox, past_out (x + 1) n y oy, all_between (y + 1) b (omega arith) (narrow (y + 1) n b (omega arith) h));
  }

  pub none_count : (n : ℕ) → AllStand s 0 n → standing s n ≡ n
  none_count n h = omega (arith, all_between 0 n (omega arith) h)

  pub one_count : (n x : ℕ) → LowestOut s 0 n x → AllStand s (x + 1) n → standing s n + 1 ≡ n
  one_count n x o h = let l : x < n = o.inside in omega (arith, past_out 0 n x o, all_between (x + 1) n (omega arith) h)

  pub two_count : (n x y : ℕ) → LowestOut s 0 n x → LowestOut s (x + 1) n y → AllStand s (y + 1) n → standing s n + 2 ≡ n
  two_count n x y ox oy h = let l : y < n = oy.inside in omega (arith, past_out 0 n x ox, past_out (x + 1) n y oy, all_between (y + 1) n (omega arith) h)

  -- the boxes that are left aside are all but the first that stand
  abbrev pub First : ℕ → ℕ → Type 0
  First n b = (s b ≡ true) × (standing s b < n)

  not_out : (b x : ℕ) → s b ≡ true → s x ≡ false → b ≢ x
  not_out b x e f h = true≢false (sym e ∙ ap s h ∙ f)

  first_of : (n b d : ℕ) → Stands b d → b < n + d → First n b
  first_of n b d h l = (h.it, omega (arith, h.below))

  -- where none is out, or one parity box
  none_first : (n b : ℕ) → Stands b 0 → b < n + 2 → b ≢ n → b ≢ suc n → First n b
  none_first n b h l x y = first_of n b 0 h (omega arith)

  pub aside_first : (n : ℕ) (found : Missing) → Found s (n + 2) found → (b : ℕ) → b < n + 2 → (b ≢ (aside n found).0) → (b ≢ (aside n found).1) → First n b
  aside_first n Nothing h b l x y = none_first n b (none_out (n + 2) b h l) l x y
  aside_first n (One x) h b l nx ny =
      elim (cases_eq x (suc n)) [
        | inl e ↦ none_first n b (low (n + 2) x b h.0 (omega arith)) l (λ w. nx (w ∙ sym (if_same x (suc n) e n x))) ny
        | inr k ↦
            let out : b ≢ x = λ w. nx (w ∙ sym (if_other x (suc n) k n x)) in
            let inside : x < n + 2 = h.0.inside in
            elim (cases_order b x) [
              | inl e ↦ absurd (out e)
              | inr (inl m) ↦ first_of n b 0 (low (n + 2) x b h.0 m) (omega arith)
              | inr (inr m) ↦ first_of n b 1 (high (n + 2) x (n + 2) b h.0 h.1 m l) (omega arith)
            ]
      ]
  aside_first n (Two x y) h b l nx ny =
      let beyond : x + 1 ≤ y = h.1.from in
      let inside : y < n + 2 = h.1.inside in
      elim (cases_order b x) [
        | inl e ↦ absurd (nx e)
        | inr (inl k) ↦ first_of n b 0 (low (n + 2) x b h.0 k) (omega arith)
        | inr (inr k) ↦
            elim (cases_order b y) [
              | inl e ↦ absurd (ny e)
              | inr (inl m) ↦ first_of n b 1 (high (n + 2) x y b h.0 h.1.before k m) (omega arith)
              | inr (inr m) ↦ first_of n b 2 (highest (n + 2) x y b h.0 h.1 h.2 m l) l
            ]
      ]

  -- and none of the first that stand is left aside
  too_many : (n b d : ℕ) → Stands b d → n + d ≤ b → First n b → ⊥
  too_many n b d h l f = let k : standing s b < n = f.1 in omega (arith, h.below)

  pub first_apart : (n : ℕ) (found : Missing) → Found s (n + 2) found → (b : ℕ) → b < n + 2 → First n b → (b ≢ (aside n found).0) × (b ≢ (aside n found).1)
  first_apart n Nothing h b l f = (
    (λ e. too_many n b 0 (none_out (n + 2) b h l) (omega arith) f),
    (λ e. too_many n b 0 (none_out (n + 2) b h l) (omega arith) f),
  )
  first_apart n (One x) h b l f =
      elim (cases_eq x (suc n)) [
        | inl e ↦ (
          (λ w. let at : b ≡ n = w ∙ if_same x (suc n) e n x in too_many n b 0 (low (n + 2) x b h.0 (omega arith)) (omega arith) f),
          (λ w. not_out b x f.0 h.0.out (w ∙ sym e)),
        )
        | inr k ↦
            let inside : x < n + 2 = h.0.inside in (
              (λ w. not_out b x f.0 h.0.out (w ∙ if_other x (suc n) k n x)),
              (λ w. too_many n b 1 (high (n + 2) x (n + 2) b h.0 h.1 (omega arith) l) (omega arith) f),
            )
      ]
  first_apart n (Two x y) h b l f = (not_out b x f.0 h.0.out, not_out b y f.0 h.1.out)

-- so they are told apart by whether three are out
pub few_out : (n : ℕ) (out : List ℕ) → n ≤ standing (stands out) n + 2 → None ≡ many_out n out
few_out n out l = sym (cond-false _ _ _ (le-ltb (standing (stands out) n + 2) n l))

pub are_many : (n : ℕ) (out : List ℕ) → standing (stands out) n + 2 < n → Some ManyOut ≡ many_out n out
are_many n out l = sym (cond-true _ _ _ (lt-ltb (standing (stands out) n + 2) n l))
