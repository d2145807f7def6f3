-- Which boxes are out, as a ledger counts them and as a stripe does. Assumes nothing.
use Rattle.std.proofs.Common.{◌≡◌, ℕ, zero, suc, ◌+◌, ◌-◌, ◌*◌, ◌^◌, ◌≤◌, Bool, true, false, not, inl, inr, List, [], ◌∷◌, ◌&&◌, ◌||◌, ◌==◌, length, Option, Some, None, cond, refl, sym, ap, ap₂, ◌∙◌, unwrap_or, ◌<◌, nat_le, nat_lt, arith, tests}
use Rattle.std.proofs.lemmas.Bool.{cases_eq}
use Rattle.field.specs.Symbols.{Symbols}
use Rattle.code.specs.Standing.{standing}
use Rattle.boxes.specs.Out.{many_out}
use Rattle.refusal.specs.Refusals.{Reason, earliest, no_box, parity_box, where_holds, wrong_lengths}
use Rattle.refusal.specs.declared.Refusal.{Refusal}
use Rattle.refusal.specs.declared.Refusal.TheVariants.{ManyOut, NoBox, NotRenewable, Shape, Standing}
use Rattle.shelf.specs.Meaning.{Meaning, box_count, is_out, is_standing}
use Rattle.stripe.specs.Reasons.{box_stands}
use Rattle.stripe.specs.Stripes.{has_stripe, no_stripe, stands}
use Rattle.missing.proofs.Counts.{most_below}
use Rattle.renewing.specs.Renewals.{not_renewable, others_stand}
use Rattle.ledger.specs.Calls.{reasons, three_out}
use Rattle.ledger.specs.declared.calls.Call.TheVariants.{Renew}
use Rattle.vault_calls.specs.States.{in_force, shelf_state, state}

module _ {T : Type 0} (s : Meaning T) where
  -- a box that there is stands, or is out
  not_out : (b : ℕ) → suc b ≤ box_count s → not (is_out s (suc b)) ≡ stands s b
  not_out b l = grind (arith, tests)

  -- so as many stand as are not out
  standing_same : (n : ℕ) → n ≤ box_count s → standing (λ b. not (is_out s (suc b))) n ≡ standing (stands s) n
  standing_same zero l = refl
  standing_same (suc n) l =
      let here = not_out n l in
      let below = standing_same n (omega arith) in
      ap₂ (λ t k. cond t (suc k) k) here below

  many_same : (n : ℕ) → n ≤ box_count s → many_out n (λ b. not (is_out s (suc b))) ≡ many_out n (stands s)
  many_same n l = ap (λ k. where_holds (nat_lt (k + 2) n) ManyOut) (standing_same n l)

-- three or more are out of a vault, as its stripe has it
pub three_same : (Y : Symbols) {T : Type 0} (size : Option ℕ) (s : Meaning T) (m : ℕ) → in_force Y size s ≡ Some m → box_count s ≡ 3 * m + 2 → many_out (3 * m + 2) (stands s) ≡ three_out (state Y size s)
three_same Y size s m e b =
    sym (many_same s (3 * m + 2) (omega (arith, b)))
    ∙ ap (λ o. many_out (3 * unwrap_or o 0 + 2) (λ b. not (is_out s (suc b)))) (sym e)

-- all others stand if as many stand as there are but one
module _ (up : ℕ → Bool) (x : ℕ) where
  below_turn : (t u v : Bool) (n k : ℕ) → k ≤ n → u ≡ false → v ≡ nat_le n k → ((u || t) && v) ≡ nat_le (suc n) (cond t (suc k) k)
  below_turn true u v n k l e h = grind (arith, tests)
  below_turn false u v n k l e h = grind (arith, tests)

  others_below : (n : ℕ) → n ≤ x → others_stand up x n ≡ nat_le n (standing up n)
  others_below zero l = refl
  others_below (suc n) l = below_turn (up n) (n == x) (others_stand up x n) n (standing up n) (most_below up n) (grind (arith, tests)) (others_below n (omega arith))

  abbrev Counted : ℕ → Bool → ℕ → Type 0
  Counted n t k = (t ≡ nat_le n (k + 1)) × (k + 1 ≤ n)

  turn_here : (t u v : Bool) (n k : ℕ) → k ≤ n → t ≡ false → u ≡ true → v ≡ nat_le n k → Counted (suc n) ((u || t) && v) (cond t (suc k) k)
  turn_here true u v n k l o e h = absurd (grind (arith, tests))
  turn_here false u v n k l o e h = (grind (arith, tests), omega arith)

  turn_past : (t u v : Bool) (n k : ℕ) → u ≡ false → Counted n v k → Counted (suc n) ((u || t) && v) (cond t (suc k) k)
  turn_past true u v n k e h = let w = h.0 in (grind (arith, tests), omega (arith, h.1))
  turn_past false u v n k e h = let l = h.1 in (grind (arith, tests), omega (arith, h.1))

  others_counted : (n : ℕ) → x < n → up x ≡ false → Counted n (others_stand up x n) (standing up n)
  others_counted zero l out = absurd (omega arith)
  others_counted (suc n) l out =
      elim (cases_eq n x) [
        | inl e ↦ turn_here (up n) (n == x) (others_stand up x n) n (standing up n) (most_below up n) (ap up e ∙ out) (grind (arith, tests)) (others_below n (omega arith))
        | inr ne ↦ turn_past (up n) (n == x) (others_stand up x n) n (standing up n) (grind (arith, tests)) (others_counted n (omega arith) out)
      ]

either : (p q : Bool) (why : Refusal) → where_holds (p || q) why ≡ earliest (where_holds p why ∷ where_holds q why ∷ [])
either true q why = refl
either false true why = refl
either false false why = refl

-- the same reasons, as far as they are asked for
alike : (p q q' : Bool) (m m' r : Reason) (rs : List Reason) → (p ≡ false → q ≡ q') → (p ≡ false → m ≡ m') → (p ≡ false → q ≡ false → r ≡ earliest rs)
    → earliest (where_holds p NoBox ∷ where_holds q Standing ∷ m ∷ r ∷ []) ≡ earliest (where_holds p NoBox ∷ where_holds q' Standing ∷ m' ∷ rs)
alike true q q' m m' r rs hq hm hr = refl
alike false true q' m m' r rs hq hm hr = ap (λ t. earliest (where_holds t Standing ∷ m' ∷ rs)) (hq refl)
alike false false q' m m' r rs hq hm hr = ap₂ (λ x y. earliest (x ∷ y ∷ [])) (hm refl) (hr refl refl) ∙ last m' ∙ ap (λ t. earliest (where_holds t Standing ∷ m' ∷ rs)) (hq refl)
  where
    one : (o : Option Refusal) → earliest (o ∷ []) ≡ o
    one None = refl
    one (Some why) = refl

    last : (o : Reason) → earliest (o ∷ earliest rs ∷ []) ≡ earliest (o ∷ rs)
    last None = one (earliest rs)
    last (Some why) = refl

-- why a renewal is declined, as a ledger and as a stripe has it
module _ {T : Type 0} (s : Meaning T) (n b : ℕ) (boxes : box_count s ≡ n + 2) where
  abbrev up : ℕ → Bool
  up d = not (is_out s (suc d))

  abbrev no_second : Reason
  no_second = where_holds (nat_lt (standing up (n + 2) + 1) (n + 2)) NotRenewable

  not_renewable_same : 1 ≤ b → b ≤ n + 2 → is_standing s b ≡ false → not_renewable n b (stands s) ≡ earliest (parity_box n b ∷ no_second ∷ [])
  not_renewable_same first last out =
      let place : suc (b - 1) ≡ b = omega arith in
      let count = (others_counted (stands s) (b - 1) (n + 2) (omega arith) (ap (is_standing s) place ∙ out)).0 in
      let same : standing (stands s) (n + 2) ≡ standing up (n + 2) = sym (standing_same s (n + 2) (omega (arith, boxes))) in
      let second : not (others_stand (stands s) (b - 1) (n + 2)) ≡ nat_lt (standing up (n + 2) + 1) (n + 2) = grind (arith, tests) in
      ap (λ t. where_holds (nat_lt n b || t) NotRenewable) second ∙ either (nat_lt n b) _ NotRenewable

  renewal_same : earliest (no_box (n + 2) b ∷ box_stands s b ∷ many_out (n + 2) (stands s) ∷ not_renewable n b (stands s) ∷ [])
      ≡ earliest (no_box (n + 2) b ∷ where_holds (not (is_out s b)) Standing ∷ many_out (n + 2) up ∷ parity_box n b ∷ no_second ∷ [])
  renewal_same =
      alike (nat_lt b 1 || nat_lt (n + 2) b) (is_standing s b) (not (is_out s b)) _ _ _ _
      (λ e. let r = ranged e in grind (arith, tests))
      (λ e. sym (many_same s (n + 2) (omega (arith, boxes))))
      (λ e out. let r = ranged e in not_renewable_same r.0 r.1 out)
    where
      ranged : (nat_lt b 1 || nat_lt (n + 2) b) ≡ false → (1 ≤ b) × (b ≤ n + 2)
      ranged e = (grind (arith, tests), grind (arith, tests))

-- the same with the reasons of every call, once the vault is set up
pub renewal_verdict : (Y : Symbols) {T : Type 0} (size : Option ℕ) (s : Meaning T) (m b : ℕ) (work : List T) → in_force Y size s ≡ Some m → box_count s ≡ 3 * m + 2 → has_stripe m 0 s ≡ true
    → earliest (no_stripe m 0 s ∷ wrong_lengths ((length work, 3 * m * 2 ^ m) ∷ []) ∷ no_box (3 * m + 2) b ∷ box_stands s b ∷ many_out (3 * m + 2) (stands s) ∷ not_renewable (3 * m) b (stands s) ∷ [])
    ≡ earliest (reasons Y (state Y size s) (Renew b work))
renewal_verdict Y size s m b work force boxes there =
    ap (λ t. earliest (where_holds (not t) Shape ∷ length_reason ∷ rest)) there
    ∙ after length_reason _ _ (renewal_same s (3 * m) b boxes)
    ∙ ap (λ o. earliest (reasons Y (shelf_state Y o s) (Renew b work))) (sym force)
  where
    length_reason : Reason
    length_reason = wrong_lengths ((length work, 3 * m * 2 ^ m) ∷ [])

    rest : List Reason
    rest = no_box (3 * m + 2) b ∷ box_stands s b ∷ many_out (3 * m + 2) (stands s) ∷ not_renewable (3 * m) b (stands s) ∷ []

    after : (o : Reason) (xs ys : List Reason) → earliest xs ≡ earliest ys → earliest (o ∷ xs) ≡ earliest (o ∷ ys)
    after None xs ys e = e
    after (Some why) xs ys e = refl
