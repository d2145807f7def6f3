-- The earliest of the reasons of one message after another. Assumes nothing.
use Rattle.std.proofs.Common.{◌≡◌, ℕ, ◌≤◌, ◌≢◌, ◌+◌, ◌-◌, ◌*◌, ◌^◌, Bool, true, false, ◌||◌, ◌==◌, nat_lt, List, [], ◌∷◌, ◌++◌, Some, None, refl, ap, arith}
use Rattle.std.proofs.lemmas.Bool.Decides.{nat_tests}
use Rattle.refusal.specs.Refusals.{Reason, earliest, where_holds, any_wrong, wrong_lengths, no_box, no_helper, unheard}
use Rattle.refusal.specs.declared.Refusal.{Refusal}
use Rattle.refusal.specs.declared.Refusal.TheVariants.{Length, NoBox, Helper}

-- what comes after some reasons counts if none of these fits
pub earliest_none : (rs after : List Reason) → earliest rs ≡ None → earliest (rs ++ after) ≡ earliest after
earliest_none [] after h = refl
earliest_none (None ∷ rs) after h = earliest_none rs after h
earliest_none (Some why ∷ rs) after h = cc

pub earliest_some : (rs after : List Reason) (why : Refusal) → earliest rs ≡ Some why → earliest (rs ++ after) ≡ Some why
earliest_some [] after why h = cc
earliest_some (None ∷ rs) after why h = earliest_some rs after why h
earliest_some (Some w ∷ rs) after why h = h

-- a test that does not hold is passed over
tested : (t : Bool) (why : Refusal) (rs rs' : List Reason) → (t ≡ false → earliest rs ≡ earliest rs') → earliest (where_holds t why ∷ rs) ≡ earliest (where_holds t why ∷ rs')
tested true why rs rs' same = refl
tested false why rs rs' same = same refl

clear : (t : Bool) (why : Refusal) (rs : List Reason) → earliest (where_holds t why ∷ rs) ≡ None → (t ≡ false) × (earliest rs ≡ None)
clear true why rs h = cc
clear false why rs h = (refl, h)

within : (n b : ℕ) → (nat_lt b 1 || nat_lt n b) ≡ false → (1 ≤ b) × (b ≤ n)
within n b h = (grind (arith, nat_tests), grind (arith, nat_tests))

neither : (x b : ℕ) (h : Bool) → (b == x || h) ≡ false → (b ≢ x) × (h ≡ false)
neither x b true e = grind (arith, nat_tests)
neither x b false e = (λ same. grind (arith, nat_tests), refl)

-- a helper's flag counts only where the box is there
pub flag_counts : (r : Reason) (n x b : ℕ) (h k : Bool) → (1 ≤ b → b ≤ n → h ≡ k) → earliest (r ∷ no_box n b ∷ no_helper x b h ∷ []) ≡ earliest (r ∷ no_box n b ∷ no_helper x b k ∷ [])
flag_counts (Some why) n x b h k same = refl
flag_counts None n x b h k same =
    tested (nat_lt b 1 || nat_lt n b) NoBox (no_helper x b h ∷ []) (no_helper x b k ∷ [])
    (λ in_range. let i = within n b in_range in ap (λ f. earliest (no_helper x b f ∷ [])) (same i.0 i.1))

-- a message that is not declined
pub record Accepted (ps : List (ℕ × ℕ)) (n x b : ℕ) (h : Bool) : Type 0 where
  pub right : any_wrong ps ≡ false
  pub first : 1 ≤ b
  pub last : b ≤ n
  pub other : b ≢ x
  pub new : h ≡ false

pub accepted : (ps : List (ℕ × ℕ)) (n x b : ℕ) (h : Bool) → earliest (wrong_lengths ps ∷ no_box n b ∷ no_helper x b h ∷ []) ≡ None → Accepted ps n x b h
accepted ps n x b h none =
    let l = clear (any_wrong ps) Length (no_box n b ∷ no_helper x b h ∷ []) none in
    let i = clear (nat_lt b 1 || nat_lt n b) NoBox (no_helper x b h ∷ []) l.1 in
    let k = clear (b == x || h) Helper [] i.1 in
    let w = within n b i.0 in
    let o = neither x b h k.0 in
    record { right = l.0; first = w.0; last = w.1; other = o.0; new = o.1 }

pub right_lengths : (a b c d : ℕ) → any_wrong ((a, b) ∷ (c, d) ∷ []) ≡ false → (a ≡ b) × (c ≡ d)
right_lengths a b c d h = (grind (arith, nat_tests), grind (arith, nat_tests))

pub none_missing : (t : Bool) → None ≡ unheard t → t ≡ false
none_missing true e = cc
none_missing false e = refl

-- the lengths that are asked for in the end, by other names
pub last_lengths : (m' m stored' stored rows : ℕ) → m' ≡ m → stored' ≡ stored
    → earliest (wrong_lengths ((stored', (3 * m' + 1) * 2 ^ (m' - 1)) ∷ (rows, 2 ^ m') ∷ []) ∷ []) ≡ earliest (wrong_lengths ((stored, (3 * m + 1) * 2 ^ (m - 1)) ∷ (rows, 2 ^ m) ∷ []) ∷ [])
last_lengths m' m stored' stored rows em es i = earliest (wrong_lengths ((es i, (3 * em i + 1) * 2 ^ (em i - 1)) ∷ (rows, 2 ^ em i) ∷ []) ∷ [])
