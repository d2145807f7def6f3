-- A number that is read has these digits, and the digits of a number are read as it. Assumes nothing.
use Rattle.std.proofs.Common.{◌≡◌, ℕ, ◌+◌, ◌-◌, ◌*◌, ◌/◌, ◌%◌, ◌^◌, ◌<◌, ◌≤◌, ◌≢◌, cond, true, false, ◌&&◌, ltb, leb, List, [], ◌∷◌, ◌++◌, Some, None, refl, sym, ap, subst, ◌∙◌, append_assoc, arith, inl, inr}
use Rattle.std.specs.Fmt.{decimal}
use Rattle.std.proofs.lemmas.Bool.{cases_Bool, cases_eq, cases_lt, and_parts, and_from, leb-true, lt-ltb, le-leb, ltb-true, ne_eqb, eq-eqb}
use Rattle.std.proofs.lemmas.Option.{cond_some, same_Some}
use Rattle.std.proofs.lemmas.Fmt.{decimal_digit, decimal_step, decimal_by_steps}
use Rattle.script.specs.Reading.{is_digit, digits_on, number_at}

decimal_zero : decimal 0 ≡ 48 ∷ []
decimal_zero = decimal_digit 0 (omega arith)

-- one more digit behind a number
decimal_more : (n d : ℕ) → 0 < n → n < 10 ^ 9 → d < 10 → decimal (10 * n + d) ≡ decimal n ++ (48 + d) ∷ []
decimal_more n d pos small digit =
    let front : (10 * n + d) / 10 ≡ n = omega arith in
    let last : (10 * n + d) % 10 ≡ d = omega arith in
    decimal_step (10 * n + d) (omega arith) (omega arith) ∙ rw (front, last) refl

-- reading on from a number takes its digits and those behind it
digits_take : (n : ℕ) (bytes : List ℕ) → 0 < n → n < 10 ^ 9 → (decimal (digits_on n bytes).0 ++ (digits_on n bytes).1 ≡ decimal n ++ bytes) × ((digits_on n bytes).0 < 10 ^ 9)
unfolding digits_on
digits_take n [] pos small = (refl, small)
digits_take n (b ∷ bs) pos small =
    elim (cases_Bool (is_digit b && ltb n 100000000)) [
      | inl h ↦
          let parts = and_parts (is_digit b) (ltb n 100000000) h in
          let digit = and_parts (leb 48 b) (leb b 57) parts.0 in
          let low : 48 ≤ b = leb-true _ _ digit.0 in
          let high : b ≤ 57 = leb-true _ _ digit.1 in
          let room : n < 100000000 = ltb-true _ _ parts.1 in
          let more = digits_take (10 * n + (b - 48)) bs (omega arith) (omega arith) in
          let same : decimal (10 * n + (b - 48)) ++ bs ≡ decimal n ++ b ∷ bs =
          rw (decimal_more n (b - 48) pos small (omega arith), append_assoc) (let e : 48 + (b - 48) ≡ b = omega arith in rw e refl) in
          rw h (more.0 ∙ same, more.1)
      | inr h ↦ rw h (refl, small)
    ]

digit_is : (b : ℕ) → is_digit b ≡ true → (48 ≤ b) × (b ≤ 57)
digit_is b h =
    let parts = and_parts (leb 48 b) (leb b 57) h in
    (leb-true _ _ parts.0, leb-true _ _ parts.1)

-- a digit at the front that is no zero, and those behind it
digit_takes : (b : ℕ) (bs : List ℕ) (x : ℕ × List ℕ) → b ≢ 48 → is_digit b ≡ true → digits_on (b - 48) bs ≡ x → (b ∷ bs ≡ decimal x.0 ++ x.1) × (x.0 < 10 ^ 9)
digit_takes b bs x other digit e =
    let range = digit_is b digit in
    let whole = digits_take (b - 48) bs (omega arith) (omega arith) in
    let back : 48 + (b - 48) ≡ b = omega arith in
    let front : decimal (b - 48) ++ bs ≡ b ∷ bs = rw (decimal_digit (b - 48) (omega arith), back) refl in
    subst (λ (y : ℕ × List ℕ). (b ∷ bs ≡ decimal y.0 ++ y.1) × (y.0 < 10 ^ 9)) e (sym (whole.0 ∙ front), whole.1)

pub number_takes : (bytes : List ℕ) (x : ℕ × List ℕ) → number_at bytes ≡ Some x → (bytes ≡ decimal x.0 ++ x.1) × (x.0 < 10 ^ 9)
unfolding number_at
number_takes [] x e = absurd cc
number_takes (b ∷ bs) x e =
    elim (cases_eq b 48) [
      | inl zero-is ↦
          let found : Some (0, bs) ≡ Some x = sym (ap (λ t. cond t (Some (0, bs)) (cond (is_digit b) (Some (digits_on (b - 48) bs)) None)) (eq-eqb b 48 zero-is)) ∙ e in
          subst (λ (y : ℕ × List ℕ). (b ∷ bs ≡ decimal y.0 ++ y.1) × (y.0 < 10 ^ 9)) (same_Some _ _ found) (rw (zero-is, decimal_zero) refl, omega arith)
      | inr other ↦
          let found = sym (ap (λ t. cond t (Some (0, bs)) (cond (is_digit b) (Some (digits_on (b - 48) bs)) None)) (ne_eqb b 48 other)) ∙ e in
          let parts = cond_some (is_digit b) (digits_on (b - 48) bs) x found in
          digit_takes b bs x other parts.0 parts.1
    ]

digit_at : (d : ℕ) → d < 10 → is_digit (48 + d) ≡ true
digit_at d h = and_from (leb 48 (48 + d)) (leb (48 + d) 57) (le-leb _ _ (omega arith)) (le-leb _ _ (omega arith))

-- behind the digits of a number reading goes on from it
number_on : (n : ℕ) → n < 10 ^ 9 → 0 < n → (rest : List ℕ) → number_at (decimal n ++ rest) ≡ Some (digits_on n rest)
unfolding number_at digits_on
number_on n small =
    decimal_by_steps (λ n ds. n < 10 ^ 9 → 0 < n → (rest : List ℕ) → number_at (ds ++ rest) ≡ Some (digits_on n rest)) one more n (omega arith) small
  where
    one : (n : ℕ) → n < 10 → n < 10 ^ 9 → 0 < n → (rest : List ℕ) → number_at ((48 + n) ∷ [] ++ rest) ≡ Some (digits_on n rest)
    one n digit small pos rest =
        let back : 48 + n - 48 ≡ n = omega arith in
        rw (ne_eqb (48 + n) 48 (λ e. omega arith), digit_at n digit, back) refl

    more : (n : ℕ) (ds : List ℕ) → 10 ≤ n → (n / 10 < 10 ^ 9 → 0 < n / 10 → (rest : List ℕ) → number_at (ds ++ rest) ≡ Some (digits_on (n / 10) rest))
        → n < 10 ^ 9 → 0 < n → (rest : List ℕ) → number_at (ds ++ (48 + n % 10) ∷ [] ++ rest) ≡ Some (digits_on n rest)
    more n ds large before small pos rest =
        let last : n % 10 < 10 = omega arith in
        let room : ltb (n / 10) 100000000 ≡ true = lt-ltb _ _ (omega arith) in
        let whole : 10 * (n / 10) + (48 + n % 10 - 48) ≡ n = omega arith in
        ap number_at (append_assoc ds ((48 + n % 10) ∷ []) rest) ∙ before (omega arith) (omega arith) ((48 + n % 10) ∷ rest)
        ∙ rw (digit_at (n % 10) last, room, whole) refl

-- the digits of a number end where a byte stands that is no digit
pub number_again : (n end : ℕ) (rest : List ℕ) → n < 10 ^ 9 → is_digit end ≡ false → number_at (decimal n ++ end ∷ rest) ≡ Some (n, end ∷ rest)
unfolding number_at digits_on
number_again n end rest small other =
    elim (cases_lt 0 n) [
      | inl pos ↦ number_on n small pos (end ∷ rest) ∙ rw other refl
      | inr none ↦
          let e : n ≡ 0 = omega arith in
          rw (e, decimal_zero) refl
    ]
