-- A line of numbers that is read is printed so, and one that is printed is read again. Assumes nothing.
use Rattle.std.proofs.Common.{◌≡◌, ℕ, zero, suc, ◌<◌, ◌≤◌, Bool, true, false, cond, eqb, List, [], ◌∷◌, ◌++◌, length, map, Option, Some, None, if◌then◌else◌, ◌⊎◌, refl, sym, ap, subst, ◌∙◌, append_assoc, arith, inl, inr}
use Rattle.std.specs.Fmt.{decimal}
use Rattle.std.specs.List.{AllByRecursion, join_with_byte}
use Rattle.std.proofs.lemmas.Bool.{cases_eq, eqb-true, eq-eqb, ne_eqb}
use Rattle.std.proofs.lemmas.Option.{cond_some, same_Some}
use Rattle.script.specs.Reading.{◌>>=◌, is_digit, first_byte, after_byte, number_at, number_then, ended_at, numbers_at, hyphen_or_numbers, number_line_at}
use Rattle.script.specs.Scripts.{IsNumber, line, number_words}
use Rattle.script.proofs.NumberLaws.{number_takes, number_again}

-- the value of a step that is there
pub bind_some : {A B : Type 0} (o : Option A) (f : A → Option B) (y : B) → (o >>= f) ≡ Some y → (x : A) × (o ≡ Some x) × (f x ≡ Some y)
bind_some None f y e = absurd cc
bind_some (Some x) f y e = (x, refl, e)

-- the branch that a test takes
pub chosen : {A : Type 0} (b : Bool) (x y z : A) → cond b x y ≡ z → ((b ≡ true) × (x ≡ z)) ⊎ ((b ≡ false) × (y ≡ z))
chosen true x y z e = inl (refl, e)
chosen false x y z e = inr (refl, e)

pub after_takes : (wanted : ℕ) (bytes rest : List ℕ) → after_byte wanted bytes ≡ Some rest → bytes ≡ wanted ∷ rest
unfolding after_byte
after_takes wanted [] rest e = absurd cc
after_takes wanted (b ∷ bs) rest e =
    let parts = cond_some (eqb b wanted) bs rest e in
    let same : b ≡ wanted = eqb-true b wanted parts.0 in
    rw (same, parts.1) refl

pub after_again : (wanted : ℕ) (rest : List ℕ) → after_byte wanted (wanted ∷ rest) ≡ Some rest
unfolding after_byte
after_again wanted rest = rw (eq-eqb wanted wanted refl) refl

pub first_takes : (bytes : List ℕ) (x : ℕ × List ℕ) → first_byte bytes ≡ Some x → bytes ≡ x.0 ∷ x.1
first_takes [] x e = absurd cc
first_takes (b ∷ bs) x e = let same : (b, bs) ≡ x = same_Some _ _ e in rw (← same) refl

pub number_then_takes : (wanted : ℕ) (bytes : List ℕ) (x : ℕ × List ℕ) → number_then wanted bytes ≡ Some x → (bytes ≡ decimal x.0 ++ wanted ∷ x.1) × IsNumber x.0
unfolding number_then
number_then_takes wanted bytes x e =
    let a = bind_some (number_at bytes) _ x e in
    let b = bind_some (after_byte wanted a.0.1) _ x a.2 in
    let number = number_takes bytes a.0 a.1 in
    subst (λ (y : ℕ × List ℕ). (bytes ≡ decimal y.0 ++ wanted ∷ y.1) × IsNumber y.0) (same_Some _ _ b.2)
    (number.0 ∙ ap (λ rest. decimal a.0.0 ++ rest) (after_takes wanted a.0.1 b.0 b.1), number.1)

pub number_then_again : (wanted n : ℕ) (rest : List ℕ) → IsNumber n → is_digit wanted ≡ false → number_then wanted (decimal n ++ wanted ∷ rest) ≡ Some (n, rest)
unfolding number_then
number_then_again wanted n rest small other = rw (number_again n wanted rest small other, after_again wanted rest) refl

-- what ends a number
abbrev pub end_byte : Bool → ℕ
end_byte last = if last then 10 else 32

ended_takes : (bytes : List ℕ) (x : (ℕ × Bool) × List ℕ) → ended_at bytes ≡ Some x → (bytes ≡ decimal x.0.0 ++ end_byte x.0.1 ∷ x.1) × IsNumber x.0.0
unfolding ended_at
ended_takes bytes x e =
    let a = bind_some (number_at bytes) _ x e in
    let n = a.0 in
    let b = bind_some (first_byte n.1) _ x a.2 in
    let end = b.0 in
    let number = number_takes bytes n a.1 in
    let whole : bytes ≡ decimal n.0 ++ end.0 ∷ end.1 = number.0 ∙ ap (λ rest. decimal n.0 ++ rest) (first_takes n.1 end b.1) in
    by n.0 end.0 end.1 whole number.1 b.2
  where
    by : (n e : ℕ) (rest : List ℕ) → bytes ≡ decimal n ++ e ∷ rest → IsNumber n → cond (eqb e 10) (Some ((n, true), rest)) (cond (eqb e 32) (Some ((n, false), rest)) None) ≡ Some x
        → (bytes ≡ decimal x.0.0 ++ end_byte x.0.1 ∷ x.1) × IsNumber x.0.0
    by n e rest whole small found =
        elim (chosen (eqb e 10) (Some ((n, true), rest)) (cond (eqb e 32) (Some ((n, false), rest)) None) (Some x) found) [
          | inl h ↦ subst (λ (y : (ℕ × Bool) × List ℕ). (bytes ≡ decimal y.0.0 ++ end_byte y.0.1 ∷ y.1) × IsNumber y.0.0) (same_Some _ _ h.1) (whole ∙ ap (λ d. decimal n ++ d ∷ rest) (eqb-true e 10 h.0), small)
          | inr h ↦
              let p = cond_some (eqb e 32) ((n, false), rest) x h.1 in
              subst (λ (y : (ℕ × Bool) × List ℕ). (bytes ≡ decimal y.0.0 ++ end_byte y.0.1 ∷ y.1) × IsNumber y.0.0) p.1 (whole ∙ ap (λ d. decimal n ++ d ∷ rest) (eqb-true e 32 p.0), small)
        ]

ended_again : (n : ℕ) (last : Bool) (rest : List ℕ) → IsNumber n → ended_at (decimal n ++ end_byte last ∷ rest) ≡ Some ((n, last), rest)
unfolding ended_at
ended_again n true rest small = rw (number_again n 10 rest small refl) refl
ended_again n false rest small = rw (number_again n 32 rest small refl) refl

-- a line is its first word and what is behind it
line_one : (word rest : List ℕ) → line (word ∷ []) ++ rest ≡ word ++ 10 ∷ rest
line_one word rest = append_assoc word (10 ∷ []) rest

line_more : (word next : List ℕ) (words : List (List ℕ)) (rest : List ℕ) → line (word ∷ next ∷ words) ++ rest ≡ word ++ 32 ∷ (line (next ∷ words) ++ rest)
line_more word next words rest =
    ap (λ t. t ++ rest) (append_assoc word (32 ∷ join_with_byte 32 (next ∷ words)) (10 ∷ []))
    ∙ append_assoc word (32 ∷ line (next ∷ words)) rest

-- a number goes before those behind it
goes_before : (n : ℕ) (others rest : List ℕ) → 1 ≤ length others → line (map decimal (n ∷ others)) ++ rest ≡ decimal n ++ 32 ∷ (line (map decimal others) ++ rest)
goes_before n [] rest some = absurd (omega arith)
goes_before n (k ∷ ks) rest some = line_more (decimal n) (decimal k) (map decimal ks) rest

-- numbers that are taken from the front
record NumbersTaken (limit : ℕ) (bytes ns rest : List ℕ) : Type 0 where
  parts : bytes ≡ line (map decimal ns) ++ rest
  some : 1 ≤ length ns
  few : length ns ≤ limit
  each : AllByRecursion IsNumber ns

numbers_take : (limit : ℕ) (bytes : List ℕ) (x : List ℕ × List ℕ) → numbers_at limit bytes ≡ Some x → NumbersTaken limit bytes x.0 x.1
unfolding numbers_at
numbers_take zero bytes x e = absurd cc
numbers_take (suc limit) bytes x e =
    let a = bind_some (ended_at bytes) _ x e in
    let taken = ended_takes bytes a.0 a.1 in
    by (numbers_take limit) a.0.0.0 a.0.0.1 a.0.1 taken.0 taken.1 a.2
  where
    by : ((bytes : List ℕ) (x : List ℕ × List ℕ) → numbers_at limit bytes ≡ Some x → NumbersTaken limit bytes x.0 x.1)
        → (n : ℕ) (last : Bool) (rest : List ℕ) → bytes ≡ decimal n ++ end_byte last ∷ rest → IsNumber n
        → cond last (Some (n ∷ [], rest)) (numbers_at limit rest >>= λ others. Some (n ∷ others.0, others.1)) ≡ Some x → NumbersTaken (suc limit) bytes x.0 x.1
    by before n true rest whole small found =
        subst (λ (y : List ℕ × List ℕ). NumbersTaken (suc limit) bytes y.0 y.1) (same_Some _ _ found)
        (record { parts = whole ∙ sym (line_one (decimal n) rest); some = omega arith; few = omega arith; each = (small, tt) })
    by before n false rest whole small found =
        let b = bind_some (numbers_at limit rest) _ x found in
        let t = before rest b.0 b.1 in
        subst (λ (y : List ℕ × List ℕ). NumbersTaken (suc limit) bytes y.0 y.1) (same_Some _ _ b.2)
        (record {
          parts = whole ∙ ap (λ r. decimal n ++ 32 ∷ r) t.parts ∙ sym (goes_before n b.0.0 b.0.1 t.some);
          some = omega arith;
          few = omega (arith, t.few);
          each = (small, t.each);
        })

numbers_again : (n : ℕ) (ns : List ℕ) (limit : ℕ) (rest : List ℕ) → length ns < limit → IsNumber n → AllByRecursion IsNumber ns → numbers_at limit (line (map decimal (n ∷ ns)) ++ rest) ≡ Some (n ∷ ns, rest)
unfolding numbers_at
numbers_again n ns zero rest few small each = absurd (omega arith)
numbers_again n [] (suc limit) rest few small each =
    ap (numbers_at (suc limit)) (line_one (decimal n) rest) ∙ rw (ended_again n true rest small) refl
numbers_again n (k ∷ ks) (suc limit) rest few small each =
    ap (numbers_at (suc limit)) (line_more (decimal n) (decimal k) (map decimal ks) rest)
    ∙ rw (ended_again n false (line (map decimal (k ∷ ks)) ++ rest) small, numbers_again k ks limit rest (omega arith) each.0 each.1) refl

-- a number does not begin with a hyphen
no_hyphen : (bytes : List ℕ) (x : ℕ × List ℕ) → number_at bytes ≡ Some x → after_byte 45 bytes ≡ None
unfolding number_at after_byte
no_hyphen [] x e = absurd cc
no_hyphen (b ∷ bs) x e =
    elim (cases_eq b 45) [
      | inl hyphen ↦ absurd (let none : number_at (45 ∷ bs) ≡ Some x = subst (λ d. number_at (d ∷ bs) ≡ Some x) hyphen e in let no : None ≡ Some x = none in cc)
      | inr other ↦ rw (ne_eqb b 45 other) refl
    ]

no_hyphen_first : (limit : ℕ) (bytes : List ℕ) (x : List ℕ × List ℕ) → numbers_at limit bytes ≡ Some x → after_byte 45 bytes ≡ None
unfolding numbers_at ended_at
no_hyphen_first zero bytes x e = absurd cc
no_hyphen_first (suc limit) bytes x e =
    let a = bind_some (ended_at bytes) _ x e in
    let b = bind_some (number_at bytes) _ a.0 a.1 in
    no_hyphen bytes b.0 b.1

-- a line of numbers or of a hyphen
pub record LineTaken (limit : ℕ) (bytes ns rest : List ℕ) : Type 0 where
  pub parts : bytes ≡ line (number_words ns) ++ rest
  pub few : length ns ≤ limit
  pub each : AllByRecursion IsNumber ns

as_words : (ns : List ℕ) → 1 ≤ length ns → map decimal ns ≡ number_words ns
as_words [] some = absurd (omega arith)
as_words (n ∷ ns) some = refl

pub number_line_takes : (limit : ℕ) (bytes : List ℕ) (x : List ℕ × List ℕ) → number_line_at limit bytes ≡ Some x → LineTaken limit bytes x.0 x.1
unfolding number_line_at
number_line_takes limit bytes x e = by (after_byte 45 bytes) refl e
  where
    by : (o : Option (List ℕ)) → after_byte 45 bytes ≡ o → hyphen_or_numbers limit bytes o ≡ Some x → LineTaken limit bytes x.0 x.1
    by None is found =
        let t = numbers_take limit bytes x found in
        record { parts = t.parts ∙ ap (λ words. line words ++ x.1) (as_words x.0 t.some); few = t.few; each = t.each }
    by (Some rest) is found =
        let b = bind_some (after_byte 10 rest) _ x found in
        let whole : bytes ≡ 45 ∷ 10 ∷ b.0 = after_takes 45 bytes rest is ∙ ap (λ r. 45 ∷ r) (after_takes 10 rest b.0 b.1) in
        subst (λ (y : List ℕ × List ℕ). LineTaken limit bytes y.0 y.1) (same_Some _ _ b.2) (record { parts = whole; few = omega arith; each = tt })

pub number_line_again : (ns : List ℕ) (limit : ℕ) (rest : List ℕ) → length ns ≤ limit → AllByRecursion IsNumber ns → number_line_at limit (line (number_words ns) ++ rest) ≡ Some (ns, rest)
unfolding number_line_at
number_line_again [] limit rest few each = rw (after_again 45 (10 ∷ rest), after_again 10 rest) refl
number_line_again (n ∷ ns) limit rest few each =
    let found = numbers_again n ns limit rest (omega arith) each.0 each.1 in
    ap (hyphen_or_numbers limit (line (map decimal (n ∷ ns)) ++ rest)) (no_hyphen_first limit (line (map decimal (n ∷ ns)) ++ rest) (n ∷ ns, rest) found) ∙ found
