-- A command that is read is printed so, and one that is printed is read again. Assumes nothing.
use Rattle.std.proofs.Common.{◌≡◌, ℕ, ◌^◌, ◌<◌, ◌≤◌, true, cond, eqb, ltb, List, [], ◌∷◌, ◌++◌, length, map, Option, Some, None, refl, sym, ap, subst, ◌∙◌, append_assoc, arith, inl, inr}
use Rattle.std.specs.List.{AllByRecursion, flat_map, list_all}
use Rattle.std.proofs.lemmas.Bool.{eqb-true, and_parts, and_from, ltb-true, lt-ltb}
use Rattle.std.proofs.lemmas.Option.{cond_some, same_Some}
use Rattle.script.specs.Reading.{◌>>=◌, number_line_at, only_one, only_two, put_of, amend_of, bare_of, command_of, command_at, commands_at}
use Rattle.script.specs.Scripts.{CommandValue, Put, Amend, Read, Column, Message, Lose, Renew, Rebuild, letter, numbers, number_line, number_words, line, IsNumber, IsCommand}
use Rattle.script.proofs.LineLaws.{bind_some, chosen, number_line_takes, number_line_again}

all_below : (size : ℕ) (xs : List ℕ) → list_all (λ x. ltb x size) xs ≡ true → AllByRecursion (λ x. x < size) xs
all_below size [] e = tt
all_below size (x ∷ xs) e = let p = and_parts (ltb x size) (list_all (λ x. ltb x size) xs) e in (ltb-true _ _ p.0, all_below size xs p.1)

below_all : (size : ℕ) (xs : List ℕ) → AllByRecursion (λ x. x < size) xs → list_all (λ x. ltb x size) xs ≡ true
below_all size [] each = refl
below_all size (x ∷ xs) each = and_from (ltb x size) (list_all (λ x. ltb x size) xs) (lt-ltb _ _ each.0) (below_all size xs each.1)

below_numbers : (size : ℕ) (xs : List ℕ) → size ≤ 10 ^ 9 → AllByRecursion (λ x. x < size) xs → AllByRecursion IsNumber xs
below_numbers size [] small each = tt
below_numbers size (x ∷ xs) small each = (omega (arith, each.0), below_numbers size xs small each.1)

-- the command c has this letter and these numbers
abbrev IsOf : ℕ → ℕ → List ℕ → CommandValue → Type 0
IsOf size l ns c = (letter c ≡ l) × (numbers c ≡ ns) × IsCommand size c

-- the one that is read is the one that was made
taken : (size l : ℕ) (ns : List ℕ) (c d : CommandValue) → Some d ≡ Some c → IsOf size l ns d → IsOf size l ns c
taken size l ns c d e is = subst (IsOf size l ns) (same_Some d c e) is

put_takes : (size : ℕ) (ns : List ℕ) (c : CommandValue) → length ns ≤ 1152 → put_of size ns ≡ Some c → IsOf size 80 ns c
put_takes size ns c few e =
    let p = cond_some (list_all (λ x. ltb x size) ns) (Put ns) c e in
    subst (IsOf size 80 ns) p.1 (refl, refl, (few, all_below size ns p.0))

amend_takes : (size : ℕ) (ns : List ℕ) (c : CommandValue) → AllByRecursion IsNumber ns → amend_of size ns ≡ Some c → IsOf size 65 ns c
amend_takes size [] c each e = absurd cc
amend_takes size (a ∷ []) c each e = absurd cc
amend_takes size (a ∷ b ∷ []) c each e = absurd cc
amend_takes size (a ∷ b ∷ x ∷ []) c each e =
    let p = cond_some (ltb x size) (Amend a b x) c e in
    subst (IsOf size 65 (a ∷ b ∷ x ∷ [])) p.1 (refl, refl, (each.0, each.1.0, ltb-true x size p.0))
amend_takes size (a ∷ b ∷ x ∷ y ∷ ns) c each e = absurd cc

bare_takes : (size l : ℕ) (d : CommandValue) (ns : List ℕ) (c : CommandValue) → IsOf size l [] d → bare_of d ns ≡ Some c → IsOf size l ns c
bare_takes size l d [] c is e = taken size l [] c d e is
bare_takes size l d (n ∷ ns) c is e = absurd cc

one_takes : (size l : ℕ) (made : ℕ → CommandValue) (ns : List ℕ) (c : CommandValue) → ((n : ℕ) → IsNumber n → IsOf size l (n ∷ []) (made n)) → AllByRecursion IsNumber ns
    → (only_one ns >>= λ n. Some (made n)) ≡ Some c → IsOf size l ns c
one_takes size l made [] c is each e = absurd cc
one_takes size l made (n ∷ []) c is each e = taken size l (n ∷ []) c (made n) e (is n each.0)
one_takes size l made (n ∷ k ∷ ns) c is each e = absurd cc

two_takes : (size l : ℕ) (made : ℕ → ℕ → CommandValue) (ns : List ℕ) (c : CommandValue) → ((n k : ℕ) → IsNumber n → IsNumber k → IsOf size l (n ∷ k ∷ []) (made n k)) → AllByRecursion IsNumber ns
    → (only_two ns >>= λ p. Some (made p.0 p.1)) ≡ Some c → IsOf size l ns c
two_takes size l made [] c is each e = absurd cc
two_takes size l made (n ∷ []) c is each e = absurd cc
two_takes size l made (n ∷ k ∷ []) c is each e = taken size l (n ∷ k ∷ []) c (made n k) e (is n k each.0 each.1.0)
two_takes size l made (n ∷ k ∷ j ∷ ns) c is each e = absurd cc

-- one case: the letter is this one, or another
letter_case : (size l at : ℕ) (ns : List ℕ) (c : CommandValue) (this other : Option CommandValue) → (this ≡ Some c → IsOf size at ns c) → (other ≡ Some c → IsOf size l ns c) → cond (eqb l at) this other ≡ Some c → IsOf size l ns c
letter_case size l at ns c this other here there e =
    elim (chosen (eqb l at) this other (Some c) e) [
      | inl h ↦ subst (λ k. IsOf size k ns c) (sym (eqb-true l at h.0)) (here h.1)
      | inr h ↦ there h.1
    ]

none_case : (size l : ℕ) (ns : List ℕ) (c : CommandValue) → None ≡ Some c → IsOf size l ns c
none_case size l ns c e = absurd cc

command_of_takes : (size l : ℕ) (ns : List ℕ) (c : CommandValue) → length ns ≤ 1152 → AllByRecursion IsNumber ns → command_of size l ns ≡ Some c → IsOf size l ns c
unfolding command_of
command_of_takes size l ns c few each e =
    letter_case size l 80 ns c _ _ (put_takes size ns c few)
    (letter_case size l 65 ns c _ _ (amend_takes size ns c each)
    (letter_case size l 82 ns c _ _ (bare_takes size 82 Read ns c (refl, refl, tt))
    (letter_case size l 67 ns c _ _ (one_takes size 67 Column ns c (λ n small. (refl, refl, small)) each)
    (letter_case size l 77 ns c _ _ (two_takes size 77 Message ns c (λ n k small also. (refl, refl, (small, also))) each)
    (letter_case size l 76 ns c _ _ (one_takes size 76 Lose ns c (λ n small. (refl, refl, small)) each)
    (letter_case size l 78 ns c _ _ (one_takes size 78 Renew ns c (λ n small. (refl, refl, small)) each)
    (letter_case size l 66 ns c _ _ (bare_takes size 66 Rebuild ns c (refl, refl, tt))
    (none_case size l ns c)))))))) e

command_of_again : (size : ℕ) (c : CommandValue) → IsCommand size c → command_of size (letter c) (numbers c) ≡ Some c
unfolding command_of
command_of_again size (Put symbols) is = rw (below_all size symbols is.1) refl
command_of_again size (Amend data_box row symbol) is = rw (lt-ltb symbol size is.2) refl
command_of_again size Read is = refl
command_of_again size (Column wanted) is = refl
command_of_again size (Message helper lost) is = refl
command_of_again size (Lose lost) is = refl
command_of_again size (Renew lost) is = refl
command_of_again size Rebuild is = refl

-- a command takes numbers, and not too many
takes_numbers : (size : ℕ) (c : CommandValue) → size ≤ 10 ^ 9 → IsCommand size c → (length (numbers c) ≤ 1152) × AllByRecursion IsNumber (numbers c)
takes_numbers size (Put symbols) small is = (is.0, below_numbers size symbols small is.1)
takes_numbers size (Amend data_box row symbol) small is = (omega arith, (is.0, (is.1, (omega (arith, is.2), tt))))
takes_numbers size Read small is = (omega arith, tt)
takes_numbers size (Column wanted) small is = (omega arith, (is, tt))
takes_numbers size (Message helper lost) small is = (omega arith, (is.0, (is.1, tt)))
takes_numbers size (Lose lost) small is = (omega arith, (is, tt))
takes_numbers size (Renew lost) small is = (omega arith, (is, tt))
takes_numbers size Rebuild small is = (omega arith, tt)

command_takes : (size l : ℕ) (bytes : List ℕ) (x : CommandValue × List ℕ) → command_at size l bytes ≡ Some x → (letter x.0 ≡ l) × (bytes ≡ number_line x.0 ++ x.1) × IsCommand size x.0
unfolding command_at
command_takes size l bytes x e =
    let a = bind_some (number_line_at 1152 bytes) _ x e in
    let b = bind_some (command_of size l a.0.0) _ x a.2 in
    let t = number_line_takes 1152 bytes a.0 a.1 in
    let is = command_of_takes size l a.0.0 b.0 t.few t.each b.1 in
    subst (λ (y : CommandValue × List ℕ). (letter y.0 ≡ l) × (bytes ≡ number_line y.0 ++ y.1) × IsCommand size y.0) (same_Some _ _ b.2)
    (is.0, t.parts ∙ ap (λ ns. line (number_words ns) ++ a.0.1) (sym is.1), is.2)

command_again : (size : ℕ) (c : CommandValue) (rest : List ℕ) → size ≤ 10 ^ 9 → IsCommand size c → command_at size (letter c) (number_line c ++ rest) ≡ Some (c, rest)
unfolding command_at
command_again size c rest small is =
    let t = takes_numbers size c small is in
    rw (number_line_again (numbers c) 1152 rest t.0 t.1, command_of_again size c is) refl

pub record CommandsTaken (size : ℕ) (letters bytes : List ℕ) (cs : List CommandValue) (rest : List ℕ) : Type 0 where
  pub letters_are : map letter cs ≡ letters
  pub parts : bytes ≡ flat_map number_line cs ++ rest
  pub each : AllByRecursion (IsCommand size) cs

pub commands_take : (size : ℕ) (letters bytes : List ℕ) (x : List CommandValue × List ℕ) → commands_at size letters bytes ≡ Some x → CommandsTaken size letters bytes x.0 x.1
unfolding commands_at
commands_take size [] bytes x e =
    subst (λ (y : List CommandValue × List ℕ). CommandsTaken size [] bytes y.0 y.1) (same_Some _ _ e) (record { letters_are = refl; parts = refl; each = tt })
commands_take size (l ∷ ls) bytes x e =
    let a = bind_some (command_at size l bytes) _ x e in
    let b = bind_some (commands_at size ls a.0.1) _ x a.2 in
    let first = command_takes size l bytes a.0 a.1 in
    let others = commands_take size ls a.0.1 b.0 b.1 in
    subst (λ (y : List CommandValue × List ℕ). CommandsTaken size (l ∷ ls) bytes y.0 y.1) (same_Some _ _ b.2)
    (record {
      letters_are = rw (first.0, others.letters_are) refl;
      parts = first.1 ∙ ap (λ r. number_line a.0.0 ++ r) others.parts ∙ sym (append_assoc (number_line a.0.0) (flat_map number_line b.0.0) b.0.1);
      each = (first.2, others.each);
    })

pub commands_again : (size : ℕ) (cs : List CommandValue) (rest : List ℕ) → size ≤ 10 ^ 9 → AllByRecursion (IsCommand size) cs → commands_at size (map letter cs) (flat_map number_line cs ++ rest) ≡ Some (cs, rest)
unfolding commands_at
commands_again size [] rest small each = refl
commands_again size (c ∷ cs) rest small each =
    ap (commands_at size (letter c ∷ map letter cs)) (append_assoc (number_line c) (flat_map number_line cs) rest)
    ∙ rw (command_again size c (flat_map number_line cs ++ rest) small each.0, commands_again size cs rest small each.1) refl
