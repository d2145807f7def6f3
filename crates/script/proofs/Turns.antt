-- Loops that read: what is read so far goes before what the rest gives. Assumes nothing.
use Rattle.std.proofs.Common.{◌≡◌, ℕ, suc, ◌+◌, ◌-◌, ◌<◌, ◌≤◌, Bool, true, false, List, [], ◌∷◌, ◌++◌, Option, Some, None, if◌then◌else◌, length, get_or, drop, refl, sym, ap, ◌∙◌, append_assoc, arith}
use Rattle.std.proofs.lemmas.List.{append-nil, drop_more, drop_all}
use Rattle.script.specs.Reading.{◌>>=◌, ended_at, numbers_at, command_at, commands_at}
use Rattle.script.specs.Scripts.{CommandValue}

unfoldable pub with_front : {X : Type 0} → List X → Option (List X × List ℕ) → Option (List X × List ℕ)
with_front front read = read >>= λ x. Some (front ++ x.0, x.1)

pub with_front_none : {X : Type 0} (read : Option (List X × List ℕ)) → with_front [] read ≡ read
unfolding with_front
with_front_none None = refl
with_front_none (Some x) = refl

-- what is read next goes behind what is read so far
regroup : {X : Type 0} (front : List X) (x : X) (read : Option (List X × List ℕ)) → with_front front (read >>= λ others. Some (x ∷ others.0, others.1)) ≡ with_front (front ++ x ∷ []) read
unfolding with_front
regroup front x None = refl
regroup front x (Some others) = ap (λ xs. Some (xs, others.1)) (sym (append_assoc front (x ∷ []) others.0))

pub numbers_step : (front : List ℕ) (limit i : ℕ) (bytes : List ℕ) → i < limit
    → with_front front (numbers_at (limit - i) bytes) ≡ (ended_at bytes >>= λ n. if n.0.1 then Some (front ++ n.0.0 ∷ [], n.1) else with_front (front ++ n.0.0 ∷ []) (numbers_at (limit - (i + 1)) n.1))
unfolding numbers_at with_front
numbers_step front limit i bytes inside =
    let e : limit - i ≡ suc (limit - (i + 1)) = omega arith in
    ap (λ k. with_front front (numbers_at k bytes)) e ∙ by (ended_at bytes)
  where
    by_last : (last : Bool) (n : ℕ) (rest : List ℕ)
        → with_front front (if last then Some (n ∷ [], rest) else (numbers_at (limit - (i + 1)) rest >>= λ others. Some (n ∷ others.0, others.1)))
        ≡ (if last then Some (front ++ n ∷ [], rest) else with_front (front ++ n ∷ []) (numbers_at (limit - (i + 1)) rest))
    by_last true n rest = refl
    by_last false n rest = regroup front n (numbers_at (limit - (i + 1)) rest)

    by : (o : Option ((ℕ × Bool) × List ℕ)) → with_front front (o >>= λ n. if n.0.1 then Some (n.0.0 ∷ [], n.1) else (numbers_at (limit - (i + 1)) n.1 >>= λ others. Some (n.0.0 ∷ others.0, others.1)))
        ≡ (o >>= λ n. if n.0.1 then Some (front ++ n.0.0 ∷ [], n.1) else with_front (front ++ n.0.0 ∷ []) (numbers_at (limit - (i + 1)) n.1))
    by None = refl
    by (Some n) = by_last n.0.1 n.0.0 n.1

pub numbers_over : (front : List ℕ) (limit i : ℕ) (bytes : List ℕ) → limit ≤ i → with_front front (numbers_at (limit - i) bytes) ≡ None
unfolding numbers_at with_front
numbers_over front limit i bytes outside =
    let e : limit - i ≡ 0 = omega arith in
    ap (λ k. with_front front (numbers_at k bytes)) e

pub commands_step : (front : List CommandValue) (size : ℕ) (letters : List ℕ) (i d : ℕ) (bytes : List ℕ) → i < length letters
    → with_front front (commands_at size (drop i letters) bytes) ≡ (command_at size (get_or letters i d) bytes >>= λ c. with_front (front ++ c.0 ∷ []) (commands_at size (drop (i + 1) letters) c.1))
unfolding commands_at with_front
commands_step front size letters i d bytes inside =
    ap (λ rest. with_front front (commands_at size rest bytes)) (drop_more letters i d inside) ∙ by (command_at size (get_or letters i d) bytes)
  where
    by : (o : Option (CommandValue × List ℕ)) → with_front front (o >>= λ c. commands_at size (drop (i + 1) letters) c.1 >>= λ others. Some (c.0 ∷ others.0, others.1))
        ≡ (o >>= λ c. with_front (front ++ c.0 ∷ []) (commands_at size (drop (i + 1) letters) c.1))
    by None = refl
    by (Some c) = regroup front c.0 (commands_at size (drop (i + 1) letters) c.1)

pub commands_over : (front : List CommandValue) (size : ℕ) (letters : List ℕ) (i : ℕ) (bytes : List ℕ) → length letters ≤ i → with_front front (commands_at size (drop i letters) bytes) ≡ Some (front, bytes)
unfolding commands_at with_front
commands_over front size letters i bytes outside =
    ap (λ rest. with_front front (commands_at size rest bytes)) (drop_all i letters outside) ∙ ap (λ cs. Some (cs, bytes)) (append-nil front)

pub commands_fail : (front : List CommandValue) (size : ℕ) (letters : List ℕ) (i d : ℕ) (bytes : List ℕ) → i < length letters → command_at size (get_or letters i d) bytes ≡ None
    → with_front front (commands_at size (drop i letters) bytes) ≡ None
commands_fail front size letters i d bytes inside none = commands_step front size letters i d bytes inside ∙ rw none refl

pub commands_next : (front : List CommandValue) (size : ℕ) (letters : List ℕ) (i d : ℕ) (bytes : List ℕ) (c : CommandValue) (after : List ℕ) → i < length letters → command_at size (get_or letters i d) bytes ≡ Some (c, after)
    → with_front (front ++ c ∷ []) (commands_at size (drop (i + 1) letters) after) ≡ with_front front (commands_at size (drop i letters) bytes)
commands_next front size letters i d bytes c after inside found = sym (commands_step front size letters i d bytes inside ∙ rw found refl)
