-- The earliest of reasons that rise is the least of those that fit. Assumes nothing.
use Rattle.std.proofs.Common.{◌≡◌, ℕ, ◌-◌, ◌≤◌, Bool, true, false, List, [], ◌∷◌, slice_get, Some, None, refl, sym, ap, ◌∙◌, subst, arith}
use Rattle.std.proofs.lemmas.Bool.{false≢true}
use Rattle.std.proofs.lemmas.Option.{none-some, same_Some}
use Rattle.refusal.specs.Refusals.{Reason, earliest, number, where_holds}
use Rattle.refusal.specs.declared.Refusal.{Refusal}
use Rattle.refusal.specs.declared.Refusal.TheVariants.{NotSetUp, Size, Marks, Shape, Length, NoBox, NoRow, Out, Standing, ManyOut, NotRenewable, Helper, Unheard}

-- all refusals, by their numbers
abbrev all : List Refusal
all = NotSetUp ∷ Size ∷ Marks ∷ Shape ∷ Length ∷ NoBox ∷ NoRow ∷ Out ∷ Standing ∷ ManyOut ∷ NotRenewable ∷ Helper ∷ Unheard ∷ []

numbered : (why : Refusal) → slice_get all (number why - 1) ≡ Some why
numbered NotSetUp = refl
numbered Size = refl
numbered Marks = refl
numbered Shape = refl
numbered Length = refl
numbered NoBox = refl
numbered NoRow = refl
numbered Out = refl
numbered Standing = refl
numbered ManyOut = refl
numbered NotRenewable = refl
numbered Helper = refl
numbered Unheard = refl

same_refusal : (v w : Refusal) → number v ≡ number w → v ≡ w
same_refusal v w e = same_Some v w (sym (numbered v) ∙ ap (λ n. slice_get all (n - 1)) e ∙ numbered w)

-- reasons as tests, each with its refusal
abbrev pub judged : List (Bool × Refusal) → List Reason
judged [] = []
judged ((t, r) ∷ ps) = where_holds t r ∷ judged ps

-- a refusal's test holds
pub data Among : List (Bool × Refusal) → Refusal → Type 0 where
  here : {t : Bool} {r : Refusal} {ps : List (Bool × Refusal)} → t ≡ true → Among ((t, r) ∷ ps) r
  later : {p : Bool × Refusal} {r : Refusal} {ps : List (Bool × Refusal)} → Among ps r → Among (p ∷ ps) r

-- the numbers rise from k on, whichever fit
abbrev pub Rises : ℕ → List (Bool × Refusal) → Type 0
Rises k [] = Unit {0}
Rises k ((t, r) ∷ ps) = (k ≤ number r) × Rises (number r) ps

above : (ps : List (Bool × Refusal)) (k : ℕ) → Rises k ps → (why : Refusal) → Among ps why → k ≤ number why
above [] k h why a = elim a [ ]
above ((t, r) ∷ ps) k h why (here e) = h.0
above ((t, r) ∷ ps) k h why (later a) = let l : k ≤ number r = h.0 in omega (arith, above ps (number r) h.1 why a)

-- one that fits is there, after the first if that does not
first : (r why : Refusal) (ps : List (Bool × Refusal)) → r ≡ why → Among ((true, r) ∷ ps) why
first r why ps e = subst (Among ((true, r) ∷ ps)) e (here refl)

rest : (r why : Refusal) (ps : List (Bool × Refusal)) → Among ((false, r) ∷ ps) why → Among ps why
rest r why ps (here e) = absurd (false≢true e)
rest r why ps (later a) = a

-- the earliest fits, and has the least number
pub earliest_among : (ps : List (Bool × Refusal)) (why : Refusal) → earliest (judged ps) ≡ Some why → Among ps why
earliest_among [] why e = absurd (none-some why e)
earliest_among ((true, r) ∷ ps) why e = first r why ps (same_Some r why e)
earliest_among ((false, r) ∷ ps) why e = later (earliest_among ps why e)

pub earliest_least : (ps : List (Bool × Refusal)) (k : ℕ) → Rises k ps → (why : Refusal) → earliest (judged ps) ≡ Some why → (other : Refusal) → Among ps other → number why ≤ number other
earliest_least [] k h why e other a = elim a [ ]
earliest_least ((true, r) ∷ ps) k h why e other a =
    let low : number r ≤ number other = above ((true, r) ∷ ps) (number r) (omega arith, h.1) other a in
    subst (λ (w : Refusal). number w ≤ number other) (same_Some r why e) low
earliest_least ((false, r) ∷ ps) k h why e other a = earliest_least ps (number r) h.1 why e other (rest r other ps a)

-- where there is none, none fits, and the other way round
pub none_among : (ps : List (Bool × Refusal)) → earliest (judged ps) ≡ None → (why : Refusal) → Among ps why → ⊥
none_among [] e why a = elim a [ ]
none_among ((true, r) ∷ ps) e why a = none-some r (sym e)
none_among ((false, r) ∷ ps) e why a = none_among ps e why (rest r why ps a)

pub earliest_none : (ps : List (Bool × Refusal)) → ((why : Refusal) → Among ps why → ⊥) → earliest (judged ps) ≡ None
earliest_none [] h = refl
earliest_none ((true, r) ∷ ps) h = absurd (h r (here refl))
earliest_none ((false, r) ∷ ps) h = earliest_none ps (λ why a. h why (later a))

-- one that fits and has the least number is the earliest
pub least_earliest : (ps : List (Bool × Refusal)) (k : ℕ) → Rises k ps → (why : Refusal) → Among ps why → ((other : Refusal) → Among ps other → number why ≤ number other) → earliest (judged ps) ≡ Some why
least_earliest [] k h why a least = elim a [ ]
least_earliest ((true, r) ∷ ps) k h why a least =
    let low : number r ≤ number why = earliest_least ((true, r) ∷ ps) k h r refl why a in
    let high : number why ≤ number r = least r (here refl) in
    ap Some (same_refusal r why (omega arith))
least_earliest ((false, r) ∷ ps) k h why a least = least_earliest ps (number r) h.1 why (rest r why ps a) (λ other b. least other (later b))
