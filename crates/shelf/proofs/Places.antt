-- Lemmas on the places of a list of boxes, and on its boxes by number. Assumes nothing.
use Rattle.std.proofs.Common.{◌≡◌, ◌≢◌, ℕ, zero, suc, ◌+◌, ◌≤◌, ◌<◌, List, [], ◌∷◌, ◌++◌, length, Option, None, refl, ap, ◌∙◌, arith}
use Rattle.shelf.specs.Meaning.{in_place, with_place, in_box, with_box}

-- a change that leaves what lies there leaves all
with_place-same : {C : Type 0} (cs : List (Option C)) (i : ℕ) (f : Option C → Option C) → f (in_place cs i) ≡ in_place cs i → with_place cs i f ≡ cs
with_place-same [] i f e = refl
with_place-same (c ∷ cs) zero f e = ap (λ d. d ∷ cs) e
with_place-same (c ∷ cs) (suc i) f e = ap (λ ds. c ∷ ds) (with_place-same cs i f e)

with_place-twice : {C : Type 0} (cs : List (Option C)) (i : ℕ) (f h : Option C → Option C) → with_place (with_place cs i f) i h ≡ with_place cs i (λ c. h (f c))
with_place-twice [] i f h = refl
with_place-twice (c ∷ cs) zero f h = refl
with_place-twice (c ∷ cs) (suc i) f h = ap (λ ds. c ∷ ds) (with_place-twice cs i f h)

-- only what a change makes of what lies there counts
with_place-like : {C : Type 0} (cs : List (Option C)) (i : ℕ) (f h : Option C → Option C) → f (in_place cs i) ≡ h (in_place cs i) → with_place cs i f ≡ with_place cs i h
with_place-like [] i f h e = refl
with_place-like (c ∷ cs) zero f h e = ap (λ d. d ∷ cs) e
with_place-like (c ∷ cs) (suc i) f h e = ap (λ ds. c ∷ ds) (with_place-like cs i f h e)

length-with_place : {C : Type 0} (cs : List (Option C)) (i : ℕ) (f : Option C → Option C) → length (with_place cs i f) ≡ length cs
length-with_place [] i f = refl
length-with_place (c ∷ cs) zero f = refl
length-with_place (c ∷ cs) (suc i) f = ap suc (length-with_place cs i f)

in_place-with_same : {C : Type 0} (cs : List (Option C)) (i : ℕ) (f : Option C → Option C) → i < length cs → in_place (with_place cs i f) i ≡ f (in_place cs i)
in_place-with_same [] i f h = absurd (omega arith)
in_place-with_same (c ∷ cs) zero f h = refl
in_place-with_same (c ∷ cs) (suc i) f h = in_place-with_same cs i f (omega arith)

in_place-with_other : {C : Type 0} (cs : List (Option C)) (i j : ℕ) (f : Option C → Option C) → i ≢ j → in_place (with_place cs i f) j ≡ in_place cs j
in_place-with_other [] i j f n = refl
in_place-with_other (c ∷ cs) zero zero f n = absurd (n refl)
in_place-with_other (c ∷ cs) zero (suc j) f n = refl
in_place-with_other (c ∷ cs) (suc i) zero f n = refl
in_place-with_other (c ∷ cs) (suc i) (suc j) f n = in_place-with_other cs i j f (λ e. n (ap suc e))

in_place_past : {C : Type 0} (cs : List (Option C)) (i : ℕ) → length cs ≤ i → in_place cs i ≡ None
in_place_past [] i h = refl
in_place_past (c ∷ cs) zero h = absurd (omega arith)
in_place_past (c ∷ cs) (suc i) h = in_place_past cs i (omega arith)

with_place_past : {C : Type 0} (cs : List (Option C)) (i : ℕ) (f : Option C → Option C) → length cs ≤ i → with_place cs i f ≡ cs
with_place_past [] i f h = refl
with_place_past (c ∷ cs) zero f h = absurd (omega arith)
with_place_past (c ∷ cs) (suc i) f h = ap (λ ds. c ∷ ds) (with_place_past cs i f (omega arith))

in_place-left : {C : Type 0} (cs ds : List (Option C)) (i : ℕ) → i < length cs → in_place (cs ++ ds) i ≡ in_place cs i
in_place-left [] ds i h = absurd (omega arith)
in_place-left (c ∷ cs) ds zero h = refl
in_place-left (c ∷ cs) ds (suc i) h = in_place-left cs ds i (omega arith)

with_place-left : {C : Type 0} (cs ds : List (Option C)) (i : ℕ) (f : Option C → Option C) → i < length cs → with_place (cs ++ ds) i f ≡ with_place cs i f ++ ds
with_place-left [] ds i f h = absurd (omega arith)
with_place-left (c ∷ cs) ds zero f h = refl
with_place-left (c ∷ cs) ds (suc i) f h = ap (λ es. c ∷ es) (with_place-left cs ds i f (omega arith))

in_place-right : {C : Type 0} (cs ds : List (Option C)) (i j : ℕ) → i ≡ length cs + j → in_place (cs ++ ds) i ≡ in_place ds j
in_place-right [] ds i j e = ap (in_place ds) (omega arith)
in_place-right (c ∷ cs) ds zero j e = absurd (omega arith)
in_place-right (c ∷ cs) ds (suc i) j e = in_place-right cs ds i j (omega arith)

with_place-right : {C : Type 0} (cs ds : List (Option C)) (i j : ℕ) (f : Option C → Option C) → i ≡ length cs + j → with_place (cs ++ ds) i f ≡ cs ++ with_place ds j f
with_place-right [] ds i j f e = ap (λ k. with_place ds k f) (omega arith)
with_place-right (c ∷ cs) ds zero j f e = absurd (omega arith)
with_place-right (c ∷ cs) ds (suc i) j f e = ap (λ es. c ∷ es) (with_place-right cs ds i j f (omega arith))

-- two lists are the same if they are as long and have the same in every place
places_determine : {C : Type 0} (cs ds : List (Option C)) → length cs ≡ length ds → ((i : ℕ) → i < length cs → in_place cs i ≡ in_place ds i) → cs ≡ ds
places_determine [] [] l h = refl
places_determine [] (d ∷ ds) l h = absurd (omega arith)
places_determine (c ∷ cs) [] l h = absurd (omega arith)
places_determine (c ∷ cs) (d ∷ ds) l h =
    ap (λ e. e ∷ cs) (h zero (omega arith)) ∙ ap (λ es. d ∷ es) (places_determine cs ds (omega arith) (λ i k. h (suc i) (omega arith)))

-- the same by number

pub with_box-same : {C : Type 0} (cs : List (Option C)) (b : ℕ) (f : Option C → Option C) → f (in_box cs b) ≡ in_box cs b → with_box cs b f ≡ cs
with_box-same cs zero f e = refl
with_box-same cs (suc i) f e = with_place-same cs i f e

pub with_box-twice : {C : Type 0} (cs : List (Option C)) (b : ℕ) (f h : Option C → Option C) → with_box (with_box cs b f) b h ≡ with_box cs b (λ c. h (f c))
with_box-twice cs zero f h = refl
with_box-twice cs (suc i) f h = with_place-twice cs i f h

pub with_box-like : {C : Type 0} (cs : List (Option C)) (b : ℕ) (f h : Option C → Option C) → f (in_box cs b) ≡ h (in_box cs b) → with_box cs b f ≡ with_box cs b h
with_box-like cs zero f h e = refl
with_box-like cs (suc i) f h e = with_place-like cs i f h e

pub length-with_box : {C : Type 0} (cs : List (Option C)) (b : ℕ) (f : Option C → Option C) → length (with_box cs b f) ≡ length cs
length-with_box cs zero f = refl
length-with_box cs (suc i) f = length-with_place cs i f

pub in_box-with_same : {C : Type 0} (cs : List (Option C)) (b : ℕ) (f : Option C → Option C) → 1 ≤ b → b ≤ length cs → in_box (with_box cs b f) b ≡ f (in_box cs b)
in_box-with_same cs zero f l h = absurd (omega arith)
in_box-with_same cs (suc i) f l h = in_place-with_same cs i f (omega arith)

pub in_box-with_other : {C : Type 0} (cs : List (Option C)) (b d : ℕ) (f : Option C → Option C) → b ≢ d → in_box (with_box cs b f) d ≡ in_box cs d
in_box-with_other cs zero d f n = refl
in_box-with_other cs (suc i) zero f n = refl
in_box-with_other cs (suc i) (suc j) f n = in_place-with_other cs i j f (λ e. n (ap suc e))

-- no box has a number above the list's length
pub in_box_past : {C : Type 0} (cs : List (Option C)) (b : ℕ) → length cs < b → in_box cs b ≡ None
in_box_past cs zero h = absurd (omega arith)
in_box_past cs (suc i) h = in_place_past cs i (omega arith)

pub with_box_past : {C : Type 0} (cs : List (Option C)) (b : ℕ) (f : Option C → Option C) → length cs < b → with_box cs b f ≡ cs
with_box_past cs zero f h = absurd (omega arith)
with_box_past cs (suc i) f h = with_place_past cs i f (omega arith)

-- a box of two lists, one after the other, is one of the first or one of the second
pub in_box-left : {C : Type 0} (cs ds : List (Option C)) (b : ℕ) → b ≤ length cs → in_box (cs ++ ds) b ≡ in_box cs b
in_box-left cs ds zero h = refl
in_box-left cs ds (suc i) h = in_place-left cs ds i (omega arith)

pub with_box-left : {C : Type 0} (cs ds : List (Option C)) (b : ℕ) (f : Option C → Option C) → b ≤ length cs → with_box (cs ++ ds) b f ≡ with_box cs b f ++ ds
with_box-left cs ds zero f h = refl
with_box-left cs ds (suc i) f h = with_place-left cs ds i f (omega arith)

pub in_box-right : {C : Type 0} (cs ds : List (Option C)) (b d : ℕ) → 1 ≤ d → b ≡ length cs + d → in_box (cs ++ ds) b ≡ in_box ds d
in_box-right cs ds zero d l e = absurd (omega arith)
in_box-right cs ds (suc i) zero l e = absurd (omega arith)
in_box-right cs ds (suc i) (suc j) l e = in_place-right cs ds i j (omega arith)

pub with_box-right : {C : Type 0} (cs ds : List (Option C)) (b d : ℕ) (f : Option C → Option C) → 1 ≤ d → b ≡ length cs + d → with_box (cs ++ ds) b f ≡ cs ++ with_box ds d f
with_box-right cs ds zero d f l e = absurd (omega arith)
with_box-right cs ds (suc i) zero f l e = absurd (omega arith)
with_box-right cs ds (suc i) (suc j) f l e = with_place-right cs ds i j f (omega arith)

pub boxes_determine : {C : Type 0} (cs ds : List (Option C)) → length cs ≡ length ds → ((b : ℕ) → in_box cs b ≡ in_box ds b) → cs ≡ ds
boxes_determine cs ds l h = places_determine cs ds l (λ i k. h (suc i))
