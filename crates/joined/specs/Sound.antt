-- A joined shelf keeps to what every shelf keeps to. Assumes nothing.
use Rattle.std.specs.Prelude.{◌≡◌, ℕ, Bool, true, false, List, [], ◌∷◌, ◌++◌, Option, Some, None}
use Rattle.std.proofs.Common.{refl, sym, ◌∙◌, subst, arith, tests, length-append}
use Rattle.shelf.specs.Meaning.{AllHave, IsShelf, Meaning}
use Rattle.joined.specs.Joining.{is_joinable, both, no_boxes, joined}

-- two lists of columns with l rows are one
all_have-append : {T : Type 0} (l : ℕ) (cs ds : List (Option (List T))) → AllHave l cs → AllHave l ds → AllHave l (cs ++ ds)
all_have-append l [] ds h k = k
all_have-append l (None ∷ cs) ds h k = all_have-append l cs ds h k
all_have-append l (Some xs ∷ cs) ds h k = (h.0, all_have-append l cs ds h.1 k)

pub joined_sound : {T : Type 0} (m k : Meaning T) → IsShelf m → IsShelf k → IsShelf (joined m k)
joined_sound {T} m k s t = by (is_joinable m k) refl
  where
    by : (u : Bool) → is_joinable m k ≡ u → IsShelf (joined m k)
    by true e =
        let l : m.rows ≡ k.rows = grind (arith, tests) in
        let n = length-append m.boxes k.boxes in
        let w : IsShelf (both m k) = record {
          few = grind (arith, tests);
          some = λ z. let a = s.some z in let b = t.some (sym l ∙ z) in omega arith;
          short = s.short;
          full = all_have-append m.rows m.boxes k.boxes s.full (subst (λ r. AllHave r k.boxes) (sym l) t.full);
        } in rw e w
    by false e =
        let w : IsShelf {T = T} no_boxes = record { few = omega arith; some = λ z. refl; short = omega arith; full = tt } in rw e w
