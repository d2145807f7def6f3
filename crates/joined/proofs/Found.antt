-- A joined shelf, seen from the side on which a box is found. Assumes nothing.
use Rattle.std.proofs.Common.{◌≡◌, ℕ, List, [], ◌∷◌, length, replicate, Option, refl, sym, ap, ◌∙◌, arith}
use Rattle.std.proofs.lemmas.Grind.{common_steps}
use Rattle.shelf.specs.Meaning.{IsShelf, Meaning, column, change, is_box, unless_standing, with_standing}
use Rattle.shelf.proofs.Places.{length-with_box, in_box-left, in_box-right, with_box_past, with_box-left, with_box-right}
use Rattle.joined.specs.declared.Side.TheVariants.{First, Second}
use Rattle.joined.specs.Joining.{joined}
use Rattle.joined.specs.Laws.{first_two, last_two}
use Rattle.joined.specs.Sides.{side_of}

-- a box of the first shelf
module _ {T : Type 0} (m k : Meaning T) (b d : ℕ) (e : First d ≡ side_of m k b) where
  pub first-column : column (joined m k) b ≡ column m d
  first-column = grind (arith, common_steps, in_box-left)

  pub first-rows : (joined m k).rows ≡ m.rows
  first-rows = grind (arith, common_steps)

  pub first-is_box : is_box (joined m k) b ≡ is_box m d
  first-is_box = grind (arith, common_steps)

  pub first-change : (f : Option (List T) → Option (List T)) → joined (change m d f) k ≡ change (joined m k) b f
  first-change f = grind (arith, common_steps, length-with_box, with_box-left)

  pub first-with_standing : (x : T) → joined (with_standing m d x) k ≡ with_standing (joined m k) b x
  first-with_standing x =
      first-change (unless_standing (replicate m.rows x)) ∙ ap (λ l. change (joined m k) b (unless_standing (replicate l x))) (sym first-rows)

-- a box of the second shelf
module _ {T : Type 0} (m k : Meaning T) (b d : ℕ) (e : Second d ≡ side_of m k b) where
  pub second-column : column (joined m k) b ≡ column k d
  second-column = grind (arith, common_steps, in_box-right)

  pub second-rows : (joined m k).rows ≡ k.rows
  second-rows = grind (arith, common_steps)

  pub second-is_box : is_box (joined m k) b ≡ is_box k d
  second-is_box = grind (arith, common_steps)

  pub second-change : (f : Option (List T) → Option (List T)) → joined m (change k d f) ≡ change (joined m k) b f
  second-change f = grind (arith, common_steps, length-with_box, with_box-right)

  pub second-with_standing : (x : T) → joined m (with_standing k d x) ≡ with_standing (joined m k) b x
  second-with_standing x =
      second-change (unless_standing (replicate k.rows x)) ∙ ap (λ l. change (joined m k) b (unless_standing (replicate l x))) (sym second-rows)

  -- the first shelf has no box of that number
  pub second-past : (f : Option (List T) → Option (List T)) → change m b f ≡ m
  second-past f = grind (arith, common_steps, with_box_past)

-- what a question or a change on one side makes of the whole
pub ruleset found = (first-column, first-rows, first-is_box, first-change, second-column, second-rows, second-is_box, second-change, second-past)

-- a shelf has no boxes without rows
no_boxes_without_rows : {T : Type 0} (m : Meaning T) → IsShelf m → m.rows ≡ 0 → m.boxes ≡ []
no_boxes_without_rows m s e = by m.boxes (s.some e)
  where
    by : {C : Type 0} (cs : List C) → length cs ≡ 0 → cs ≡ []
    by [] h = refl
    by (c ∷ cs) h = absurd (omega arith)

pub associates : {T : Type 0} (m k j : Meaning T) → IsShelf m → IsShelf k → IsShelf j → first_two m k j ≡ last_two m k j
associates m k j s t u =
    let a : m.rows ≡ 0 → m.boxes ≡ [] = no_boxes_without_rows m s in
    let b : j.rows ≡ 0 → j.boxes ≡ [] = no_boxes_without_rows j u in
    grind (arith, common_steps)
