-- Which boxes of a cabinet are missing. Boxes go by their places, from 0. Assumes nothing.
use Rattle.std.specs.Prelude.{◌≡◌, ℕ, suc, ◌+◌, ◌<◌, ◌≤◌, Bool, true, false, not, ◌==◌, ◌&&◌, ◌||◌, if◌then◌else◌, nat_lt, List, map}
use Rattle.std.specs.List.{list_any}
use Rattle.boxes.specs.Out.{many_out as many_missing}
use Rattle.refusal.specs.Refusals.{Reason, earliest, no_box, where_holds}
use Rattle.refusal.specs.declared.Refusal.TheVariants.{NoBox}
use Rattle.missing.specs.declared.Missing.{Missing}
use Rattle.missing.specs.declared.Missing.TheVariants.{Nothing, One, Two}

-- does the box in place b stand, where the numbers of the boxes out are listed?
abbrev pub stands : List ℕ → ℕ → Bool
stands out b = not (list_any (λ k. k == suc b) out)

-- one of the boxes listed is none of n
abbrev pub wrong_boxes : ℕ → List ℕ → Reason
wrong_boxes n out = earliest (map (no_box n) out)

-- of n boxes, three or more are listed as out
abbrev pub many_out : ℕ → List ℕ → Reason
many_out n out = many_missing n (stands out)

module _ (stands : ℕ → Bool) where
  -- all boxes in the places from i on and below j stand
  abbrev pub AllStand : ℕ → ℕ → Type 0
  AllStand i j = (b : ℕ) → i ≤ b → b < j → stands b ≡ true

  -- x is the lowest box out, from place i on and below n
  pub record LowestOut (i n x : ℕ) : Type 0 where
    pub from : i ≤ x
    pub inside : x < n
    pub out : stands x ≡ false
    pub before : AllStand i x

  -- just these of n boxes are out, the lower first
  abbrev pub Found : ℕ → Missing → Type 0
  Found n Nothing = AllStand 0 n
  Found n (One x) = LowestOut 0 n x × AllStand (x + 1) n
  Found n (Two x y) = LowestOut 0 n x × LowestOut (x + 1) n y × AllStand (y + 1) n

-- they are boxes of n, the lower first
abbrev pub are_boxes : ℕ → Missing → Bool
are_boxes n Nothing = true
are_boxes n (One x) = nat_lt x n
are_boxes n (Two x y) = nat_lt x y && nat_lt y n

abbrev pub no_boxes : ℕ → Missing → Reason
no_boxes n missing = where_holds (not (are_boxes n missing)) NoBox

abbrev pub count : Missing → ℕ
count Nothing = 0
count (One x) = 1
count (Two x y) = 2

-- the box in place b is none of them
abbrev pub present : Missing → ℕ → Bool
present Nothing b = true
present (One x) b = not (b == x)
present (Two x y) b = not (b == x || b == y)

-- Of n data boxes and two parity boxes behind them, the box whose column tells that of the data box in place b: that
-- box itself, and for a missing one a parity box that is not missing, the first for the lower.
abbrev pub source : ℕ → Missing → ℕ → ℕ
source n Nothing b = b
source n (One x) b = if b == x then n else b
source n (Two x y) b = if b == y then suc n else (if b == x then (if y == n then suc n else n) else b)

-- the two boxes that are left aside: those that are out, and as far as they are fewer than two, the last of the n + 2 others
abbrev pub aside : ℕ → Missing → ℕ × ℕ
aside n Nothing = (n, suc n)
aside n (One x) = (if x == suc n then n else x, suc n)
aside n (Two x y) = (x, y)
