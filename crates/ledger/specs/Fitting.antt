-- The refusals in plain facts: which calls each fits. Assumes nothing.
use Rattle.std.specs.Prelude.{◌≡◌, ◌≢◌, ℕ, ◌+◌, ◌-◌, ◌*◌, ◌^◌, ◌<◌, ◌≤◌, ◌⊎◌, true, false, List, length, None}
use Rattle.field.specs.Symbols.{Symbols}
use Rattle.refusal.specs.declared.Refusal.{Refusal}
use Rattle.refusal.specs.declared.Refusal.TheVariants.{NotSetUp, Size, Marks, Shape, Length, NoBox, NoRow, Out, Standing, ManyOut, NotRenewable, Helper, Unheard}
use Rattle.ledger.specs.Calls.{State, out_count, size_of}
use Rattle.ledger.specs.declared.calls.Call.{Call}
use Rattle.ledger.specs.declared.calls.Call.TheVariants.{SetUp, Put, Amend, Read, Column, Message, Lose, Renew, Rebuild}

-- b is none of the boxes 1 to n
abbrev pub Outside : ℕ → ℕ → Type 0
Outside n b = (b < 1) ⊎ (n < b)

module _ (Y : Symbols) (s : State) where
  abbrev m : ℕ
  m = size_of s

  module _ {T : Type 0} where
    -- a refusal fits a call
    abbrev pub Fits : Refusal → Call T (List T) → Type 0
    -- not set up
    Fits NotSetUp (SetUp k) = ⊥
    Fits NotSetUp call = s.size ≡ None
    -- a size outside 1 to 6, with too few marks, or of another shelf
    Fits Size (SetUp k) = (k < 1) ⊎ (6 < k)
    Fits Size call = ⊥
    Fits Marks (SetUp k) = Y.marks < 2 * k
    Fits Marks call = ⊥
    Fits Shape (SetUp k) = (s.boxes ≢ 3 * k + 2) ⊎ (s.rows ≢ 2 ^ k)
    Fits Shape call = ⊥
    -- a buffer of another length
    Fits Length (Put file) = length file ≢ 3 * m * 2 ^ m
    Fits Length (Amend b a x work) = length work ≢ 3 * m * 2 ^ m
    Fits Length (Read into) = length into ≢ 3 * m * 2 ^ m
    Fits Length (Column b into) = length into ≢ 2 ^ m
    Fits Length (Message helper lost into) = length into ≢ 2 ^ (m - 1)
    Fits Length (Renew b work) = length work ≢ 3 * m * 2 ^ m
    Fits Length (Rebuild work) = length work ≢ 3 * m * 2 ^ m
    Fits Length call = ⊥
    -- no such box
    Fits NoBox (Amend b a x work) = Outside (3 * m) b
    Fits NoBox (Column b into) = Outside (3 * m + 2) b
    Fits NoBox (Message helper lost into) = Outside (3 * m + 2) helper ⊎ Outside (3 * m + 2) lost
    Fits NoBox (Lose b) = Outside (3 * m + 2) b
    Fits NoBox (Renew b work) = Outside (3 * m + 2) b
    Fits NoBox call = ⊥
    -- no such row
    Fits NoRow (Amend b a x work) = 2 ^ m ≤ a
    Fits NoRow call = ⊥
    -- a box that is out, or that stands
    Fits Out (Column b into) = s.out b ≡ true
    Fits Out (Message helper lost into) = s.out helper ≡ true
    Fits Out (Lose b) = s.out b ≡ true
    Fits Out call = ⊥
    Fits Standing (Renew b work) = s.out b ≡ false
    Fits Standing call = ⊥
    -- three boxes out or more
    Fits ManyOut (Put file) = 3 ≤ out_count s
    Fits ManyOut (Amend b a x work) = 3 ≤ out_count s
    Fits ManyOut (Read into) = 3 ≤ out_count s
    Fits ManyOut (Renew b work) = 3 ≤ out_count s
    Fits ManyOut (Rebuild work) = 3 ≤ out_count s
    Fits ManyOut call = ⊥
    -- a parity box, or a second box out
    Fits NotRenewable (Message helper lost into) = 3 * m < lost
    Fits NotRenewable (Renew b work) = (3 * m < b) ⊎ (2 ≤ out_count s)
    Fits NotRenewable call = ⊥
    -- the lost box as its own helper
    Fits Helper (Message helper lost into) = helper ≡ lost
    Fits Helper call = ⊥
    Fits Unheard call = ⊥
