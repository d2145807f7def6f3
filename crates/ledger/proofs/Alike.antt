-- What a call leaves in its buffer is the same for files that are the same. Assumes nothing.
use Rattle.std.proofs.Common.{◌≡◌, ℕ, suc, ◌+◌, ◌-◌, ◌*◌, ◌^◌, ◌<◌, ◌≤◌, Bool, true, false, nat_lt, List, sym, ◌∙◌, cond, arith}
use Rattle.field.specs.Symbols.{Symbols}
use Rattle.code.specs.Codes.{Alike, Code, column, full, half_for, helper}
use Rattle.code.specs.Laws.{Same}
use Rattle.code.proofs.Stands.{same_columns, same_halves}
use Rattle.code.proofs.Theory.{proper}
use Rattle.refusal.specs.declared.Refusal.TheVariants.{NoBox}
use Rattle.ledger.specs.Laws.{IsSetUp, Leaves}
use Rattle.ledger.specs.Ledgers.{LedgerCall, Ledger}
use Rattle.ledger.specs.Calls.{size_of}
use Rattle.ledger.specs.declared.calls.Call.TheVariants.{SetUp, Put, Amend, Read, Column as Columned, Message, Lose, Renew, Rebuild}
use Rattle.ledger.proofs.Steps.{Clear}

module _ {A : Type 0} (c : Code A) (some : 1 ≤ c.size) where
  either_inside : (t : Bool) (h n : ℕ) → h < suc n → cond t h (suc h) < n + 2
  either_inside true h n l = omega arith
  either_inside false h n l = omega arith

  helper_inside : (x h n : ℕ) → h < suc n → helper c x h < n + 2
  helper_inside x h n l = either_inside (nat_lt h x) h n l

module _ (Y : Symbols) (l : Ledger Y) (f g : ℕ → ℕ → Y.Symbol) (set_up : IsSetUp Y l (size_of l.state)) (same : Same (full Y (size_of l.state)) f g) where
  abbrev m : ℕ
  m = size_of l.state

  abbrev c : Code Y.Symbol
  c = full Y m

  columns : (b : ℕ) → b < 3 * m + 2 → Alike c (column c f b) (column c g b)
  columns = same_columns c (proper Y m set_up.some set_up.marks) f g same

  halves : (x b : ℕ) → b < 3 * m + 2 → (j : ℕ) → j < 2 ^ (m - 1) → half_for c x (column c f b) j ≡ half_for c x (column c g b) j
  halves x b l = same_halves c set_up.some x (column c f b) (column c g b) (columns b l)

  pub leaves_alike : (call : LedgerCall Y) (buffer file : List Y.Symbol) → Clear Y l call → Leaves Y m f call buffer file → Leaves Y m g call buffer file
  leaves_alike (SetUp k) buffer file clear h = h
  leaves_alike (Put sent) buffer file clear h = h
  leaves_alike (Amend b a x work) buffer file clear h = h
  leaves_alike (Read into) buffer file clear h = h
  leaves_alike (Columned b into) buffer file clear h = let box = clear NoBox in λ a k. h a k ∙ columns (b - 1) (grind arith) a k
  leaves_alike (Message helper lost into) buffer file clear h = let box = clear NoBox in λ j k. h j k ∙ halves (lost - 1) (helper - 1) (grind arith) j k
  leaves_alike (Lose b) buffer file clear h = h
  leaves_alike (Renew b work) buffer file clear h =
      (λ i il j jl. sym (halves (b - 1) (helper c (b - 1) i) (helper_inside c set_up.some (b - 1) i (3 * m) il) j jl) ∙ h.0 i il j jl, h.1)
  leaves_alike (Rebuild work) buffer file clear h = h
