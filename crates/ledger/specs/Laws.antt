-- What holds of every ledger, whatever calls it was fed: why it declines, what a call leaves, and what the history says of the ledger. Assumes nothing.
use Rattle.std.specs.Prelude.{◌≡◌, ℕ, ◌+◌, ◌-◌, ◌*◌, ◌^◌, ◌≤◌, ◌↔◌, true, List, [], length, drop, Some, None, Ok, Err}
use Rattle.field.specs.Symbols.{Symbols}
use Rattle.code.specs.Codes.{HasHalves, column, full, half_for}
use Rattle.code.specs.Laws.{Same}
use Rattle.code.specs.Contents.{Holds, parts}
use Rattle.refusal.specs.Refusals.{number}
use Rattle.refusal.specs.declared.Refusal.{Refusal}
use Rattle.ledger.specs.Calls.{lent, out_count, size_of}
use Rattle.ledger.specs.Fitting.{Fits}
use Rattle.ledger.specs.Histories.{Entry, history, is_lost, size_in_force, told_file}
use Rattle.ledger.specs.Ledgers.{LedgerCall, Ledger, Outcome, Reply, contents, final, fresh, step}
use Rattle.ledger.specs.declared.calls.Answer.{Answer}
use Rattle.ledger.specs.declared.calls.Answer.TheVariants.{Done, Count}
use Rattle.ledger.specs.declared.calls.Call.TheVariants.{SetUp, Put, Amend, Read, Column, Message, Lose, Renew, Rebuild}

module _ (Y : Symbols) where
  -- a ledger that is set up with size m
  pub record IsSetUp (l : Ledger Y) (m : ℕ) : Type 0 where
    pub some : 1 ≤ m
    pub most : m ≤ 6
    pub marks : 2 * m ≤ Y.marks
    pub boxes : l.state.boxes ≡ 3 * m + 2
    pub rows : l.state.rows ≡ 2 ^ m
    pub whole : length l.file ≡ 3 * m * 2 ^ m

  -- what every ledger keeps to
  pub record IsLedger (l : Ledger Y) : Type 0 where
    pub set_up : (m : ℕ) → l.state.size ≡ Some m → IsSetUp l m
    pub numbered : (b : ℕ) → l.state.out b ≡ true → (1 ≤ b) × (b ≤ l.state.boxes)
    -- before it is set up it is as it was made
    pub as_made : l.state.size ≡ None → l ≡ fresh Y l.state.boxes l.state.rows

  -- What the buffer of an accepted call holds afterwards: f is the file by boxes and rows, before the call, and `file` the list of its symbols after it.
  module _ (m : ℕ) (f : ℕ → ℕ → Y.Symbol) where
    abbrev pub Leaves : LedgerCall Y → List Y.Symbol → List Y.Symbol → Type 0
    Leaves (SetUp k) buffer file = buffer ≡ []
    Leaves (Put sent) buffer file = buffer ≡ sent
    Leaves (Amend b a x work) buffer file = buffer ≡ file
    Leaves (Read into) buffer file = buffer ≡ file
    Leaves (Column b into) buffer file = Holds Y (λ x. x) (2 ^ m) buffer (column (full Y m) f (b - 1))
    Leaves (Message helper lost into) buffer file =
        Holds Y (λ x. x) (2 ^ (m - 1)) buffer (half_for (full Y m) (lost - 1) (column (full Y m) f (helper - 1)))
    Leaves (Lose b) buffer file = buffer ≡ []
    Leaves (Renew b work) buffer file =
        HasHalves (full Y m) (b - 1) f (parts Y (λ x. x) (2 ^ (m - 1)) buffer)
        × (drop ((3 * m + 1) * 2 ^ (m - 1)) buffer ≡ drop ((3 * m + 1) * 2 ^ (m - 1)) work)
    Leaves (Rebuild work) buffer file = buffer ≡ file

  module _ (l : Ledger Y) where
    abbrev m : ℕ
    m = size_of l.state

    -- what a call answers that is not declined
    abbrev pub answers : LedgerCall Y → Answer
    answers (Renew b work) = Count ((3 * m + 1) * 2 ^ (m - 1))
    answers (Rebuild work) = Count (out_count l.state)
    answers call = Done

    -- one of those that fit has the least number
    pub record Least (call : LedgerCall Y) (why : Refusal) : Type 0 where
      pub fits : Fits Y l.state why call
      pub least : (other : Refusal) → Fits Y l.state other call → number why ≤ number other

    -- what a call comes to
    pub record Decided (call : LedgerCall Y) (o : Outcome Y) : Type 0 where
      -- it is declined by the least number of those that fit, and accepted where none fits
      pub declined : (why : Refusal) → (o.reply.answer ≡ Err why) ↔ Least call why
      pub accepted : ((why : Refusal) → Fits Y l.state why call → ⊥) → o.reply.answer ≡ Ok (answers call)
      -- a declined call changes nothing
      pub unchanged : (why : Refusal) → o.reply.answer ≡ Err why → (o.reply.buffer ≡ lent call) × (o.next ≡ l)
      -- an accepted one leaves this in its buffer
      pub leaves : (x : Answer) → o.reply.answer ≡ Ok x → Leaves m (contents Y m l.file) call o.reply.buffer o.next.file
      -- no buffer changes its length, and no boxes or rows come or go
      pub same_length : length o.reply.buffer ≡ length (lent call)
      pub boxes : o.next.state.boxes ≡ l.state.boxes
      pub rows : o.next.state.rows ≡ l.state.rows
      pub still_ledger : IsLedger o.next

  -- a ledger fed with calls from the beginning, and its history
  module _ (n k : ℕ) (calls : List (LedgerCall Y)) where
    abbrev ledger : Ledger Y
    ledger = final Y (fresh Y n k) calls

    abbrev past : List (Entry Y)
    past = history Y (fresh Y n k) calls

    -- a read that is accepted, and finds the file that the history tells
    pub record IsRead (m : ℕ) (r : Reply Y) : Type 0 where
      pub answer : r.answer ≡ Ok Done
      pub whole : length r.buffer ≡ 3 * m * 2 ^ m
      pub newest : Same (full Y m) (contents Y m r.buffer) (told_file Y m past)

    pub record Remembers : Type 0 where
      pub is_ledger : IsLedger ledger
      pub boxes : ledger.state.boxes ≡ n
      pub rows : ledger.state.rows ≡ k
      -- the size is that of the last accepted set up
      pub size : ledger.state.size ≡ size_in_force Y past
      -- the boxes out are those lost since then, and not brought back since
      pub out : (b : ℕ) → ledger.state.out b ≡ is_lost Y past b
      -- the newest write wins: in the file, in what is read where at most two boxes are out, and in all that a call leaves
      pub newest : (m : ℕ) → ledger.state.size ≡ Some m → Same (full Y m) (contents Y m ledger.file) (told_file Y m past)
      pub read : (m : ℕ) → ledger.state.size ≡ Some m → out_count ledger.state ≤ 2 → (into : List Y.Symbol) → length into ≡ 3 * m * 2 ^ m
          → IsRead m (step Y ledger (Read into)).reply
      pub leaves : (m : ℕ) → ledger.state.size ≡ Some m → (call : LedgerCall Y) → let o = step Y ledger call in (x : Answer) → o.reply.answer ≡ Ok x
          → Leaves m (told_file Y m past) call o.reply.buffer o.next.file

  -- the laws of ledgers
  pub record LedgerStands : Type 0 where
    pub each_call : (l : Ledger Y) → IsLedger l → (call : LedgerCall Y) → Decided l call (step Y l call)
    pub each_history : (n k : ℕ) (calls : List (LedgerCall Y)) → Remembers n k calls
