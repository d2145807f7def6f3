-- What each call of a vault answers, and what it leaves of the vault, its shelf and the buffer, whatever the boxes hold. Assumes nothing.
use Rattle.std.specs.Prelude.{◌≡◌, ◌≢◌, ℕ, suc, ◌+◌, ◌-◌, ◌*◌, ◌^◌, ◌<◌, true, List, [], drop, length, Option, Some, Result, IfOk, OnErr}
use Rattle.field.specs.Symbols.{Symbols}
use Rattle.code.specs.Codes.{full, half_for}
use Rattle.code.specs.Contents.{Holds, parts}
use Rattle.code.specs.Standing.{standing}
use Rattle.refusal.specs.Refusals.{earliest, refusal}
use Rattle.refusal.specs.declared.Refusal.{Refusal}
use Rattle.shelf.specs.Meaning.{Meaning, box_count, column, with_out}
use Rattle.shelf.specs.Rows.{rows_at}
use Rattle.stripe.specs.Stripes.{HoldsFile, OnlyStripe, StripeFile, held, stands}
use Rattle.filing.specs.Restoring.{HoldsZero, Restored}
use Rattle.amending.specs.Amendments.{Amended}
use Rattle.renewing.specs.Renewals.{NewBox, Renewed}
use Rattle.ledger.specs.Calls.{lent, reasons, size_of}
use Rattle.ledger.specs.declared.calls.Answer.{Answer}
use Rattle.ledger.specs.declared.calls.Answer.TheVariants.{Done, Count}
use Rattle.ledger.specs.declared.calls.Call.{Call}
use Rattle.ledger.specs.declared.calls.Call.TheVariants.{SetUp, Put, Amend, Read, Column, Message, Lose, Renew, Rebuild}
use Rattle.vault_calls.specs.States.{state}

-- what a call answers, and what its buffer holds afterwards (nothing if it was lent none)
pub record Reply (T : Type 0) : Type 0 where
  pub answer : Result Answer Refusal
  pub buffer : List T

-- the size that a vault holds after a call that is not declined
abbrev pub size_after : {T : Type 0} → Call T (List T) → Option ℕ → Option ℕ
size_after (SetUp k) size = Some k
size_after call size = size

-- A vault is a stripe from row 0 on: its boxes have no other rows.
module _ (Y : Symbols) {T : Type 0} (value : T → Y.Symbol) where
  -- every box stands and holds zero
  pub record Cleared (s s' : Meaning T) : Type 0 where
    pub boxes : box_count s' ≡ box_count s
    pub rows : s'.rows ≡ s.rows
    pub stand : (b : ℕ) → b < box_count s → stands s' b ≡ true
    pub zero : (b a : ℕ) → b < box_count s → a < s.rows → HoldsZero Y value s' b a

  -- the box in place b stands, if there is one, and holds zero, and no other has changed
  pub record ClearedBox (b : ℕ) (s s' : Meaning T) : Type 0 where
    pub boxes : box_count s' ≡ box_count s
    pub rows : s'.rows ≡ s.rows
    pub stand : b < box_count s → stands s' b ≡ true
    pub zero : (a : ℕ) → b < box_count s → a < s.rows → HoldsZero Y value s' b a
    pub others : (d : ℕ) → d ≢ suc b → column s' d ≡ column s d

  module _ (m : ℕ) (s s' : Meaning T) where
    -- every box that stands holds its column of the file, and no box has come or gone
    pub record Stored (file : List T) : Type 0 where
      pub only : OnlyStripe m 0 s s'
      pub holds : HoldsFile Y value m 0 s' (parts Y value (2 ^ m) file)

    -- the buffer has the file of the shelf, and nothing has changed
    pub record FileRead (buffer : List T) : Type 0 where
      pub file : StripeFile Y value m 0 s (parts Y value (2 ^ m) buffer)
      pub stays : s' ≡ s

    -- the buffer has the column of box b
    pub record ColumnRead (b : ℕ) (buffer : List T) : Type 0 where
      pub column : buffer ≡ rows_at s b 0 (2 ^ m)
      pub stays : s' ≡ s

    -- the buffer has the half that box `helper` sends for a lost data box
    pub record HalfSent (helper lost : ℕ) (buffer : List T) : Type 0 where
      pub half : Holds Y value (2 ^ (m - 1)) buffer (half_for (full Y m) (lost - 1) (held Y value m 0 s (helper - 1)))
      pub stays : s' ≡ s

    -- Box b stands with the column that the halves of all other boxes give, whatever these hold. The halves are at the front
    -- of the buffer, and its rest is what it was; so many numbers were taken.
    pub record BoxRenewed (b : ℕ) (work buffer : List T) (taken : ℕ) : Type 0 where
      pub count : taken ≡ (3 * m + 1) * 2 ^ (m - 1)
      pub renewed : Renewed Y value m 0 (b - 1) (parts Y value (2 ^ (m - 1)) buffer) s s'
      pub put_in : NewBox Y value m 0 (b - 1) s s'
      pub rest : drop ((3 * m + 1) * 2 ^ (m - 1)) buffer ≡ drop ((3 * m + 1) * 2 ^ (m - 1)) work

    -- The buffer has the file of the shelf, and every box that was out stands with its column of it; so many they were.
    pub record BoxesRebuilt (buffer : List T) (restored : ℕ) : Type 0 where
      pub count : restored + standing (stands s) (3 * m + 2) ≡ 3 * m + 2
      pub file : StripeFile Y value m 0 s (parts Y value (2 ^ m) buffer)
      pub boxes : Restored Y value m 0 (parts Y value (2 ^ m) buffer) s s'

    -- what an accepted call answers, and leaves of the shelf and in its buffer
    abbrev pub Accepts : Call T (List T) → Answer → List T → Type 0
    Accepts (SetUp k) Done buffer = Cleared s s' × (buffer ≡ [])
    Accepts (Put file) Done buffer = Stored file × (buffer ≡ file)
    Accepts (Amend b a x work) Done buffer = Amended Y value m 0 (b - 1) a (value x) s s' buffer
    Accepts (Read into) Done buffer = FileRead buffer
    Accepts (Column b into) Done buffer = ColumnRead b buffer
    Accepts (Message helper lost into) Done buffer = HalfSent helper lost buffer
    Accepts (Lose b) Done buffer = (s' ≡ with_out s b) × (buffer ≡ [])
    Accepts (Renew b work) (Count taken) buffer = BoxRenewed b work buffer taken
    Accepts (Rebuild work) (Count restored) buffer = BoxesRebuilt buffer restored
    Accepts call x buffer = ⊥

  -- A call takes a vault from one size and meaning of its shelf to others. r is what it answers and what its buffer holds then.
  module _ (size : Option ℕ) (s : Meaning T) (call : Call T (List T)) (r : Reply T) (size' : Option ℕ) (s' : Meaning T) where
    pub record Unchanged : Type 0 where
      pub vault : size' ≡ size
      pub shelf : s' ≡ s
      pub buffer : r.buffer ≡ lent call

    pub record Does : Type 0 where
      -- it is declined by the earliest reason that fits, and changes nothing then
      pub answer : refusal r.answer ≡ earliest (reasons Y (state Y size s) call)
      pub declined : OnErr r.answer Unchanged
      -- otherwise
      pub accepted : IfOk r.answer (λ x. Accepts (size_of (state Y size s)) s s' call x r.buffer)
      pub vault : IfOk r.answer (λ x. size' ≡ size_after call size)
      -- no buffer changes its length
      pub long : length r.buffer ≡ length (lent call)
