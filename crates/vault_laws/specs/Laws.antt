-- What holds of a vault after any calls, from its making on. Assumes nothing.
use Rattle.std.specs.Prelude.{◌≡◌, ◌≢◌, ℕ, ◌+◌, ◌-◌, ◌*◌, ◌^◌, ◌<◌, ◌≤◌, true, List, ◌++◌, ◌∷◌, drop, length, map, Option, Some, None, Ok, Err}
use Rattle.std.specs.List.{zip}
use Rattle.field.specs.Symbols.{Symbols}
use Rattle.code.specs.Codes.{Alike, HasHalves, full}
use Rattle.code.specs.Contents.{parts}
use Rattle.code.specs.Laws.{NoneToSpare, Same}
use Rattle.shelf.specs.Meaning.{Meaning, box_count}
use Rattle.stripe.specs.Stripes.{held, stands}
use Rattle.refusal.specs.declared.Refusal.{Refusal}
use Rattle.ledger.specs.Calls.{out_count}
use Rattle.ledger.specs.Histories.{Entry, size_in_force, told_file}
use Rattle.ledger.specs.Laws.{Least}
use Rattle.ledger.specs.Ledgers.{LedgerCall, Ledger, final, fresh}
use Rattle.ledger.specs.Ledgers.{replies as ledger_replies}
use Rattle.ledger.specs.declared.calls.Answer.{Answer}
use Rattle.ledger.specs.declared.calls.Answer.TheVariants.{Done, Count}
use Rattle.ledger.specs.declared.calls.Call.{Call}
use Rattle.ledger.specs.declared.calls.Call.TheVariants.{Read, Renew}
use Rattle.vault_calls.specs.Calls.{Does, Reply}
use Rattle.vault_calls.specs.States.{state}
use Rattle.vault_laws.specs.Agreement.{Agrees, told_call, told_reply}
use Rattle.vault_laws.specs.Runs.{Run}

module _ (Y : Symbols) {T : Type 0} (value : T → Y.Symbol) where
  -- a read with a buffer of the right length, of a vault of size m
  pub record ReadOf (m : ℕ) (s : Meaning T) (r : Reply T) : Type 0 where
    pub into : List T
    pub long : length into ≡ 3 * m * 2 ^ m
    pub size' : Option ℕ
    pub s' : Meaning T
    pub does : Does Y value (Some m) s (Read into) r size' s'

  -- two vaults of size m hold the same in box b, counted from 0
  abbrev pub AgreeIn : ℕ → Meaning T → Meaning T → ℕ → Type 0
  AgreeIn m s t b = Alike (full Y m) (held Y value m 0 s b) (held Y value m 0 t b)

  -- all boxes but x and y stand in both, and hold the same
  pub record AgreeBut (m : ℕ) (s t : Meaning T) (x y : ℕ) : Type 0 where
    pub first : (b : ℕ) → b < 3 * m + 2 → b ≢ x → b ≢ y → stands s b ≡ true
    pub second : (b : ℕ) → b < 3 * m + 2 → b ≢ x → b ≢ y → stands t b ≡ true
    pub alike : (b : ℕ) → b < 3 * m + 2 → b ≢ x → b ≢ y → AgreeIn m s t b

  -- they read alike, and agree in every box that stands in both
  pub record AgreeInAll (m : ℕ) (s t : Meaning T) : Type 0 where
    pub read : (r q : Reply T) → ReadOf m s r → ReadOf m t q → (r.answer ≡ Ok Done) × (q.answer ≡ Ok Done) × (map value r.buffer ≡ map value q.buffer)
    pub boxes : (b : ℕ) → b < 3 * m + 2 → stands s b ≡ true → stands t b ≡ true → AgreeIn m s t b

  -- A renewal of box b, after the calls of a history, took half of each other box's column: so many numbers, none to spare.
  pub record TookHalves (before : List (Entry Y)) (b : ℕ) (work buffer : List Y.Symbol) (taken : Answer) : Type 0 where
    pub m : ℕ
    pub set_up : size_in_force Y before ≡ Some m
    pub data_box : (1 ≤ b) × (b ≤ 3 * m)
    pub count : taken ≡ Count ((3 * m + 1) * 2 ^ (m - 1))
    -- 2 ^ (m - 1) numbers of each other box, as the buffer shows: the halves of the file as it was written last
    pub halves : HasHalves (full Y m) (b - 1) (told_file Y m before) (parts Y (λ x. x) (2 ^ (m - 1)) buffer)
    pub rest : drop ((3 * m + 1) * 2 ^ (m - 1)) buffer ≡ drop ((3 * m + 1) * 2 ^ (m - 1)) work
    -- whichever is left out, for every file another file has all the rest alike and a different lost column
    pub none_to_spare : NoneToSpare (full Y m) (b - 1)

  -- A vault was made on a shelf that meant s, and calls were made of it, with these replies. Now its size is size', and its shelf means s'.
  module _ (s : Meaning T) (calls : List (Call T (List T))) (replies : List (Reply T)) (size' : Option ℕ) (s' : Meaning T) where
    -- the ledger after the same calls
    abbrev ledger : Ledger Y
    ledger = final Y (fresh Y (box_count s) s.rows) (map (told_call Y value) calls)

    -- the calls beside what they came to
    abbrev past : List (Entry Y)
    past = zip (map (told_call Y value) calls) (map (told_reply Y value) replies)

    -- every call answered, and left its buffer, as the ledger's run does, and now the vault is as the ledger says
    pub record AsLedger : Type 0 where
      pub answered : map (told_reply Y value) replies ≡ ledger_replies Y (fresh Y (box_count s) s.rows) (map (told_call Y value) calls)
      pub agrees : Agrees Y value ledger size' s'

    -- with at most two boxes out, a read finds each symbol as the newest accepted put or amendment since the last accepted set up left it, else zero
    abbrev pub NewestWins : Type 0
    NewestWins =
        (m : ℕ) → size' ≡ Some m → out_count (state Y size' s') ≤ 2 → (r : Reply T) → ReadOf m s' r
        → (r.answer ≡ Ok Done) × Same (full Y m) (parts Y value (2 ^ m) r.buffer) (told_file Y m past)

    -- any second vault of the same size, after calls of its own on its own shelf, that has the same in some 3m boxes has the same in all
    abbrev pub AnyBoxes : Type 0
    AnyBoxes =
        (t : Meaning T) (others : List (Call T (List T))) (answers : List (Reply T)) (t' : Meaning T) (m : ℕ)
        → size' ≡ Some m → Run Y value others answers None t (Some m) t'
        → (x y : ℕ) → x < 3 * m + 2 → y < 3 * m + 2 → x ≢ y → AgreeBut m s' t' x y → AgreeInAll m s' t'

    -- every accepted renewal took halves
    abbrev pub RenewedFromHalves : Type 0
    RenewedFromHalves =
        (before after : List (Entry Y)) (b : ℕ) (work buffer : List Y.Symbol) (taken : Answer)
        → past ≡ before ++ (Renew b work, record { answer = Ok taken; buffer = buffer }) ∷ after → TookHalves before b work buffer taken

    -- every declined call was declined by the least number of those that fit, as the ledger stood after the calls before it
    abbrev pub DeclinedByLeast : Type 0
    DeclinedByLeast =
        (before after : List (Entry Y)) (call : LedgerCall Y) (why : Refusal) (buffer : List Y.Symbol)
        → past ≡ before ++ (call, record { answer = Err why; buffer = buffer }) ∷ after
        → Least Y (final Y (fresh Y (box_count s) s.rows) (map (λ e. e.0) before)) call why

    pub record VaultLaw : Type 0 where
      pub as_ledger : AsLedger
      pub newest : NewestWins
      pub any_boxes : AnyBoxes
      pub renewals : RenewedFromHalves
      pub declined : DeclinedByLeast
