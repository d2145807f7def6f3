-- Histories: calls with what each came to, the oldest first, and what the newest of them say of sizes, boxes and symbols. Assumes nothing.
use Rattle.std.specs.Prelude.{ℕ, suc, ◌-◌, Bool, true, false, ◌&&◌, ◌==◌, List, [], ◌∷◌, Option, Some, None, is_ok, is_some, unwrap_or, if◌then◌else◌}
use Rattle.std.specs.List.{after_last, zip}
use Rattle.std.specs.Option.{option_or}
use Rattle.field.specs.Symbols.{Symbols}
use Rattle.ledger.specs.Ledgers.{LedgerCall, Ledger, Reply, contents, replies}
use Rattle.ledger.specs.declared.calls.Call.TheVariants.{SetUp, Put, Amend, Lose, Renew, Rebuild}

-- what the newest entry says that says anything
abbrev pub newest : {E X : Type 0} → (E → Option X) → List E → Option X
newest says [] = None
newest says (e ∷ later) = option_or (newest says later) (says e)

module _ (Y : Symbols) where
  abbrev pub Entry : Type 0
  Entry = LedgerCall Y × Reply Y

  -- the calls beside what a ledger answers to them
  abbrev pub history : Ledger Y → List (LedgerCall Y) → List Entry
  history l calls = zip calls (replies Y l calls)

  -- what the call of an entry says, if it was accepted
  abbrev pub if_accepted : {X : Type 0} → (LedgerCall Y → Option X) → Entry → Option X
  if_accepted says e = if is_ok e.1.answer then says e.0 else None

  -- the size that a call sets
  abbrev pub new_size : LedgerCall Y → Option ℕ
  new_size (SetUp m) = Some m
  new_size call = None

  -- whether a call loses box b (true) or brings it back (false)
  abbrev pub new_out : ℕ → LedgerCall Y → Option Bool
  new_out b (Lose d) = if d == b then Some true else None
  new_out b (Renew d work) = if d == b then Some false else None
  new_out b (Rebuild work) = Some false
  new_out b call = None

  -- the symbol that a call writes in row a of data box b, in a cabinet of size m
  abbrev pub new_symbol : ℕ → ℕ → ℕ → LedgerCall Y → Option Y.Symbol
  new_symbol m b a (Put file) = Some (contents Y m file (b - 1) a)
  new_symbol m b a (Amend d c x work) = if d == b && c == a then Some x else None
  new_symbol m b a call = None

  -- the size of the last accepted set up
  abbrev pub size_in_force : List Entry → Option ℕ
  size_in_force h = newest (if_accepted new_size) h

  -- what came after it
  abbrev pub since_set_up : List Entry → List Entry
  since_set_up h = after_last (λ e. is_some (if_accepted new_size e)) h

  -- box b was lost since the last accepted set up, and not brought back since
  abbrev pub is_lost : List Entry → ℕ → Bool
  is_lost h b = unwrap_or (newest (if_accepted (new_out b)) (since_set_up h)) false

  -- what the newest accepted call that wrote there since the last accepted set up left in row a of data box b, else zero
  abbrev pub newest_write : ℕ → List Entry → ℕ → ℕ → Y.Symbol
  newest_write m h b a = unwrap_or (newest (if_accepted (new_symbol m b a)) (since_set_up h)) Y.ring.zero

  -- the file of these symbols, by places from 0
  abbrev pub told_file : ℕ → List Entry → ℕ → ℕ → Y.Symbol
  told_file m h b a = newest_write m h (suc b) a
