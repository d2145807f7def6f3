-- A vault that is as a ledger says declines a call where the ledger does, with the same refusal. Assumes nothing.
use Rattle.std.proofs.Common.{◌≡◌, ℕ, inl, inr, Bool, List, [], Option, Some, None, refl, sym, ap, ◌∙◌, arith}
use Rattle.std.specs.Option.{is_none}
use Rattle.std.proofs.Math.Path.{fun_ext}
use Rattle.std.proofs.lemmas.Bool.{cond-true}
use Rattle.field.specs.Symbols.{Symbols}
use Rattle.refusal.specs.Refusals.{earliest}
use Rattle.refusal.specs.declared.Refusal.TheVariants.{Size, Marks, Shape}
use Rattle.shelf.specs.Meaning.{Meaning, box_count, is_out}
use Rattle.ledger.specs.Calls.{State, reasons}
use Rattle.ledger.specs.Ledgers.{Ledger}
use Rattle.ledger.specs.declared.calls.Call.{Call}
use Rattle.ledger.specs.declared.calls.Call.TheVariants.{SetUp}
use Rattle.ledger.proofs.Lengths.{same_reasons}
use Rattle.ledger.proofs.Steps.{Clear, cleared}
use Rattle.vault_calls.specs.States.{in_force, shelf_state, state}
use Rattle.vault_laws.specs.Agreement.{Agrees, told_call}
use Rattle.vault_laws.proofs.Files.{is_set_up}

module _ (Y : Symbols) {T : Type 0} (value : T → Y.Symbol) where
  module _ (l : Ledger Y) (m : ℕ) (s : Meaning T) (agrees : Agrees Y value l (Some m) s) where
    -- the size fits the field and the shelf, so it is in force
    abbrev bare : Ledger Y
    bare = record { state = shelf_state Y None s; file = [] }

    settable : Clear Y bare (SetUp m)
    settable Size f = let u = is_set_up Y value l m s agrees in grind arith
    settable Marks f = let u = is_set_up Y value l m s agrees in omega arith
    settable Shape (inl f) = f (agrees.boxes ∙ (is_set_up Y value l m s agrees).boxes)
    settable Shape (inr f) = f (agrees.rows ∙ (is_set_up Y value l m s agrees).rows)
    settable why f = f

    in_force_is : in_force Y (Some m) s ≡ Some m
    in_force_is = cond-true _ (Some m) None (ap is_none (cleared Y bare (SetUp m) settable))

    pub same_state : state Y (Some m) s ≡ l.state
    same_state = λ i.
        record { boxes = agrees.boxes i; rows = agrees.rows i; size = (in_force_is ∙ agrees.sized) i; out = fun_ext (agrees.out m refl) i }

  -- before the set up no box counts as out
  unset : (n k : ℕ) (out other : ℕ → Bool) (call : Call T (List T))
      → earliest (reasons Y (record { boxes = n; rows = k; size = None; out = out }) call) ≡ earliest (reasons Y (record { boxes = n; rows = k; size = None; out = other }) call)
  unset n k out other (SetUp j) = refl
  unset n k out other call = refl

  module _ (l : Ledger Y) where
    in_symbols : (call : Call T (List T)) → earliest (reasons Y l.state call) ≡ earliest (reasons Y l.state (told_call Y value call))
    in_symbols call = sym (ap earliest (same_reasons value Y l.state call))

    pub same_verdict : (size : Option ℕ) (s : Meaning T) → Agrees Y value l size s → (call : Call T (List T)) → earliest (reasons Y (state Y size s) call) ≡ earliest (reasons Y l.state (told_call Y value call))
    same_verdict None s agrees call =
        unset (box_count s) s.rows (λ b. is_out s b) l.state.out call
        ∙ ap (λ (t : State). earliest (reasons Y t call)) (λ i. record { boxes = agrees.boxes i; rows = agrees.rows i; size = agrees.sized i; out = l.state.out })
        ∙ in_symbols call
    same_verdict (Some m) s agrees call = ap (λ (t : State). earliest (reasons Y t call)) (same_state l m s agrees) ∙ in_symbols call
