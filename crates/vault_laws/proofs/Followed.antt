-- A vault goes as its ledger, over any calls. Assumes nothing.
use Rattle.std.proofs.Common.{◌≡◌, ℕ, List, [], ◌∷◌, map, Option, None, refl, sym, ap, ap₂, subst}
use Rattle.std.specs.List.{zip}
use Rattle.std.proofs.lemmas.Option.{none-some}
use Rattle.field.specs.Symbols.{Symbols}
use Rattle.shelf.specs.Meaning.{Meaning, box_count}
use Rattle.ledger.specs.Histories.{history}
use Rattle.ledger.specs.Ledgers.{Ledger, final, fresh, step}
use Rattle.ledger.specs.Ledgers.{replies as ledger_replies}
use Rattle.ledger.specs.declared.calls.Call.{Call}
use Rattle.ledger.proofs.Runs.{begins}
use Rattle.vault_calls.specs.Calls.{Reply}
use Rattle.vault_laws.specs.Agreement.{Agrees, told_call, told_reply}
use Rattle.vault_laws.specs.Laws.{AsLedger}
use Rattle.vault_laws.specs.Runs.{Run}
use Rattle.vault_laws.proofs.Step.{step_goes}

module _ (Y : Symbols) {T : Type 0} (value : T → Y.Symbol) where
  -- calls from anywhere: what they answer is the ledger's, and the vault is as the ledger says afterwards
  pub record Follows (l : Ledger Y) (calls : List (Call T (List T))) (replies : List (Reply T)) (size' : Option ℕ) (s' : Meaning T) : Type 0 where
    pub answered : map (told_reply Y value) replies ≡ ledger_replies Y l (map (told_call Y value) calls)
    pub agrees : Agrees Y value (final Y l (map (told_call Y value) calls)) size' s'

  pub follows : (calls : List (Call T (List T))) (replies : List (Reply T)) (l : Ledger Y) (size : Option ℕ) (s : Meaning T) (size' : Option ℕ) (s' : Meaning T)
      → Agrees Y value l size s → Run Y value calls replies size s size' s' → Follows l calls replies size' s'
  follows [] [] l size s size' s' now run = record {
    answered = refl;
    agrees = subst (λ o. Agrees Y value l o s') (sym run.0) (subst (Agrees Y value l size) (sym run.1) now);
  }
  follows [] (r ∷ replies) l size s size' s' now run = absurd run
  follows (call ∷ calls) [] l size s size' s' now run = absurd run
  follows (call ∷ calls) (r ∷ replies) l size s size' s' now run =
      let here = step_goes Y value l size s call r run.next_size run.next_shelf now run.does in
      let later = follows calls replies (step Y l (told_call Y value call)).next run.next_size run.next_shelf size' s' here.1 run.rest in
      record { answered = ap₂ (λ x xs. x ∷ xs) here.0 later.answered; agrees = later.agrees }

  -- a vault begins as its ledger does
  made : (s : Meaning T) → Agrees Y value (fresh Y (box_count s) s.rows) None s
  made s = record {
    lawful = begins Y (box_count s) s.rows;
    boxes = refl;
    rows = refl;
    sized = refl;
    out = λ m e. absurd (none-some m e);
    holds = λ m e. absurd (none-some m e);
  }

  module _ (s : Meaning T) (calls : List (Call T (List T))) (replies : List (Reply T)) (size' : Option ℕ) (s' : Meaning T) (run : Run Y value calls replies None s size' s') where
    pub as_ledger : AsLedger Y value s calls replies size' s'
    as_ledger =
        let all = follows calls replies (fresh Y (box_count s) s.rows) None s size' s' (made s) run in
        record { answered = all.answered; agrees = all.agrees }

    -- the calls beside what they came to are the ledger's history
    pub past_is : zip (map (told_call Y value) calls) (map (told_reply Y value) replies) ≡ history Y (fresh Y (box_count s) s.rows) (map (told_call Y value) calls)
    past_is = ap (zip (map (told_call Y value) calls)) as_ledger.answered
