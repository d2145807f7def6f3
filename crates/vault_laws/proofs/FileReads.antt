-- What a vault's reads find after any calls. Assumes nothing.
use Rattle.std.proofs.Common.{◌≡◌, ℕ, ◌^◌, ◌≤◌, List, map, Option, Some, None, Ok, sym, ◌∙◌, subst}
use Rattle.std.specs.List.{zip}
use Rattle.std.proofs.lemmas.List.{length-map, map-id}
use Rattle.field.specs.Symbols.{Symbols}
use Rattle.code.specs.Codes.{full}
use Rattle.code.specs.Contents.{parts}
use Rattle.code.specs.Laws.{Same}
use Rattle.shelf.specs.Meaning.{Meaning, box_count}
use Rattle.ledger.specs.Calls.{State, out_count}
use Rattle.ledger.specs.Histories.{Entry, told_file}
use Rattle.ledger.specs.Laws.{IsRead, Remembers}
use Rattle.ledger.specs.Ledgers.{LedgerCall, Ledger, final, fresh}
use Rattle.ledger.specs.declared.calls.Answer.TheVariants.{Done}
use Rattle.ledger.specs.declared.calls.Call.{Call}
use Rattle.ledger.specs.declared.calls.Call.TheVariants.{Read}
use Rattle.ledger.proofs.Lists.{at_is}
use Rattle.ledger.proofs.Runs.{stands}
use Rattle.vault_calls.specs.Calls.{Reply}
use Rattle.vault_calls.specs.States.{state}
use Rattle.vault_laws.specs.Agreement.{Agrees, told_call, told_reply}
use Rattle.vault_laws.specs.Laws.{NewestWins, ReadOf}
use Rattle.vault_laws.specs.Runs.{Run}
use Rattle.vault_laws.proofs.Files.{is_set_up, same_list}
use Rattle.vault_laws.proofs.Followed.{as_ledger, past_is}
use Rattle.vault_laws.proofs.Step.{step_goes}
use Rattle.vault_laws.proofs.Verdicts.{same_state}

module _ (Y : Symbols) {T : Type 0} (value : T → Y.Symbol) where
  module _ (s : Meaning T) (calls : List (Call T (List T))) (replies : List (Reply T)) where
    abbrev told : List (LedgerCall Y)
    told = map (told_call Y value) calls

    abbrev pub ledger : Ledger Y
    ledger = final Y (fresh Y (box_count s) s.rows) told

    -- of a vault that has size m in the end
    module _ (m : ℕ) (s' : Meaning T) (run : Run Y value calls replies None s (Some m) s') where
      pub agrees : Agrees Y value ledger (Some m) s'
      agrees = (as_ledger Y value s calls replies (Some m) s' run).agrees

      remembers : Remembers Y (box_count s) s.rows told
      remembers = (stands Y).each_history (box_count s) s.rows told

      is_read : out_count ledger.state ≤ 2 → (r : Reply T) → ReadOf Y value m s' r → IsRead Y (box_count s) s.rows told m (told_reply Y value r)
      is_read few r read =
          let goes = step_goes Y value ledger (Some m) s' (Read read.into) r read.size' read.s' agrees read.does in
          subst (IsRead Y (box_count s) s.rows told m) (sym goes.0)
          (remembers.read m (sym agrees.sized) few (map value read.into) (length-map read.into value ∙ read.long))

      -- it is accepted, and finds the ledger's file
      pub file_read : out_count ledger.state ≤ 2 → (r : Reply T) → ReadOf Y value m s' r → (r.answer ≡ Ok Done) × (map value r.buffer ≡ ledger.file)
      file_read few r read =
          let is = is_read few r read in (
            is.answer,
            sym (map-id (map value r.buffer))
                ∙ same_list Y (λ x. x) m (map value r.buffer) ledger.file is.whole (is_set_up Y value ledger m s' agrees).whole
                (λ b inside a row. is.newest b inside a row ∙ sym (remembers.newest m (sym agrees.sized) b inside a row)),
          )

      newest : out_count (state Y (Some m) s') ≤ 2 → (r : Reply T) → ReadOf Y value m s' r
          → (r.answer ≡ Ok Done) × Same (full Y m) (parts Y value (2 ^ m) r.buffer) (told_file Y m (zip told (map (told_reply Y value) replies)))
      newest few r read =
          let is = is_read (subst (λ (t : State). out_count t ≤ 2) (same_state Y value ledger m s' agrees) few) r read in (
            is.answer,
            subst (λ (h : List (Entry Y)). Same (full Y m) (parts Y value (2 ^ m) r.buffer) (told_file Y m h)) (sym (past_is Y value s calls replies (Some m) s' run))
                (λ b inside a row. sym (at_is Y (map value r.buffer) _) ∙ is.newest b inside a row),
          )

    pub newest_wins : (size' : Option ℕ) (s' : Meaning T) → Run Y value calls replies None s size' s' → NewestWins Y value s calls replies size' s'
    newest_wins size' s' run m e few =
        newest m s' (subst (λ o. Run Y value calls replies None s o s') e run) (subst (λ o. out_count (state Y o s') ≤ 2) e few)
