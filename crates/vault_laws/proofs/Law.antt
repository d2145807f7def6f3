-- The law of vaults. Assumes nothing.
use Rattle.std.proofs.Common.{ℕ, List, Option, None}
use Rattle.field.specs.Symbols.{Symbols}
use Rattle.code.specs.Laws.{CabinetsStand}
use Rattle.shelf.specs.Meaning.{Meaning}
use Rattle.ledger.specs.declared.calls.Call.{Call}
use Rattle.vault_calls.specs.Calls.{Reply}
use Rattle.vault_laws.specs.Laws.{VaultLaw}
use Rattle.vault_laws.specs.Runs.{Run}
use Rattle.vault_laws.proofs.AnyBoxes.{any_boxes}
use Rattle.vault_laws.proofs.Declining.{declined}
use Rattle.vault_laws.proofs.FileReads.{newest_wins}
use Rattle.vault_laws.proofs.Followed.{as_ledger}
use Rattle.vault_laws.proofs.Renewals.{renewals}

module _ (Y : Symbols) {T : Type 0} (value : T → Y.Symbol) (cabinets : CabinetsStand Y) where
  pub law : (s s' : Meaning T) (calls : List (Call T (List T))) (replies : List (Reply T)) (size' : Option ℕ)
      → Run Y value calls replies None s size' s' → VaultLaw Y value s calls replies size' s'
  law s s' calls replies size' run = record {
    as_ledger = as_ledger Y value s calls replies size' s' run;
    newest = newest_wins Y value s calls replies size' s' run;
    any_boxes = any_boxes Y value cabinets s calls replies size' s' run;
    renewals = renewals Y value cabinets s calls replies size' s' run;
    declined = declined Y value s calls replies size' s' run;
  }
