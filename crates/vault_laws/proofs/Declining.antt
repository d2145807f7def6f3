-- Every declined call was declined by the least number of those that fit. Assumes nothing.
use Rattle.std.proofs.Common.{◌≡◌, ℕ, List, [], ◌∷◌, map, Option, None, Err, refl, sym, ap, ◌∙◌, subst}
use Rattle.field.specs.Symbols.{Symbols}
use Rattle.shelf.specs.Meaning.{Meaning, box_count}
use Rattle.ledger.specs.Histories.{Entry, history}
use Rattle.ledger.specs.Laws.{Least}
use Rattle.ledger.specs.Ledgers.{LedgerCall, Ledger, Reply, final, fresh, step}
use Rattle.ledger.specs.declared.calls.Call.{Call}
use Rattle.ledger.proofs.Runs.{stands}
use Rattle.vault_calls.specs.Calls.{Reply as VaultReply}
use Rattle.vault_laws.specs.Agreement.{told_call}
use Rattle.vault_laws.specs.Laws.{DeclinedByLeast}
use Rattle.vault_laws.specs.Runs.{Run}
use Rattle.vault_laws.proofs.Followed.{past_is}
use Rattle.vault_laws.proofs.Renewals.{entry}

module _ (Y : Symbols) where
  -- the calls of a history are the calls
  pub calls_are : (l : Ledger Y) (calls : List (LedgerCall Y)) → map (λ e. e.0) (history Y l calls) ≡ calls
  calls_are l [] = refl
  calls_are l (call ∷ calls) = ap (λ cs. call ∷ cs) (calls_are (step Y l call).next calls)

  module _ {T : Type 0} (value : T → Y.Symbol) where
    pub declined : (s : Meaning T) (calls : List (Call T (List T))) (replies : List (VaultReply T)) (size' : Option ℕ) (s' : Meaning T)
        → Run Y value calls replies None s size' s' → DeclinedByLeast Y value s calls replies size' s'
    declined s calls replies size' s' run before after call why buffer e =
        let l : Ledger Y = fresh Y (box_count s) s.rows in
        let at = entry Y before l (map (told_call Y value) calls) call (record { answer = Err why; buffer = buffer }) after (sym (past_is Y value s calls replies size' s' run) ∙ e) in
        let remembers = (stands Y).each_history (box_count s) s.rows at.earlier in
        let decided = (stands Y).each_call (final Y l at.earlier) remembers.is_ledger call in
        subst (λ (cs : List (LedgerCall Y)). Least Y (final Y l cs) call why) (sym (ap (map (λ (x : Entry Y). x.0)) at.are ∙ calls_are l at.earlier))
        ((decided.declined why).0 (sym (ap (λ (r : Reply Y). r.answer) at.is)))
