-- Every accepted renewal took halves, none to spare. Assumes nothing.
use Rattle.std.proofs.Common.{◌≡◌, ℕ, ◌+◌, ◌-◌, ◌*◌, ◌^◌, ◌≤◌, List, [], ◌∷◌, ◌++◌, map, Option, Some, None, Ok, refl, sym, ap, ap₂, ◌∙◌, subst, arith}
use Rattle.field.specs.Symbols.{Symbols}
use Rattle.code.specs.Laws.{CabinetsStand}
use Rattle.refusal.specs.declared.Refusal.TheVariants.{NotSetUp, NoBox, NotRenewable}
use Rattle.shelf.specs.Meaning.{Meaning, box_count}
use Rattle.ledger.specs.Calls.{size_of}
use Rattle.ledger.specs.Histories.{Entry, history}
use Rattle.ledger.specs.Laws.{IsSetUp, Remembers}
use Rattle.ledger.specs.Ledgers.{LedgerCall, Ledger, Outcome, Reply, final, fresh, step}
use Rattle.ledger.specs.declared.calls.Answer.{Answer}
use Rattle.ledger.specs.declared.calls.Answer.TheVariants.{Count}
use Rattle.ledger.specs.declared.calls.Call.{Call}
use Rattle.ledger.specs.declared.calls.Call.TheVariants.{Renew}
use Rattle.ledger.proofs.Accepted.{some_size}
use Rattle.ledger.proofs.Runs.{stands}
use Rattle.ledger.proofs.Steps.{accepted, clear, passed}
use Rattle.vault_calls.specs.Calls.{Reply as VaultReply}
use Rattle.vault_laws.specs.Agreement.{told_call}
use Rattle.vault_laws.specs.Laws.{RenewedFromHalves, TookHalves}
use Rattle.vault_laws.specs.Runs.{Run}
use Rattle.vault_laws.proofs.Followed.{past_is}

module _ (Y : Symbols) where
  -- an entry of a history is what the ledger came to after the calls before it
  pub record CameTo (l : Ledger Y) (before : List (Entry Y)) (call : LedgerCall Y) (r : Reply Y) : Type 0 where
    pub earlier : List (LedgerCall Y)
    pub are : before ≡ history Y l earlier
    pub is : r ≡ (step Y (final Y l earlier) call).reply

  pub entry : (before : List (Entry Y)) (l : Ledger Y) (calls : List (LedgerCall Y)) (call : LedgerCall Y) (r : Reply Y) (after : List (Entry Y))
      → history Y l calls ≡ before ++ (call, r) ∷ after → CameTo l before call r
  entry [] l [] call r after e = cc
  entry (x ∷ before) l [] call r after e = cc
  entry [] l (first ∷ calls) call r after e =
      let same : (first, (step Y l first).reply) ≡ (call, r) = cc in
      record { earlier = []; are = refl; is = ap (λ (x : Entry Y). x.1) (sym same) ∙ ap (λ c. (step Y l c).reply) (ap (λ (x : Entry Y). x.0) same) }
  entry (x ∷ before) l (first ∷ calls) call r after e =
      let next : Ledger Y = (step Y l first).next in
      let same : (first, (step Y l first).reply) ≡ x = cc in
      let rest : history Y next calls ≡ before ++ (call, r) ∷ after = cc in
      let more = entry before next calls call r after rest in
      record { earlier = first ∷ more.earlier; are = ap₂ (λ x xs. x ∷ xs) (sym same) more.are; is = more.is }

  module _ {T : Type 0} (value : T → Y.Symbol) (cabinets : CabinetsStand Y) (n k : ℕ) (calls : List (LedgerCall Y)) where
    abbrev l : Ledger Y
    l = final Y (fresh Y n k) calls

    abbrev m : ℕ
    m = size_of l.state

    took : (b : ℕ) (work : List Y.Symbol) (taken : Answer) → (step Y l (Renew b work)).reply.answer ≡ Ok taken
        → TookHalves Y value (history Y (fresh Y n k) calls) b work (step Y l (Renew b work)).reply.buffer taken
    took b work taken e =
        let remembers : Remembers Y n k calls = (stands Y).each_history n k calls in
        let free = clear Y l (Renew b work) (passed Y l (Renew b work) _ taken e) in
        let size : l.state.size ≡ Some m = some_size l.state.size (free NotSetUp) in
        let u : IsSetUp Y l m = remembers.is_ledger.set_up m size in
        let left = remembers.leaves m size (Renew b work) taken e in
        let answer : (step Y l (Renew b work)).reply.answer ≡ Ok (Count ((3 * m + 1) * 2 ^ (m - 1))) =
        ap (λ (o : Outcome Y). o.reply.answer) (accepted Y l (Renew b work) free) in
        let box = free NoBox in
        let renewable = free NotRenewable in
        let some : 1 ≤ b = grind arith in
        let most : b ≤ 3 * m = grind arith in
        record {
          m = m;
          set_up = sym remembers.size ∙ size;
          data_box = (some, most);
          count = cc;
          halves = left.0;
          rest = left.1;
          none_to_spare = (cabinets m u.some u.marks).none_to_spare (b - 1) (omega arith);
        }

module _ (Y : Symbols) {T : Type 0} (value : T → Y.Symbol) (cabinets : CabinetsStand Y) where
  pub renewals : (s : Meaning T) (calls : List (Call T (List T))) (replies : List (VaultReply T)) (size' : Option ℕ) (s' : Meaning T)
      → Run Y value calls replies None s size' s' → RenewedFromHalves Y value s calls replies size' s'
  renewals s calls replies size' s' run before after b work buffer taken e =
      let l : Ledger Y = fresh Y (box_count s) s.rows in
      let at = entry Y before l (map (told_call Y value) calls) (Renew b work) (record { answer = Ok taken; buffer = buffer }) after (sym (past_is Y value s calls replies size' s' run) ∙ e) in
      let now = took Y value cabinets (box_count s) s.rows at.earlier b work taken (sym (ap (λ (r : Reply Y). r.answer) at.is)) in
      subst (λ (h : List (Entry Y)). TookHalves Y value h b work buffer taken) (sym at.are)
      (subst (λ (u : List Y.Symbol). TookHalves Y value (history Y l at.earlier) b work u taken) (sym (ap (λ (r : Reply Y). r.buffer) at.is)) now)
