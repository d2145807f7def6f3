-- Ledgers after any calls. Assumes nothing.
use Rattle.std.proofs.Common.{◌≡◌, ℕ, suc, ◌-◌, ◌*◌, ◌^◌, ◌<◌, ◌≤◌, List, [], ◌∷◌, ◌++◌, length, Some, Ok, unwrap_or, refl, sym, ap, ◌∙◌, subst, append_assoc, append-nil, arith}
use Rattle.std.proofs.lemmas.Bool.{false≢true}
use Rattle.std.proofs.lemmas.Option.{none-some}
use Rattle.field.specs.Symbols.{Symbols}
use Rattle.code.specs.Codes.{full}
use Rattle.code.specs.Laws.{Same}
use Rattle.refusal.specs.declared.Refusal.TheVariants.{NotSetUp, Length, ManyOut}
use Rattle.ledger.specs.Calls.{out_count, size_of}
use Rattle.ledger.specs.Histories.{Entry, history, newest_write, told_file}
use Rattle.ledger.specs.Laws.{IsLedger, IsRead, Leaves, LedgerStands, Remembers}
use Rattle.ledger.specs.Ledgers.{LedgerCall, Ledger, Outcome, contents, final, fresh, step}
use Rattle.ledger.specs.declared.calls.Answer.{Answer}
use Rattle.ledger.specs.declared.calls.Call.TheVariants.{Read}
use Rattle.ledger.proofs.Alike.{leaves_alike}
use Rattle.ledger.proofs.Remembered.{Agrees, agrees_on}
use Rattle.ledger.proofs.Stands.{boxes_stay, decided, rows_stay, still_ledger}
use Rattle.ledger.proofs.Steps.{Clear, accepted, clear, passed}

module _ (Y : Symbols) where
  pub begins : (n k : ℕ) → IsLedger Y (fresh Y n k)
  begins n k = record { set_up = λ m e. absurd (none-some m e); numbered = λ b e. absurd (false≢true e); as_made = λ e. refl }

  module _ (n k : ℕ) where
    -- what lasts over the calls
    record Lasts (l : Ledger Y) (h : List (Entry Y)) : Type 0 where
      lawful : IsLedger Y l
      boxes : l.state.boxes ≡ n
      rows : l.state.rows ≡ k
      agrees : Agrees Y l h

    lasts : (l : Ledger Y) (h : List (Entry Y)) (calls : List (LedgerCall Y)) → Lasts l h → Lasts (final Y l calls) (h ++ history Y l calls)
    lasts l h [] now = subst (Lasts l) (sym (append-nil h)) now
    lasts l h (call ∷ calls) now =
        let e : Entry Y = (call, (step Y l call).reply) in
        let next : Ledger Y = (step Y l call).next in
        subst (Lasts (final Y next calls)) (append_assoc h (e ∷ []) (history Y next calls))
        (lasts next (h ++ e ∷ []) calls (record {
          lawful = still_ledger Y l now.lawful call;
          boxes = boxes_stay Y l call ∙ now.boxes;
          rows = rows_stay Y l call ∙ now.rows;
          agrees = agrees_on Y l h now.agrees now.lawful call;
        }))

    from_fresh : (calls : List (LedgerCall Y)) → Lasts (final Y (fresh Y n k) calls) (history Y (fresh Y n k) calls)
    from_fresh calls = lasts (fresh Y n k) [] calls (record {
      lawful = begins n k;
      boxes = refl;
      rows = refl;
      agrees = record { size = refl; out = λ b. refl; newest = λ b a first last row. absurd (omega arith) };
    })

  -- a read that nothing is in the way of
  readable : (l : Ledger Y) (m : ℕ) → l.state.size ≡ Some m → out_count l.state ≤ 2 → (into : List Y.Symbol) → length into ≡ 3 * m * 2 ^ m → Clear Y l (Read into)
  readable l m is few into long NotSetUp f = none-some m (sym f ∙ is)
  readable l m is few into long Length f = f (long ∙ ap (λ o. 3 * unwrap_or o 0 * 2 ^ unwrap_or o 0) (sym is))
  readable l m is few into long ManyOut f = omega arith
  readable l m is few into long why f = f

  -- the law of the newest write, by places
  by_places : (l : Ledger Y) (h : List (Entry Y)) → Agrees Y l h → (m : ℕ) → l.state.size ≡ Some m → Same (full Y m) (contents Y m l.file) (told_file Y m h)
  by_places l h agrees m is b inside a row =
      let size : size_of l.state ≡ m = ap (λ o. unwrap_or o 0) is in
      ap (λ j. contents Y m l.file j a) (omega arith)
      ∙ subst (λ (i : ℕ). suc b ≤ 3 * i → a < 2 ^ i → contents Y i l.file (suc b - 1) a ≡ newest_write Y i h (suc b) a) size
      (agrees.newest (suc b) a (omega arith)) (omega arith) row

  -- what is left is what the history tells
  tells : (l : Ledger Y) (h : List (Entry Y)) → IsLedger Y l → Agrees Y l h → (call : LedgerCall Y) (x : Answer) → (step Y l call).reply.answer ≡ Ok x → (m : ℕ) → l.state.size ≡ Some m
      → Leaves Y m (told_file Y m h) call (step Y l call).reply.buffer (step Y l call).next.file
  tells l h lawful agrees call x e m is =
      let size : size_of l.state ≡ m = ap (λ o. unwrap_or o 0) is in
      subst (λ (i : ℕ). l.state.size ≡ Some i → Leaves Y i (told_file Y i h) call (step Y l call).reply.buffer (step Y l call).next.file) size
      (λ is. leaves_alike Y l _ _ (lawful.set_up _ is) (by_places l h agrees _ is) call _ _ (clear Y l call (passed Y l call _ x e)) ((decided Y l lawful call).leaves x e)) is

  remembers : (n k : ℕ) (calls : List (LedgerCall Y)) → Remembers Y n k calls
  remembers n k calls =
      let all = from_fresh n k calls in
      let l : Ledger Y = final Y (fresh Y n k) calls in
      let h : List (Entry Y) = history Y (fresh Y n k) calls in
      record {
        is_ledger = all.lawful;
        boxes = all.boxes;
        rows = all.rows;
        size = all.agrees.size;
        out = all.agrees.out;
        newest = by_places l h all.agrees;
        read = λ m is few into long.
            subst (λ (o : Outcome Y). IsRead Y n k calls m o.reply) (sym (accepted Y l (Read into) (readable l m is few into long)))
            (record { answer = refl; whole = (all.lawful.set_up m is).whole; newest = by_places l h all.agrees m is });
        leaves = λ m is call x e. tells l h all.lawful all.agrees call x e m is;
      }

  pub stands : LedgerStands Y
  stands = record { each_call = decided Y; each_history = remembers }
