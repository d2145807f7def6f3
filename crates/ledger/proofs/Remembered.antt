-- A ledger holds what its history says. Assumes nothing.
use Rattle.std.proofs.Common.{◌≡◌, ◌≢◌, ℕ, ◌+◌, ◌-◌, ◌*◌, ◌^◌, ◌<◌, ◌≤◌, Bool, true, false, not, cond, ◌&&◌, ◌||◌, ◌==◌, List, [], ◌∷◌, ◌++◌, length, get_or, slice_set, Option, Some, None, is_some, unwrap_or, refl, sym, ap, ◌∙◌, subst, arith}
use Rattle.std.specs.Option.{option_or}
use Rattle.std.proofs.lemmas.Bool.{and_from, and_parts, both_ways, eq-eqb, eqb-true}
use Rattle.std.proofs.lemmas.List.{get_or-set_other, get_or-set_same}
use Rattle.std.proofs.lemmas.Nat.{mul-add-lt, same_from_place}
use Rattle.field.specs.Symbols.{Symbols}
use Rattle.refusal.specs.declared.Refusal.TheVariants.{NotSetUp, NoBox, NoRow}
use Rattle.ledger.specs.Calls.{size_of}
use Rattle.ledger.specs.Histories.{Entry, if_accepted, is_lost, new_out, newest, newest_write, new_size, since_set_up, size_in_force, new_symbol}
use Rattle.ledger.specs.Laws.{IsLedger}
use Rattle.ledger.specs.Ledgers.{LedgerCall, Ledger, accept, contents, decide, step}
use Rattle.ledger.specs.declared.calls.Call.TheVariants.{SetUp, Put, Amend, Read, Column, Message, Lose, Renew, Rebuild}
use Rattle.ledger.proofs.Accepted.{whole}
use Rattle.ledger.proofs.Lists.{at_is, zero_at}
use Rattle.ledger.proofs.Newest.{after_last_here, after_last_more, newest_more}
use Rattle.ledger.proofs.Steps.{Clear, by_verdict}

module _ (Y : Symbols) where
  abbrev History : Type 0
  History = List (Entry Y)

  -- what a ledger holds is what its history says
  pub record Agrees (l : Ledger Y) (h : History) : Type 0 where
    pub size : l.state.size ≡ size_in_force Y h
    pub out : (b : ℕ) → l.state.out b ≡ is_lost Y h b
    pub newest : (b a : ℕ) → 1 ≤ b → b ≤ 3 * size_of l.state → a < 2 ^ size_of l.state
        → contents Y (size_of l.state) l.file (b - 1) a ≡ newest_write Y (size_of l.state) h b a

  -- a history with one more entry
  module _ (h : History) (e : Entry Y) where
    abbrev longer : History
    longer = h ++ e ∷ []

    abbrev is_set_up : Entry Y → Bool
    is_set_up x = is_some (if_accepted Y (new_size Y) x)

    size_more : size_in_force Y longer ≡ option_or (if_accepted Y (new_size Y) e) (size_in_force Y h)
    size_more = newest_more (if_accepted Y (new_size Y)) h e

    -- that is no set up
    module _ (no : is_set_up e ≡ false) where
      since_more : {X : Type 0} (says : Entry Y → Option X) → newest says (since_set_up Y longer) ≡ option_or (says e) (newest says (since_set_up Y h))
      since_more says = ap (newest says) (after_last_more is_set_up h e no) ∙ newest_more says (since_set_up Y h) e

      lost_more : (b : ℕ) → is_lost Y longer b ≡ unwrap_or (option_or (if_accepted Y (new_out Y b) e) (newest (if_accepted Y (new_out Y b)) (since_set_up Y h))) false
      lost_more b = ap (λ o. unwrap_or o false) (since_more (if_accepted Y (new_out Y b)))

      write_more : (m b a : ℕ) → newest_write Y m longer b a ≡ unwrap_or (option_or (if_accepted Y (new_symbol Y m b a) e) (newest (if_accepted Y (new_symbol Y m b a)) (since_set_up Y h))) Y.ring.zero
      write_more m b a = ap (λ o. unwrap_or o Y.ring.zero) (since_more (if_accepted Y (new_symbol Y m b a)))

    -- that is one
    module _ (yes : is_set_up e ≡ true) where
      since_none : since_set_up Y longer ≡ []
      since_none = after_last_here is_set_up h e yes

      none_lost : (b : ℕ) → is_lost Y longer b ≡ false
      none_lost b = ap (λ s. unwrap_or (newest (if_accepted Y (new_out Y b)) s) false) since_none

      none_written : (m b a : ℕ) → newest_write Y m longer b a ≡ Y.ring.zero
      none_written m b a = ap (λ s. unwrap_or (newest (if_accepted Y (new_symbol Y m b a)) s) Y.ring.zero) since_none

  -- An entry that sets nothing up, after a history: it is enough that boxes and symbols are what the entry says, or what they were.
  turn : (l next : Ledger Y) (h : History) (e : Entry Y) → Agrees l h → if_accepted Y (new_size Y) e ≡ None → next.state.size ≡ l.state.size
      → ((b : ℕ) (o : Option Bool) → l.state.out b ≡ unwrap_or o false → next.state.out b ≡ unwrap_or (option_or (if_accepted Y (new_out Y b) e) o) false)
      → ((b a : ℕ) (o : Option Y.Symbol) → let m = size_of l.state in 1 ≤ b → b ≤ 3 * m → a < 2 ^ m → contents Y m l.file (b - 1) a ≡ unwrap_or o Y.ring.zero
      → contents Y m next.file (b - 1) a ≡ unwrap_or (option_or (if_accepted Y (new_symbol Y m b a) e) o) Y.ring.zero)
      → Agrees next (h ++ e ∷ [])
  turn l next h e agrees none same boxes symbols =
      let plain : is_some (if_accepted Y (new_size Y) e) ≡ false = ap is_some none in
      let m : ℕ = size_of l.state in
      let s : size_of l.state ≡ size_of next.state = ap (λ o. unwrap_or o 0) (sym same) in
      record {
        size = same ∙ agrees.size ∙ sym (size_more h e ∙ ap (λ o. option_or o (size_in_force Y h)) none);
        out = λ b. boxes b (newest (if_accepted Y (new_out Y b)) (since_set_up Y h)) (agrees.out b) ∙ sym (lost_more h e plain b);
        newest = λ b a first.
            subst (λ (k : ℕ). b ≤ 3 * k → a < 2 ^ k → contents Y k next.file (b - 1) a ≡ newest_write Y k (h ++ e ∷ []) b a) s
            (λ last row. symbols b a (newest (if_accepted Y (new_symbol Y m b a)) (since_set_up Y h)) first last row (agrees.newest b a first last row) ∙ sym (write_more h e plain m b a));
      }

  loses : (t : Bool) (was : Bool) (o : Option Bool) → was ≡ unwrap_or o false → (t || was) ≡ unwrap_or (option_or (cond t (Some true) None) o) false
  loses true was o k = refl
  loses false was o k = k

  renews : (t : Bool) (was : Bool) (o : Option Bool) → was ≡ unwrap_or o false → (not t && was) ≡ unwrap_or (option_or (cond t (Some false) None) o) false
  renews true was o k = refl
  renews false was o k = k

  -- one symbol of a file is amended
  module _ (m d c : ℕ) (x : Y.Symbol) (file : List Y.Symbol) (whole : length file ≡ 3 * m * 2 ^ m) (some : 1 ≤ d) (data_box : d ≤ 3 * m) (inside : c < 2 ^ m) where
    abbrev place : ℕ
    place = (d - 1) * 2 ^ m + c

    within : (b a : ℕ) → b ≤ 3 * m → 1 ≤ b → a < 2 ^ m → (b - 1) * 2 ^ m + a < length file
    within b a last first row = omega (arith, whole, mul-add-lt (b - 1) (2 ^ m) a (3 * m) (omega arith) row)

    amends : (b a : ℕ) → 1 ≤ b → a < 2 ^ m → (t : Bool) → (d == b && c == a) ≡ t → (o : Option Y.Symbol) → contents Y m file (b - 1) a ≡ unwrap_or o Y.ring.zero
        → contents Y m (slice_set file place x) (b - 1) a ≡ unwrap_or (option_or (cond t (Some x) None) o) Y.ring.zero
    amends b a first row true e o k =
        let parts = and_parts (d == b) (c == a) e in
        let i : (b - 1) * 2 ^ m + a ≡ place =
        ap (λ n. (n - 1) * 2 ^ m + a) (sym (eqb-true d b parts.0)) ∙ ap (λ n. (d - 1) * 2 ^ m + n) (sym (eqb-true c a parts.1)) in
        at_is Y (slice_set file place x) ((b - 1) * 2 ^ m + a) ∙ ap (λ j. get_or (slice_set file place x) j Y.ring.zero) i
        ∙ get_or-set_same file place x Y.ring.zero (within d c data_box some inside)
    amends b a first row false e o k =
        let apart : (b - 1) * 2 ^ m + a ≢ place =
        λ same. let w = same_from_place (b - 1) a (d - 1) c (2 ^ m) row inside same in
        both_ways _ e (and_from (d == b) (c == a) (eq-eqb d b (let n = w.0 in omega arith)) (eq-eqb c a (sym w.1))) in
        at_is Y (slice_set file place x) ((b - 1) * 2 ^ m + a) ∙ get_or-set_other file place ((b - 1) * 2 ^ m + a) x Y.ring.zero apart
        ∙ sym (at_is Y file ((b - 1) * 2 ^ m + a)) ∙ k

  module _ (l : Ledger Y) (h : History) (agrees : Agrees l h) (lawful : IsLedger Y l) where
    abbrev entry : LedgerCall Y → Entry Y
    entry call = (call, (accept Y l call).reply)

    -- box and row of an amendment that no refusal fits
    named : (d c : ℕ) (x : Y.Symbol) (work : List Y.Symbol) → Clear Y l (Amend d c x work) → (1 ≤ d) × (d ≤ 3 * size_of l.state)
    named d c x work clear = let box = clear NoBox in (grind arith, grind arith)

    rowed : (d c : ℕ) (x : Y.Symbol) (work : List Y.Symbol) → Clear Y l (Amend d c x work) → c < 2 ^ size_of l.state
    rowed d c x work clear = let row = clear NoRow in grind arith

    accepts : (call : LedgerCall Y) → Clear Y l call → Agrees (accept Y l call).next (h ++ entry call ∷ [])
    accepts (SetUp k) clear = record {
      size = sym (size_more h (entry (SetUp k)));
      out = λ b. sym (none_lost h (entry (SetUp k)) refl b);
      newest = λ b a first last row. zero_at Y (3 * k * 2 ^ k) ((b - 1) * 2 ^ k + a) ∙ sym (none_written h (entry (SetUp k)) refl k b a);
    }
    accepts (Put file) clear = turn l _ h (entry (Put file)) agrees refl refl (λ b o k. k) (λ b a o first last row k. refl)
    accepts (Amend d c x work) clear = turn l _ h (entry (Amend d c x work)) agrees refl refl (λ b o k. k) (λ b a o first last row k. amends (size_of l.state) d c x l.file (whole Y l lawful (clear NotSetUp)) (named d c x work clear).0 (named d c x work clear).1 (rowed d c x work clear) b a first row _ refl o k)
    accepts (Read into) clear = turn l l h (entry (Read into)) agrees refl refl (λ b o k. k) (λ b a o first last row k. k)
    accepts (Column b into) clear = turn l l h (entry (Column b into)) agrees refl refl (λ b o k. k) (λ b a o first last row k. k)
    accepts (Message helper lost into) clear = turn l l h (entry (Message helper lost into)) agrees refl refl (λ b o k. k) (λ b a o first last row k. k)
    accepts (Lose d) clear = turn l _ h (entry (Lose d)) agrees refl refl (λ b. loses (d == b) (l.state.out b)) (λ b a o first last row k. k)
    accepts (Renew d work) clear = turn l _ h (entry (Renew d work)) agrees refl refl (λ b. renews (d == b) (l.state.out b)) (λ b a o first last row k. k)
    accepts (Rebuild work) clear = turn l _ h (entry (Rebuild work)) agrees refl refl (λ b o k. refl) (λ b a o first last row k. k)

    pub agrees_on : (call : LedgerCall Y) → Agrees (step Y l call).next (h ++ (call, (step Y l call).reply) ∷ [])
    agrees_on call =
        by_verdict Y l call (λ o. Agrees o.next (h ++ (call, o.reply) ∷ []))
        (λ why. turn l l h (call, (decide Y l (Some why) call).reply) agrees refl refl (λ b o k. k) (λ b a o first last row k. k))
        (accepts call)
