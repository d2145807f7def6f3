-- What an accepted call leaves: its buffer, and a ledger. Assumes nothing.
use Rattle.std.proofs.Common.{◌≡◌, ◌≢◌, ℕ, suc, ◌+◌, ◌-◌, ◌*◌, ◌^◌, ◌≤◌, inl, inr, Bool, true, not, ◌||◌, ◌==◌, List, ◌++◌, length, drop, unwrap_or, Option, Some, None, refl, sym, ap, ◌∙◌, subst, length-append, length-drop, arith}
use Rattle.std.proofs.lemmas.Bool.{and_parts, cases_eq, eqb-true, false≢true, or_cases}
use Rattle.std.proofs.Math.Nat.{pow-suc}
use Rattle.std.proofs.lemmas.Nat.{mul-add-lt, mul-le}
use Rattle.std.proofs.lemmas.List.{drop_at, get_or_append_left, length-set, length-replicate}
use Rattle.std.proofs.lemmas.Option.{none-some, same_Some}
use Rattle.field.specs.Symbols.{Symbols}
use Rattle.code.specs.Codes.{HasHalves, column, full, half_for, helper}
use Rattle.code.specs.Contents.{Holds, parts}
use Rattle.refusal.specs.declared.Refusal.TheVariants.{NotSetUp, Size, Marks, Shape, Length, NoBox}
use Rattle.ledger.specs.Calls.{lent, size_of, half_length}
use Rattle.ledger.specs.Laws.{IsLedger, IsSetUp, Leaves}
use Rattle.ledger.specs.Ledgers.{LedgerCall, Ledger, accept, contents, halves_in, listed}
use Rattle.ledger.specs.declared.calls.Call.TheVariants.{SetUp, Put, Amend, Read, Column, Message, Lose, Renew, Rebuild}
use Rattle.ledger.proofs.Lists.{at_is, get_or-joined, get_or-listed, length-joined, length-listed}
use Rattle.ledger.proofs.Steps.{Clear}

-- a renewal's halves have room in a buffer for a file
room : (m : ℕ) → 1 ≤ m → (3 * m + 1) * 2 ^ (m - 1) ≤ 3 * m * 2 ^ m
room m h =
    let e : m ≡ suc (m - 1) = omega arith in
    let p : 2 ^ m ≡ 2 ^ (m - 1) * 2 = ap (λ n. 2 ^ n) e ∙ pow-suc 2 (m - 1) in
    let q : (3 * m) * 2 ^ m ≡ 3 * m * (2 ^ (m - 1) * 2) = ap (λ n. 3 * m * n) p in
    let r : 1 * 2 ^ (m - 1) ≤ m * 2 ^ (m - 1) = mul-le 1 (2 ^ (m - 1)) m (2 ^ (m - 1)) h (omega arith) in
    omega arith

-- a length that is not wrong
fitting : {X : Type 0} (xs : List X) (n : ℕ) → (length xs ≢ n → ⊥) → length xs ≡ n
fitting xs n right = elim (cases_eq (length xs) n) [ inl e ↦ e | inr ne ↦ absurd (right ne) ]

pub some_size : (o : Option ℕ) → (o ≡ None → ⊥) → o ≡ Some (unwrap_or o 0)
some_size None h = absurd (h refl)
some_size (Some k) h = refl

module _ (Y : Symbols) where
  holds : (n : ℕ) (f : ℕ → Y.Symbol) → Holds Y (λ x. x) n (listed n f) f
  holds n f a h = at_is Y (listed n f) a ∙ get_or-listed n f a Y.ring.zero h

  module _ (l : Ledger Y) where
    abbrev m : ℕ
    m = size_of l.state

    -- the halves at the front of a renewal's buffer
    module _ (b : ℕ) (work : List Y.Symbol) where
      abbrev count : ℕ
      count = (3 * m + 1) * half_length m

      abbrev front : List Y.Symbol
      front = halves_in Y m l.file (b - 1)

      abbrev half : ℕ → ℕ → Y.Symbol
      half h = half_for (full Y m) (b - 1) (column (full Y m) (contents Y m l.file) (helper (full Y m) (b - 1) h))

      length_front : length front ≡ count
      length_front = length-joined (half_length m) half 0 (3 * m + 1)

      length_renewed : 1 ≤ m → length work ≡ 3 * m * 2 ^ m → length (front ++ drop count work) ≡ length work
      length_renewed some e =
          length-append front (drop count work) ∙ omega (arith, length_front, length-drop count work, room m some)

      halves : HasHalves (full Y m) (b - 1) (contents Y m l.file) (parts Y (λ x. x) (half_length m) (front ++ drop count work))
      halves h i j k =
          sym (
          at_is Y (front ++ drop count work) (h * half_length m + j)
          ∙ get_or_append_left front (drop count work) Y.ring.zero (h * half_length m + j)
          (omega (arith, length_front, mul-add-lt h (half_length m) j (3 * m + 1) (omega arith) k))
          ∙ get_or-joined (half_length m) half (3 * m + 1) 0 h j Y.ring.zero (omega arith) k
          ∙ ap (λ i. half i j) (omega arith))

      rest : drop count (front ++ drop count work) ≡ drop count work
      rest = drop_at front (drop count work) count length_front

    pub leaves : (call : LedgerCall Y) → Leaves Y m (contents Y m l.file) call (accept Y l call).reply.buffer (accept Y l call).next.file
    leaves (SetUp k) = refl
    leaves (Put file) = refl
    leaves (Amend b a x work) = refl
    leaves (Read into) = refl
    leaves (Column b into) = holds _ _
    leaves (Message helper lost into) = holds _ _
    leaves (Lose b) = refl
    leaves (Renew b work) = (halves b work, rest b work)
    leaves (Rebuild work) = refl

    module _ (lawful : IsLedger Y l) where
      set_up_with : (l.state.size ≡ None → ⊥) → IsSetUp Y l m
      set_up_with h = lawful.set_up m (some_size l.state.size h)

      pub whole : (l.state.size ≡ None → ⊥) → length l.file ≡ 3 * m * 2 ^ m
      whole h = (set_up_with h).whole

      pub lengths : (call : LedgerCall Y) → Clear Y l call → length (accept Y l call).reply.buffer ≡ length (lent call)
      lengths (SetUp k) clear = refl
      lengths (Put file) clear = refl
      lengths (Amend b a x work) clear = length-set l.file _ x ∙ whole (clear NotSetUp) ∙ sym (fitting work _ (clear Length))
      lengths (Read into) clear = whole (clear NotSetUp) ∙ sym (fitting into _ (clear Length))
      lengths (Column b into) clear = length-listed _ _ ∙ sym (fitting into _ (clear Length))
      lengths (Message helper lost into) clear = length-listed _ _ ∙ sym (fitting into _ (clear Length))
      lengths (Lose b) clear = refl
      lengths (Renew b work) clear = length_renewed b work (set_up_with (clear NotSetUp)).some (fitting work _ (clear Length))
      lengths (Rebuild work) clear = whole (clear NotSetUp) ∙ sym (fitting work _ (clear Length))

      -- with other boxes out, or another file of the same length, it is a ledger still
      abbrev with_out : (ℕ → Bool) → Ledger Y
      with_out out = record { state = record { boxes = l.state.boxes; rows = l.state.rows; size = l.state.size; out = out }; file = l.file }

      other_out : (out : ℕ → Bool) → (l.state.size ≡ None → ⊥) → ((d : ℕ) → out d ≡ true → (1 ≤ d) × (d ≤ l.state.boxes)) → IsLedger Y (with_out out)
      other_out out some numbered = record {
        set_up = λ k e. let s = lawful.set_up k e in record { some = s.some; most = s.most; marks = s.marks; boxes = s.boxes; rows = s.rows; whole = s.whole };
        numbered = numbered;
        as_made = λ e. absurd (some e);
      }

      other_file : (file : List Y.Symbol) → (l.state.size ≡ None → ⊥) → length file ≡ 3 * m * 2 ^ m → IsLedger Y (record { state = l.state; file = file })
      other_file file some e = record {
        set_up = λ k is. let s = lawful.set_up k is in record { some = s.some; most = s.most; marks = s.marks; boxes = s.boxes; rows = s.rows; whole = e ∙ ap (λ o. 3 * unwrap_or o 0 * 2 ^ unwrap_or o 0) is };
        numbered = lawful.numbered;
        as_made = λ e. absurd (some e);
      }

      -- a set up that no refusal fits
      newly : (k : ℕ) → Clear Y l (SetUp k) → IsLedger Y (accept Y l (SetUp k)).next
      newly k clear =
          let size = clear Size in
          let marks = clear Marks in
          let shape = clear Shape in
          record {
            set_up = λ j e. subst (λ (i : ℕ). IsSetUp Y (accept Y l (SetUp k)).next i) (same_Some k j e) (record {
              some = grind arith;
              most = grind arith;
              marks = omega arith;
              boxes = elim (cases_eq l.state.boxes (3 * k + 2)) [ inl e ↦ e | inr ne ↦ absurd (shape (inl ne)) ];
              rows = elim (cases_eq l.state.rows (2 ^ k)) [ inl e ↦ e | inr ne ↦ absurd (shape (inr ne)) ];
              whole = length-replicate (3 * k * 2 ^ k) Y.ring.zero;
            });
            numbered = λ b e. absurd (false≢true e);
            as_made = λ e. absurd (none-some k (sym e));
          }

      lost : (b : ℕ) → Clear Y l (Lose b) → (d : ℕ) → (b == d || l.state.out d) ≡ true → (1 ≤ d) × (d ≤ l.state.boxes)
      lost b clear d h = elim (or_cases (b == d) (l.state.out d) h) [
        | inl e ↦
            let out = clear NoBox in
            let same : b ≡ d = eqb-true b d e in
            let boxes : l.state.boxes ≡ 3 * m + 2 = (set_up_with (clear NotSetUp)).boxes in
            (grind arith, grind arith)
        | inr o ↦ lawful.numbered d o
      ]

      pub still : (call : LedgerCall Y) → Clear Y l call → IsLedger Y (accept Y l call).next
      still (SetUp k) clear = newly k clear
      still (Put file) clear = other_file file (clear NotSetUp) (fitting file _ (clear Length))
      still (Amend b a x work) clear = other_file _ (clear NotSetUp) (length-set l.file _ x ∙ whole (clear NotSetUp))
      still (Read into) clear = lawful
      still (Column b into) clear = lawful
      still (Message helper lost into) clear = lawful
      still (Lose b) clear = other_out _ (clear NotSetUp) (lost b clear)
      still (Renew b work) clear = other_out _ (clear NotSetUp) (λ d h. lawful.numbered d (and_parts (not (b == d)) (l.state.out d) h).1)
      still (Rebuild work) clear = other_out _ (clear NotSetUp) (λ d h. absurd (false≢true h))
