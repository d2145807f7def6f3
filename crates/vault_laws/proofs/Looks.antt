-- Calls that change nothing: a read, a column, a half for a lost box. Assumes nothing.
use Rattle.std.proofs.Common.{◌≡◌, ℕ, suc, ◌+◌, ◌-◌, ◌*◌, ◌^◌, ◌≤◌, true, List, length, Some, refl, sym, ap, ◌∙◌, subst, arith, tests}
use Rattle.field.specs.Symbols.{Symbols}
use Rattle.code.specs.Codes.{Alike, column, full}
use Rattle.code.specs.Contents.{at}
use Rattle.code.proofs.Stands.{same_halves}
use Rattle.refusal.specs.declared.Refusal.TheVariants.{NoBox, Out}
use Rattle.shelf.specs.Meaning.{Meaning, is_out, is_standing}
use Rattle.stripe.specs.Stripes.{held}
use Rattle.stripe.proofs.Held.{held_number}
use Rattle.ledger.specs.Calls.{lent}
use Rattle.ledger.specs.Ledgers.{Ledger, accept, column_in, contents, half_in}
use Rattle.ledger.specs.declared.calls.Answer.{Answer}
use Rattle.ledger.specs.declared.calls.Answer.TheVariants.{Done}
use Rattle.ledger.specs.declared.calls.Call.TheVariants.{Read, Column, Message}
use Rattle.ledger.proofs.Lists.{length-listed, listed_held}
use Rattle.ledger.proofs.Steps.{Clear}
use Rattle.vault_calls.specs.Calls.{Accepts}
use Rattle.vault_laws.specs.Agreement.{Agrees, told_call}
use Rattle.vault_laws.proofs.Agreeing.{box_count_is, size_is}
use Rattle.vault_laws.proofs.Buffers.{long_as}
use Rattle.vault_laws.proofs.Files.{is_set_up, the_list}
use Rattle.vault_laws.proofs.Going.{Goes}

module _ (Y : Symbols) {T : Type 0} (value : T → Y.Symbol) (l : Ledger Y) (m : ℕ) (s s' : Meaning T) (agrees : Agrees Y value l (Some m) s) where
  -- nothing has changed
  stays : s' ≡ s → Agrees Y value l (Some m) s'
  stays e = subst (Agrees Y value l (Some m)) (sym e) agrees

  pub read_goes : (into : List T) (x : Answer) (buffer : List T) → Clear Y l (told_call Y value (Read into)) → length buffer ≡ length (lent (Read into))
      → Accepts Y value m s s' (Read into) x buffer → Goes Y value (accept Y l (told_call Y value (Read into))) x buffer (Some m) s'
  read_goes into Done buffer clear long done = record {
    answer = refl;
    buffer_is = sym (the_list Y value l m s agrees buffer (long_as Y value l agrees.lawful (Read into) buffer clear long ∙ (is_set_up Y value l m s agrees).whole) done.file);
    agrees = stays done.stays;
  }
  read_goes into x buffer clear long done = absurd done

  -- a box that is not out holds its column of the ledger's file
  its_column : (b : ℕ) → 1 ≤ b → b ≤ 3 * m + 2 → (l.state.out b ≡ true → ⊥) → Alike (full Y m) (held Y value m 0 s (b - 1)) (column (full Y m) (contents Y m l.file) (b - 1))
  its_column b first last here =
      let e : suc (b - 1) ≡ b = omega arith in
      let boxes = box_count_is Y value l m s agrees in
      let out : is_out s b ≡ l.state.out b = agrees.out m refl b in
      let there : is_standing s b ≡ true = grind (arith, tests) in
      agrees.holds m refl (b - 1) (omega arith) (ap (is_standing s) e ∙ there)

  pub column_goes : (b : ℕ) (into : List T) (x : Answer) (buffer : List T) → Clear Y l (told_call Y value (Column b into)) → length buffer ≡ length (lent {T = T} (Column b into))
      → Accepts Y value m s s' (Column b into) x buffer → Goes Y value (accept Y l (told_call Y value (Column b into))) x buffer (Some m) s'
  column_goes b into Done buffer clear long done =
      let box = clear NoBox in
      let size = size_is Y value l m s agrees in
      let first : 1 ≤ b = grind arith in
      let last : b ≤ 3 * m + 2 = grind arith in
      record {
        answer = refl;
        buffer_is = ap (λ k. column_in Y k l.file b) size
            ∙ sym (listed_held Y value (2 ^ m) _ buffer (long_as Y value l agrees.lawful (Column b into) buffer clear long ∙ length-listed _ _ ∙ ap (λ k. 2 ^ k) size)
            (λ a k. ap (λ ys. at Y value ys a) done.column ∙ ap (λ C. C a) (sym (held_number Y value m 0 s b first)) ∙ its_column b first last (clear Out) a k));
        agrees = stays done.stays;
      }
  column_goes b into x buffer clear long done = absurd done

  pub message_goes : (helper lost : ℕ) (into : List T) (x : Answer) (buffer : List T) → Clear Y l (told_call Y value (Message helper lost into)) → length buffer ≡ length (lent {T = T} (Message helper lost into))
      → Accepts Y value m s s' (Message helper lost into) x buffer → Goes Y value (accept Y l (told_call Y value (Message helper lost into))) x buffer (Some m) s'
  message_goes helper lost into Done buffer clear long done =
      let box = clear NoBox in
      let size = size_is Y value l m s agrees in
      record {
        answer = refl;
        buffer_is = ap (λ k. half_in Y k l.file (lost - 1) (helper - 1)) size
            ∙ sym (listed_held Y value (2 ^ (m - 1)) _ buffer (long_as Y value l agrees.lawful (Message helper lost into) buffer clear long ∙ length-listed _ _ ∙ ap (λ k. 2 ^ (k - 1)) size)
            (λ j k. done.half j k ∙ same_halves (full Y m) (is_set_up Y value l m s agrees).some (lost - 1) _ _ (its_column helper (grind arith) (grind arith) (clear Out)) j k));
        agrees = stays done.stays;
      }
  message_goes helper lost into x buffer clear long done = absurd done
