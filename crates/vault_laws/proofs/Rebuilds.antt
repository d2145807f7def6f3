-- An accepted rebuild goes as the ledger's. Assumes nothing.
use Rattle.std.proofs.Common.{◌≡◌, ℕ, zero, suc, ◌*◌, ◌^◌, Bool, true, false, List, length, Some, Ok, inl, inr, refl, sym, ap, ◌∙◌, arith, tests}
use Rattle.std.proofs.lemmas.Bool.{cases_lt}
use Rattle.field.specs.Symbols.{Symbols}
use Rattle.code.specs.Codes.{Alike, column, full}
use Rattle.shelf.specs.Meaning.{Meaning, box_count, is_out}
use Rattle.stripe.specs.Stripes.{HoldsFile, held, stands}
use Rattle.stripe.proofs.Held.{held_same}
use Rattle.ledger.specs.Calls.{lent}
use Rattle.ledger.specs.Ledgers.{Ledger, accept, contents}
use Rattle.ledger.specs.declared.calls.Answer.{Answer}
use Rattle.ledger.specs.declared.calls.Answer.TheVariants.{Done, Count}
use Rattle.ledger.specs.declared.calls.Call.TheVariants.{Rebuild}
use Rattle.ledger.proofs.Accepted.{still}
use Rattle.ledger.proofs.Steps.{Clear}
use Rattle.vault_calls.specs.Calls.{Accepts, BoxesRebuilt}
use Rattle.vault_laws.specs.Agreement.{Agrees, told_call}
use Rattle.vault_laws.proofs.Agreeing.{agreeing, box_count_is, columns_same, out_and_standing}
use Rattle.vault_laws.proofs.Buffers.{long_as}
use Rattle.vault_laws.proofs.Files.{is_set_up, the_file, the_list}
use Rattle.vault_laws.proofs.Going.{Goes}

module _ (Y : Symbols) {T : Type 0} (value : T → Y.Symbol) where
  module _ (l : Ledger Y) (m : ℕ) (s s' : Meaning T) (agrees : Agrees Y value l (Some m) s) (work : List T) (restored : ℕ) (buffer : List T)
      (clear : Clear Y l (told_call Y value (Rebuild work))) (long : length buffer ≡ length work) (did : BoxesRebuilt Y value m s s' buffer restored) where
    whole : length buffer ≡ 3 * m * 2 ^ m
    whole = long_as Y value l agrees.lawful (Rebuild work) buffer clear long ∙ (is_set_up Y value l m s agrees).whole

    none_out : (b : ℕ) → is_out s' b ≡ false
    none_out zero = refl
    none_out (suc d) =
        let boxes = did.boxes.boxes in
        elim (cases_lt d (box_count s)) [
          | inl h ↦ let there = did.boxes.stand d h in grind (arith, tests)
          | inr h ↦ grind (arith, tests)
        ]

    -- the boxes that were out have their columns of the file in the buffer, and the others had theirs of the ledger's: the files are the same
    holds : HoldsFile Y value m 0 s' (contents Y m l.file)
    holds b h now = by (stands s b) refl
      where
        by : (t : Bool) → stands s b ≡ t → Alike (full Y m) (held Y value m 0 s' b) (column (full Y m) (contents Y m l.file) b)
        by true stood = λ a w. ap (λ C. C a) (held_same Y value m 0 s' s b (did.boxes.others b stood)) ∙ agrees.holds m refl b h stood a w
        by false out = λ a w.
            did.boxes.holds b (omega (arith, box_count_is Y value l m s agrees)) out a w
            ∙ columns_same Y value l m s agrees _ _ (the_file Y value l m s agrees _ did.file) b h a w

    goes : Goes Y value (accept Y l (told_call Y value (Rebuild work))) (Count restored) buffer (Some m) s'
    goes = record {
      answer = ap (λ n. Ok (Count n)) (omega (arith, did.count, out_and_standing Y value l m s agrees));
      buffer_is = sym (the_list Y value l m s agrees buffer whole did.file);
      agrees = agreeing Y value _ m s' (still Y l agrees.lawful _ clear) (did.boxes.boxes ∙ agrees.boxes) (did.boxes.rows ∙ agrees.rows) agrees.sized none_out holds;
    }

  pub rebuild_goes : (l : Ledger Y) (m : ℕ) (s s' : Meaning T) → Agrees Y value l (Some m) s → (work : List T) (x : Answer) (buffer : List T)
      → Clear Y l (told_call Y value (Rebuild work)) → length buffer ≡ length (lent (Rebuild work)) → Accepts Y value m s s' (Rebuild work) x buffer
      → Goes Y value (accept Y l (told_call Y value (Rebuild work))) x buffer (Some m) s'
  rebuild_goes l m s s' agrees work Done buffer clear long did = absurd did
  rebuild_goes l m s s' agrees work (Count n) buffer clear long did = goes l m s s' agrees work n buffer clear long did
