-- Calls that change boxes and leave nothing to work out: a put, a loss, a set up. Assumes nothing.
use Rattle.std.proofs.Common.{◌≡◌, ◌≢◌, ℕ, zero, suc, ◌+◌, ◌*◌, ◌^◌, ◌<◌, ◌≤◌, true, false, ◌||◌, ◌==◌, List, length, map, is_some, Option, Some, inl, inr, refl, sym, ap, ◌∙◌, subst, true≢false, arith, tests}
use Rattle.std.proofs.lemmas.Bool.{cases_eq, cases_lt}
use Rattle.field.specs.Symbols.{Symbols}
use Rattle.refusal.specs.declared.Refusal.TheVariants.{NoBox}
use Rattle.shelf.specs.Meaning.{Meaning, box_count, column as box_column, is_out, is_standing, nothing, with_out}
use Rattle.shelf.proofs.Places.{in_box-with_other, in_box-with_same, length-with_box}
use Rattle.stripe.specs.Stripes.{HoldsFile, stands}
use Rattle.stripe.proofs.Held.{held_same}
use Rattle.ledger.specs.Calls.{lent}
use Rattle.ledger.specs.Ledgers.{Ledger, accept, contents}
use Rattle.ledger.specs.declared.calls.Answer.{Answer}
use Rattle.ledger.specs.declared.calls.Answer.TheVariants.{Done}
use Rattle.ledger.specs.declared.calls.Call.TheVariants.{SetUp, Put, Lose}
use Rattle.ledger.proofs.Accepted.{still}
use Rattle.ledger.proofs.Steps.{Clear}
use Rattle.vault_calls.specs.Calls.{Accepts}
use Rattle.vault_laws.specs.Agreement.{Agrees, told_call}
use Rattle.vault_laws.proofs.Agreeing.{agreeing, box_count_is, out_same, size_is}
use Rattle.vault_laws.proofs.Buffers.{contents_told}
use Rattle.vault_laws.proofs.Going.{Goes}
use Rattle.vault_laws.proofs.Zeros.{zero_column, zero_held}

module _ (Y : Symbols) {T : Type 0} (value : T → Y.Symbol) where
  module _ (l : Ledger Y) (m : ℕ) (s s' : Meaning T) (agrees : Agrees Y value l (Some m) s) where
    pub put_goes : (file : List T) (x : Answer) (buffer : List T) → Clear Y l (told_call Y value (Put file)) → length buffer ≡ length (lent (Put file))
        → Accepts Y value m s s' (Put file) x buffer → Goes Y value (accept Y l (told_call Y value (Put file))) x buffer (Some m) s'
    put_goes file Done buffer clear long done =
        let only = done.0.only in
        record {
          answer = refl;
          buffer_is = ap (map value) (sym done.1);
          agrees = agreeing Y value (accept Y l (told_call Y value (Put file))).next m s' (still Y l agrees.lawful (told_call Y value (Put file)) clear)
              (only.boxes ∙ agrees.boxes) (only.rows ∙ agrees.rows) agrees.sized (λ b. out_same s s' b only.boxes (only.stand b) ∙ agrees.out m refl b)
              (subst (HoldsFile Y value m 0 s') (sym (contents_told Y value m file)) done.0.holds);
        }
    put_goes file x buffer clear long done = absurd done

    -- box b is lost
    module _ (b : ℕ) where
      boxes_stay : box_count (with_out s b) ≡ box_count s
      boxes_stay = length-with_box s.boxes b nothing

      others : (d : ℕ) → d ≢ b → box_column (with_out s b) d ≡ box_column s d
      others d n = in_box-with_other s.boxes b d nothing (λ e. n (sym e))

      module _ (first : 1 ≤ b) (last : b ≤ box_count s) where
        gone : is_standing (with_out s b) b ≡ false
        gone = ap is_some (in_box-with_same s.boxes b nothing first last)

        now_out : (d : ℕ) → is_out (with_out s b) d ≡ (b == d || l.state.out d)
        now_out d =
            elim (cases_eq d b) [
              | inl e ↦
                  let boxes = boxes_stay in
                  let out : is_standing (with_out s b) d ≡ false = ap (is_standing (with_out s b)) e ∙ gone in
                  grind (arith, tests)
              | inr n ↦
                  let was : is_out (with_out s b) d ≡ l.state.out d = out_same s (with_out s b) d boxes_stay (ap is_some (others d n)) ∙ agrees.out m refl d in
                  grind (arith, tests)
            ]

        holds_yet : HoldsFile Y value m 0 (with_out s b) (contents Y m l.file)
        holds_yet d inside there a row =
            let apart : suc d ≢ b = λ e. true≢false (sym there ∙ ap (is_standing (with_out s b)) e ∙ gone) in
            let same = others (suc d) apart in
            ap (λ C. C a) (held_same Y value m 0 (with_out s b) s d same) ∙ agrees.holds m refl d inside (ap is_some (sym same) ∙ there) a row

    pub lose_goes : (b : ℕ) (x : Answer) (buffer : List T) → Clear Y l (told_call Y value (Lose b)) → length buffer ≡ length (lent {T = T} (Lose b))
        → Accepts Y value m s s' (Lose b) x buffer → Goes Y value (accept Y l (told_call Y value (Lose b))) x buffer (Some m) s'
    lose_goes b Done buffer clear long done =
        let box = clear NoBox in
        let size = size_is Y value l m s agrees in
        let boxes = box_count_is Y value l m s agrees in
        let first : 1 ≤ b = grind arith in
        let last : b ≤ box_count s = grind arith in
        record {
          answer = refl;
          buffer_is = ap (map value) (sym done.1);
          agrees = subst (Agrees Y value (accept Y l (told_call Y value (Lose b))).next (Some m)) (sym done.0)
              (agreeing Y value (accept Y l (told_call Y value (Lose b))).next m (with_out s b) (still Y l agrees.lawful (told_call Y value (Lose b)) clear)
              (boxes_stay b ∙ agrees.boxes) agrees.rows agrees.sized (now_out b first last) (holds_yet b first last));
        }
    lose_goes b x buffer clear long done = absurd done

  pub set_up_goes : (l : Ledger Y) (size : Option ℕ) (m : ℕ) (s s' : Meaning T) → Agrees Y value l size s → (k : ℕ) (x : Answer) (buffer : List T) → Clear Y l (told_call Y value (SetUp k))
      → length buffer ≡ length (lent {T = T} (SetUp k)) → Accepts Y value m s s' (SetUp k) x buffer → Goes Y value (accept Y l (told_call Y value (SetUp k))) x buffer (Some k) s'
  set_up_goes l size m s s' agrees k Done buffer clear long done =
      let still_ledger = still Y l agrees.lawful (told_call Y value (SetUp k)) clear in
      let ready = still_ledger.set_up k refl in
      let boxes : box_count s ≡ 3 * k + 2 = agrees.boxes ∙ ready.boxes in
      let rows : s.rows ≡ 2 ^ k = agrees.rows ∙ ready.rows in
      let all = done.0 in
      record {
        answer = refl;
        buffer_is = ap (map value) (sym done.1);
        agrees = agreeing Y value (accept Y l (told_call Y value (SetUp k))).next k s' still_ledger (all.boxes ∙ agrees.boxes) (all.rows ∙ agrees.rows) refl
            (none_out s s' all.boxes all.stand)
            (λ b inside there a row. zero_held Y value k s' b a row (all.zero b a (omega arith) (omega arith)) ∙ sym (zero_column Y k _ b a inside));
      }
    where
      none_out : (s t : Meaning T) → box_count t ≡ box_count s → ((b : ℕ) → b < box_count s → stands t b ≡ true) → (b : ℕ) → is_out t b ≡ false
      none_out s t boxes stand zero = refl
      none_out s t boxes stand (suc b) = elim (cases_lt b (box_count s)) [ inl l ↦ let there = stand b l in grind (arith, tests) | inr n ↦ grind (arith, tests) ]
  set_up_goes l size m s s' agrees k x buffer clear long done = absurd done
