-- An accepted renewal goes as the ledger's. Assumes nothing.
use Rattle.std.proofs.Common.{◌≡◌, ◌≢◌, ℕ, suc, ◌+◌, ◌-◌, ◌*◌, ◌^◌, ◌<◌, ◌≤◌, true, false, not, ◌&&◌, ◌==◌, List, ◌++◌, length, map, drop, Some, Ok, is_some, inl, inr, refl, sym, ap, ◌∙◌, subst, arith, tests}
use Rattle.std.proofs.lemmas.Bool.{cases_eq}
use Rattle.std.proofs.lemmas.List.{drop-map, length-map}
use Rattle.field.specs.Symbols.{Symbols}
use Rattle.code.specs.Codes.{Alike, File, column, full, half_for, helper}
use Rattle.code.proofs.Stands.{same_halves}
use Rattle.code.proofs.Columns.{column_data}
use Rattle.refusal.specs.declared.Refusal.TheVariants.{Length, NoBox, NotRenewable, Standing}
use Rattle.shelf.specs.Meaning.{Meaning, is_out, is_standing}
use Rattle.stripe.specs.Stripes.{HoldsFile, held, stands}
use Rattle.stripe.proofs.Held.{held_same}
use Rattle.renewing.specs.Renewals.{OthersHold}
use Rattle.ledger.specs.Calls.{half_length, lent, size_of}
use Rattle.ledger.specs.Ledgers.{Ledger, accept, contents, halves_in}
use Rattle.ledger.specs.declared.calls.Answer.{Answer}
use Rattle.ledger.specs.declared.calls.Answer.TheVariants.{Done, Count}
use Rattle.ledger.specs.declared.calls.Call.TheVariants.{Renew}
use Rattle.ledger.proofs.Accepted.{still}
use Rattle.ledger.proofs.Steps.{Clear}
use Rattle.vault_calls.specs.Calls.{Accepts, BoxRenewed}
use Rattle.vault_laws.specs.Agreement.{Agrees, told_call}
use Rattle.vault_laws.proofs.Agreeing.{agreeing, out_and_standing, out_same, size_is, stand_is}
use Rattle.vault_laws.proofs.Counts.{others_stand}
use Rattle.vault_laws.proofs.Files.{is_set_up}
use Rattle.vault_laws.proofs.Going.{Goes}
use Rattle.vault_laws.proofs.Halves.{renewed_buffer}

module _ (Y : Symbols) {T : Type 0} (value : T → Y.Symbol) where
  module _ (l : Ledger Y) (m : ℕ) (s s' : Meaning T) (agrees : Agrees Y value l (Some m) s) (b : ℕ) (work : List T) (taken : ℕ) (buffer : List T)
      (clear : Clear Y l (told_call Y value (Renew b work))) (long : length buffer ≡ length work) (did : BoxRenewed Y value m s s' b work buffer taken) where
    abbrev f : File (full Y m)
    f = contents Y m l.file

    abbrev x : ℕ
    x = b - 1

    -- how many numbers are taken, and which they are
    abbrev count : ℕ
    count = (3 * m + 1) * 2 ^ (m - 1)

    abbrev half_of : ℕ → ℕ → Y.Symbol
    half_of h = half_for (full Y m) x (column (full Y m) f (helper (full Y m) x h))

    named : (1 ≤ b) × (b ≤ 3 * m)
    named =
        let size = size_is Y value l m s agrees in
        let box = clear NoBox in
        let parity = clear NotRenewable in
        (grind arith, grind arith)

    is : suc x ≡ b
    is = let n = named in omega arith

    out : stands s x ≡ false
    out =
        let n = named in
        let held = clear Standing in
        stand_is Y value l m s agrees x (omega arith) ∙ ap (λ i. not (l.state.out i)) is ∙ grind arith

    -- box b is the only one out, and the others have their columns of the ledger's file
    others : (d : ℕ) → d < 3 * m + 2 → d ≢ x → stands s d ≡ true
    others = others_stand (stands s) (3 * m + 2) x (let n = named in omega arith) out
        (let two = clear NotRenewable in let size = size_is Y value l m s agrees in let all = out_and_standing Y value l m s agrees in grind arith)

    hold : OthersHold Y value m 0 x s f
    hold d h apart = agrees.holds m refl d h (others d h apart)

    holds : HoldsFile Y value m 0 s' f
    holds d h now = elim (cases_eq d x) [
      | inl e ↦
          subst (λ i. Alike (full Y m) (held Y value m 0 s' i) (column (full Y m) f i)) (sym e)
          (λ a w. did.renewed.file f hold a w ∙ ap (λ C. C a) (sym (column_data (full Y m) f x (let n = named in omega arith))))
      | inr n ↦ λ a w. ap (λ C. C a) (held_same Y value m 0 s' s d (did.renewed.others (suc d) (λ q. n (omega arith)))) ∙ hold d h n a w
    ]

    out_now : (d : ℕ) → is_out s' d ≡ (not (b == d) && l.state.out d)
    out_now d = elim (cases_eq b d) [
      | inl e ↦ let here : is_standing s' d ≡ true = ap (is_standing s') (sym e ∙ sym is) ∙ did.put_in.here in grind (arith, tests)
      | inr n ↦
          let same : is_out s' d ≡ l.state.out d =
          out_same s s' d did.put_in.boxes (ap is_some (did.renewed.others d (λ q. n (sym is ∙ sym q)))) ∙ agrees.out m refl d
          in grind (arith, tests)
    ]

    whole : length work ≡ 3 * m * 2 ^ m
    whole =
        let wrong = clear Length in
        let file : 3 * size_of l.state * 2 ^ size_of l.state ≡ 3 * m * 2 ^ m = ap (λ k. 3 * k * 2 ^ k) (size_is Y value l m s agrees) in
        let told = length-map work value in
        grind arith

    -- the halves at the front of the buffer are the ledger's
    left : map value buffer ≡ halves_in Y m l.file x ++ map value (drop count work)
    left =
        let some = (is_set_up Y value l m s agrees).some in
        renewed_buffer Y value m some s s' b work buffer taken (long ∙ whole) did half_of
        (λ h j i w.
        let d = helper (full Y m) x h in
        same_halves (full Y m) some x (held Y value m 0 s d) (column (full Y m) f d) (hold d (grind (arith, tests)) (grind (arith, tests))) j w)

    goes : Goes Y value (accept Y l (told_call Y value (Renew b work))) (Count taken) buffer (Some m) s'
    goes =
        let size = size_is Y value l m s agrees in
        record {
          answer = ap (λ k. Ok (Count ((3 * k + 1) * half_length k))) size ∙ ap (λ n. Ok (Count n)) (sym did.count);
          buffer_is =
              ap (λ k. halves_in Y k l.file x ++ drop ((3 * k + 1) * half_length k) (map value work)) size
              ∙ ap (λ ys. halves_in Y m l.file x ++ ys) (drop-map value count work) ∙ sym left;
          agrees = agreeing Y value _ m s' (still Y l agrees.lawful _ clear) (did.put_in.boxes ∙ agrees.boxes) (did.put_in.rows ∙ agrees.rows) agrees.sized out_now holds;
        }

  pub renew_goes : (l : Ledger Y) (m : ℕ) (s s' : Meaning T) → Agrees Y value l (Some m) s → (b : ℕ) (work : List T) (x : Answer) (buffer : List T)
      → Clear Y l (told_call Y value (Renew b work)) → length buffer ≡ length (lent (Renew b work)) → Accepts Y value m s s' (Renew b work) x buffer
      → Goes Y value (accept Y l (told_call Y value (Renew b work))) x buffer (Some m) s'
  renew_goes l m s s' agrees b work Done buffer clear long did = absurd did
  renew_goes l m s s' agrees b work (Count n) buffer clear long did = goes l m s s' agrees b work n buffer clear long did
