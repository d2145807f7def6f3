-- What writing a column of a file to a box of a stripe leads to. Assumes nothing.
use Rattle.std.proofs.Common.{◌≡◌, ℕ, suc, ◌+◌, ◌^◌, ◌<◌, Bool, true, false, ◌&&◌, ◌||◌, ◌==◌, nat_lt, List, length, refl, sym, ap, ap₂, ◌∙◌, subst, inl, inr, add-one, arith, true≢false}
use Rattle.std.proofs.lemmas.Bool.{cases_eq, or_parts}
use Rattle.std.proofs.lemmas.Bool.Decides.{nat_tests}
use Rattle.field.specs.Symbols.{Symbols}
use Rattle.code.specs.Codes.{File, column, full}
use Rattle.code.specs.Contents.{Holds, at}
use Rattle.shelf.specs.Meaning.{IsShelf, Meaning, is_standing}
use Rattle.shelf.specs.Rows.{rows_at, rows_of, with_rows}
use Rattle.stripe.specs.Stripes.{has_stripe, held, stands}
use Rattle.stripe.proofs.Held.{only_then, stripe_rows}
use Rattle.stripe.proofs.Writes.{only_written, others_stay, rows_hold}
use Rattle.filing.specs.Rewriting.{Rewritten}

module _ (Y : Symbols) {T : Type 0} (v : T → Y.Symbol) (m from : ℕ) (f : File (full Y m)) where
  abbrev All : (ℕ → Bool) → Meaning T → Meaning T → Type 0
  All p = Rewritten Y v m from f p

  -- a box that is written, if it stands
  abbrev pub only_box : ℕ → Meaning T → ℕ → Bool
  only_box b s d = d == b && stands s d

  -- the column xs of the file is written to its box
  pub box_written : (b : ℕ) (s s1 t : Meaning T) (xs : List T) → s1 ≡ s → IsShelf s → has_stripe m from s ≡ true → is_standing s (b + 1) ≡ true → length xs ≡ 2 ^ m → Holds Y v (2 ^ m) xs (column (full Y m) f b)
      → t ≡ with_rows s1 (b + 1) from xs → All (only_box b s) s t
  box_written b s s1 t xs same i there up long holds after = record {
    only = only_written from (suc b) s t xs is m long;
    holds = λ d e a l. let here : d ≡ b = grind (arith, nat_tests) in subst (λ k. held Y v m from t k a ≡ column (full Y m) f k a) (sym here) (ap (λ ys. at Y v ys a) rows ∙ holds a l);
    others = λ d e. elim (cases_eq d b) [
      | inl h ↦ let stand' : stands s d ≡ true = ap (stands s) h ∙ stand in absurd (grind (arith, nat_tests))
      | inr n ↦ others_stay from (suc b) s t xs is (suc d) (λ h. n (omega arith))
    ];
  }
    where
      stand : stands s b ≡ true
      stand = ap (is_standing s) (sym (add-one b)) ∙ up

      is : t ≡ with_rows s (suc b) from xs
      is = after ∙ ap₂ (λ k n. with_rows k n from xs) same (add-one b)

      rows : rows_at t (suc b) from (2 ^ m) ≡ xs
      rows = rows_hold from (suc b) s t xs is m long i (stripe_rows m from s (suc b) there stand)

  -- some boxes, and then others
  rewritten_then : (p q r : ℕ → Bool) (s s1 s2 : Meaning T) → ((d : ℕ) → r d ≡ (p d || q d)) → All p s s1 → All q s1 s2 → All r s s2
  rewritten_then p q r s s1 s2 like one two = record {
    only = only_then m from s s1 s2 one.only two.only;
    holds = λ d e a l. by d a l (sym (like d) ∙ e) (q d) refl;
    others = λ d e. let n = or_parts (p d) (q d) (sym (like d) ∙ e) in two.others d n.1 ∙ one.others d n.0;
  }
    where
      first : (t : Bool) → (t || false) ≡ true → t ≡ true
      first true e = refl
      first false e = absurd (true≢false (sym e))

      by : (d a : ℕ) → a < 2 ^ m → (p d || q d) ≡ true → (t : Bool) → q d ≡ t → held Y v m from s2 d a ≡ column (full Y m) f d a
      by d a l e true h = two.holds d h a l
      by d a l e false h = ap (λ o. at Y v (rows_of o from (2 ^ m)) a) (two.others d h) ∙ one.holds d (first (p d) (ap (λ t. p d || t) (sym h) ∙ e)) a l

  -- box after box: those in the places below b that stand are written, and then the next if it stands
  abbrev pub Below : ℕ → Meaning T → Meaning T → Type 0
  Below b s s1 = All (λ d. nat_lt d b && stands s d) s s1

  pub next_box : (b : ℕ) (s s1 s2 : Meaning T) → Below b s s1 → All (only_box b s1) s1 s2 → Below (b + 1) s s2
  next_box b s s1 s2 below here = rewritten_then (λ d. nat_lt d b && stands s d) (only_box b s1) (λ d. nat_lt d (b + 1) && stands s d) s s1 s2 like below here
    where
      like : (d : ℕ) → (nat_lt d (b + 1) && stands s d) ≡ ((nat_lt d b && stands s d) || only_box b s1 d)
      like d = let same : stands s1 d ≡ stands s d = below.only.stand (suc d) in grind (arith, nat_tests)
