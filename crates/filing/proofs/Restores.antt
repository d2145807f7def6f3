-- What putting boxes in and writing their columns leads to. Assumes nothing.
use Rattle.std.proofs.Common.{◌≡◌, ◌≢◌, ℕ, suc, ◌+◌, ◌*◌, ◌<◌, Bool, true, false, not, ◌==◌, List, [], ◌∷◌, Some, None, is_some, option_map, refl, sym, ap, ap₂, ◌∙◌, subst, add-one, arith, tests}
use Rattle.std.proofs.lemmas.Bool.Decides.{nat_tests}
use Rattle.field.specs.Symbols.{Symbols}
use Rattle.code.specs.Codes.{File, full}
use Rattle.code.specs.Standing.{standing}
use Rattle.missing.specs.Missing.{Found, count, present}
use Rattle.missing.specs.declared.Missing.{Missing}
use Rattle.missing.specs.declared.Missing.TheVariants.{Nothing, One, Two}
use Rattle.missing.proofs.Counts.{none_count, one_count, two_count}
use Rattle.missing.proofs.Presence.{present_found}
use Rattle.refusal.specs.Refusals.{Reason, earliest, where_holds}
use Rattle.refusal.specs.declared.Refusal.{Refusal}
use Rattle.refusal.specs.declared.Refusal.TheVariants.{Out}
use Rattle.shelf.specs.Meaning.{Meaning, box_count, is_out, with_standing}
use Rattle.shelf.specs.Laws.{Inserted, ShelfLaws}
use Rattle.shelf.proofs.Meanings.{standing_inside}
use Rattle.stripe.specs.Stripes.{has_stripe, stands}
use Rattle.stripe_file.specs.Reasons.{listed_out, some_out}
use Rattle.filing.specs.Restoring.{HoldsZero, PutIn, Restored}
use Rattle.filing.specs.Rewriting.{Rewritten}

-- a reason that does not fit may stand in a list
pub earliest_with : (a b c d e : Reason) → None ≡ d → None ≡ earliest (a ∷ b ∷ c ∷ e ∷ []) → None ≡ earliest (a ∷ b ∷ c ∷ d ∷ e ∷ [])
earliest_with None None None d e n h = h ∙ ap (λ r. earliest (r ∷ e ∷ [])) n
earliest_with None None (Some w) d e n h = h
earliest_with None (Some w) c d e n h = h
earliest_with (Some w) b c d e n h = h

-- what a call that was not declined has asked for first
pub first_asked : (t : Bool) (why : Refusal) (rs : List Reason) → None ≡ earliest (where_holds (not t) why ∷ rs) → t ≡ true
first_asked true why rs e = refl
first_asked false why rs e = absurd (grind arith)

-- how many were found
pub found_count : (s : ℕ → Bool) (n : ℕ) (missing : Missing) → Found s n missing → count missing + standing s n ≡ n
found_count s n Nothing h = omega (arith, none_count s n h)
found_count s n (One x) h = omega (arith, one_count s n x h.0 h.1)
found_count s n (Two x y) h = omega (arith, two_count s n x y h.0 h.1 h.2)

module _ (Y : Symbols) {T : Type 0} (v : T → Y.Symbol) where
  -- one box is put in
  pub box_put_in : (b : ℕ) (s s1 : Meaning T) (x : T) → ShelfLaws T → is_out s (suc b) ≡ true → v x ≡ Y.ring.zero → s1 ≡ with_standing s (b + 1) x → PutIn Y v (λ d. d == b) s s1
  box_put_in b s s1 x laws out none after = subst (λ k. PutIn Y v (λ d. d == b) s k) (sym (after ∙ ap (λ k. with_standing s k x) (add-one b))) done
    where
      i : Inserted s (with_standing s (suc b) x) (suc b) x
      i = laws.inserted s (suc b) x

      done : PutIn Y v (λ d. d == b) s (with_standing s (suc b) x)
      done = record {
        boxes = i.sizes.boxes;
        rows = i.sizes.rows;
        stand = λ d h. let same : d ≡ b = grind (arith, nat_tests) in ap (stands (with_standing s (suc b) x)) same ∙ i.here out;
        zero = λ d a h l. let same : d ≡ b = grind (arith, nat_tests) in subst (λ k. HoldsZero Y v (with_standing s (suc b) x) k a) (sym same) (ap (option_map v) (i.filled out a l) ∙ ap Some none);
        others = λ d h. let n : d ≢ b = grind (arith, nat_tests) in i.others (suc d) (λ k. n (omega arith));
      }

-- what was asked for and what was not declined
pub none_listed : {T : Type 0} (missing : Missing) (s s1 : Meaning T) (boxes n : ℕ) → s1 ≡ s → boxes ≡ n → (t : Bool) → None ≡ where_holds t Out → t ≡ some_out (λ b. not (present missing b)) (stands s1) (boxes + 2)
    → None ≡ listed_out (n + 2) missing (stands s)
none_listed missing s s1 boxes n e eb t none is = none ∙ ap (λ t. where_holds t Out) (is ∙ ap₂ (λ k n. some_out (λ b. not (present missing b)) (stands k) (n + 2)) e eb)

module _ (Y : Symbols) {T : Type 0} (v : T → Y.Symbol) (m from : ℕ) (f : File (full Y m)) (missing : Missing) where
  -- the boxes that were found to be out are put in and written
  pub restored : (s s0 s1 s2 : Meaning T) → s0 ≡ s → has_stripe m from s ≡ true → Found (stands s) (3 * m + 2) missing → PutIn Y v (λ b. not (present missing b)) s0 s1
      → Rewritten Y v m from f (λ b. not (present missing b)) s1 s2 → Restored Y v m from f s s2
  restored s s0 s1 s2 e there found put wrote = record {
    boxes = wrote.only.boxes ∙ one.boxes;
    rows = wrote.only.rows ∙ one.rows;
    stand = λ b l. wrote.only.stand (suc b) ∙ by b l (stands s b) refl;
    holds = λ b l out. wrote.holds b (listed b l out);
    elsewhere = λ b a l out la h. ap (option_map v) (wrote.only.elsewhere (suc b) a h) ∙ one.zero b a (listed b l out) la;
    others = λ b h. let l : b < box_count s = omega (arith, (standing_inside s (suc b) h).1) in wrote.others b (kept b l h) ∙ one.others b (kept b l h);
  }
    where
      one : PutIn Y v (λ b. not (present missing b)) s s1
      one = subst (λ k. PutIn Y v (λ b. not (present missing b)) k s1) e put

      all : box_count s ≡ 3 * m + 2
      all = grind (arith, tests)

      listed : (b : ℕ) → b < box_count s → stands s b ≡ false → not (present missing b) ≡ true
      listed b l out = ap not (present_found (stands s) (3 * m + 2) missing found b (omega (arith, all)) ∙ out)

      kept : (b : ℕ) → b < box_count s → stands s b ≡ true → not (present missing b) ≡ false
      kept b l h = ap not (present_found (stands s) (3 * m + 2) missing found b (omega (arith, all)) ∙ h)

      by : (b : ℕ) → b < box_count s → (t : Bool) → stands s b ≡ t → stands s1 b ≡ true
      by b l true h = ap is_some (one.others b (kept b l h)) ∙ h
      by b l false h = one.stand b (listed b l h)
