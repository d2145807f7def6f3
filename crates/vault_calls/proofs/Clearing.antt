-- Boxes that are taken out and put in again with zero in every row. Assumes nothing.
use Rattle.std.proofs.Common.{◌≡◌, ℕ, suc, ◌+◌, ◌<◌, inl, inr, true, is_some, Some, option_map, refl, sym, ap, ◌∙◌, subst, add-one, arith, tests}
use Rattle.std.proofs.lemmas.Bool.{cases_eq}
use Rattle.field.specs.Symbols.{Symbols}
use Rattle.shelf.specs.Laws.{Inserted, ShelfLaws, Withdrawn}
use Rattle.shelf.specs.Meaning.{Meaning, box_count, is_out, symbol_of, with_out, with_standing}
use Rattle.stripe.specs.Stripes.{stands}
use Rattle.filing.specs.Restoring.{HoldsZero}
use Rattle.vault_calls.specs.Calls.{Cleared, ClearedBox}

module _ (Y : Symbols) {T : Type 0} (v : T → Y.Symbol) where
  pub box_cleared : (laws : ShelfLaws T) (b : ℕ) (s s1 s2 : Meaning T) (x : T) → v x ≡ Y.ring.zero → s1 ≡ with_out s (b + 1) → s2 ≡ with_standing s1 (b + 1) x → ClearedBox Y v b s s2
  box_cleared laws b s s1 s2 x none one two =
      subst (λ k. ClearedBox Y v b s k) (sym (two ∙ (λ i. with_standing (one i) (b + 1) x) ∙ ap (λ k. with_standing (with_out s k) k x) (add-one b))) done
    where
      out : Withdrawn s (with_out s (suc b)) (suc b)
      out = laws.withdrawn s (suc b)

      put : Inserted (with_out s (suc b)) (with_standing (with_out s (suc b)) (suc b) x) (suc b) x
      put = laws.inserted (with_out s (suc b)) (suc b) x

      vacant : b < box_count s → is_out (with_out s (suc b)) (suc b) ≡ true
      vacant l = let here = out.here in let sizes = out.sizes.boxes in grind (arith, tests)

      done : ClearedBox Y v b s (with_standing (with_out s (suc b)) (suc b) x)
      done = record {
        boxes = put.sizes.boxes ∙ out.sizes.boxes;
        rows = put.sizes.rows ∙ out.sizes.rows;
        stand = λ l. put.here (vacant l);
        zero = λ a l la. ap (option_map v) (put.filled (vacant l) a (omega (arith, out.sizes.rows))) ∙ ap Some none;
        others = λ d n. put.others d n ∙ out.others d n;
      }

  -- the boxes in the places below n are cleared
  pub record Below (n : ℕ) (s s' : Meaning T) : Type 0 where
    pub boxes : box_count s' ≡ box_count s
    pub rows : s'.rows ≡ s.rows
    pub stand : (b : ℕ) → b < n → b < box_count s → stands s' b ≡ true
    pub zero : (b a : ℕ) → b < n → b < box_count s → a < s.rows → HoldsZero Y v s' b a

  pub none_cleared : (s : Meaning T) → Below 0 s s
  none_cleared s = record { boxes = refl; rows = refl; stand = λ b l k. absurd (omega arith); zero = λ b a l k la. absurd (omega arith) }

  pub next_cleared : (n : ℕ) (s s1 s2 : Meaning T) → Below n s s1 → ClearedBox Y v n s1 s2 → Below (n + 1) s s2
  next_cleared n s s1 s2 below here = record {
    boxes = here.boxes ∙ below.boxes;
    rows = here.rows ∙ below.rows;
    stand = λ b l k. elim (cases_eq b n) [
      | inl e ↦ subst (λ d. stands s2 d ≡ true) (sym e) (here.stand (omega (arith, below.boxes)))
      | inr ne ↦ ap is_some (here.others (suc b) (λ e. ne (omega arith))) ∙ below.stand b (omega arith) k
    ];
    zero = λ b a l k la. elim (cases_eq b n) [
      | inl e ↦ subst (λ d. HoldsZero Y v s2 d a) (sym e) (here.zero a (omega (arith, below.boxes)) (omega (arith, below.rows)))
      | inr ne ↦ ap (λ o. option_map v (symbol_of o a)) (here.others (suc b) (λ e. ne (omega arith))) ∙ below.zero b a (omega arith) k la
    ];
  }

  pub all_cleared : (n : ℕ) (s s' : Meaning T) → n ≡ box_count s → Below n s s' → Cleared Y v s s'
  all_cleared n s s' e below = record {
    boxes = below.boxes;
    rows = below.rows;
    stand = λ b l. below.stand b (omega (arith, e)) l;
    zero = λ b a l la. below.zero b a (omega (arith, e)) l la;
  }
