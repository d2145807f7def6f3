-- No refusal fits a call that is not declined, and a size in force fits the field and the shelf. Assumes nothing.
use Rattle.std.proofs.Common.{◌≡◌, ℕ, ◌+◌, ◌*◌, ◌^◌, ◌≤◌, Bool, true, false, if◌then◌else◌, List, Option, Some, None, true≢false, unwrap_or, refl, sym, ap, ◌∙◌, subst, arith}
use Rattle.std.specs.Option.{is_none}
use Rattle.field.specs.Symbols.{Symbols}
use Rattle.refusal.specs.Refusals.{earliest}
use Rattle.refusal.specs.declared.Refusal.{Refusal}
use Rattle.refusal.specs.declared.Refusal.TheVariants.{Size, Marks, Shape}
use Rattle.shelf.specs.Meaning.{Meaning, box_count}
use Rattle.ledger.specs.Calls.{State, reasons, size_of}
use Rattle.ledger.specs.Fitting.{Fits}
use Rattle.ledger.specs.declared.calls.Call.{Call}
use Rattle.ledger.specs.declared.calls.Call.TheVariants.{SetUp}
use Rattle.ledger.proofs.Fitted.{among, are_tests}
use Rattle.ledger.proofs.Reasons.{none_among}
use Rattle.vault_calls.specs.States.{fits, in_force, shelf_state, state}

module _ (Y : Symbols) {T : Type 0} where
  pub none_fits : (t : State) (call : Call T (List T)) → earliest (reasons Y t call) ≡ None → (why : Refusal) → Fits Y t why call → ⊥
  none_fits t call e why f = none_among _ (ap earliest (sym (are_tests Y t T call)) ∙ e) why (among Y t T call why f)

  -- a size fits the field and the shelf
  pub record Fitted (m : ℕ) (s : Meaning T) : Type 0 where
    pub some : 1 ≤ m
    pub marks : 2 * m ≤ Y.marks
    pub boxes : box_count s ≡ 3 * m + 2
    pub rows : s.rows ≡ 2 ^ m

  module _ (s : Meaning T) where
    fitted : (m : ℕ) → fits Y s m ≡ true → Fitted m s
    fitted m e =
        let free = none_fits (shelf_state Y None s) (SetUp m) (none _ e) in
        let size = free Size in
        let marks = free Marks in
        let shape = free Shape in
        record {
          some = grind arith;
          marks = omega arith;
          boxes = grind arith;
          rows = grind arith;
        }
      where
        none : (o : Option Refusal) → is_none o ≡ true → o ≡ None
        none None e = refl
        none (Some why) e = absurd (true≢false (sym e))

    pub force_fits : (size : Option ℕ) → (in_force Y size s ≡ None → ⊥) → Fitted (size_of (state Y size s)) s
    force_fits None h = absurd (h refl)
    force_fits (Some m) h = by (fits Y s m) refl
      where
        by : (t : Bool) → fits Y s m ≡ t → Fitted (size_of (state Y (Some m) s)) s
        by true e = subst (λ (t : Bool). Fitted (unwrap_or (if t then Some m else None) 0) s) (sym e) (fitted m e)
        by false e = absurd (h (ap (λ (t : Bool). if t then Some m else None) e))
