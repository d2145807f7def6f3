-- The zero file, and boxes that hold zero. Assumes nothing.
use Rattle.std.proofs.Common.{◌≡◌, ℕ, suc, ◌+◌, ◌*◌, ◌^◌, ◌<◌, [], ◌∷◌, Option, Some, None, refl, sym, ap, ◌∙◌, arith}
use Rattle.std.specs.Option.{option_map}
use Rattle.std.proofs.Math.Path.{fun_ext}
use Rattle.std.proofs.lemmas.Option.{none-some, same_Some}
use Rattle.field.specs.Symbols.{Symbols}
use Rattle.field.proofs.Solver.{i, o, ◌⊕◌, ◌≐◌, ◌⟸◌, ◌·◌, ⊝◌, ring_by}
use Rattle.code.specs.Codes.{column, full}
use Rattle.shelf.specs.Meaning.{Meaning, symbol_at}
use Rattle.stripe.specs.Stripes.{held}
use Rattle.stripe.proofs.Held.{at_row}
use Rattle.filing.specs.Restoring.{HoldsZero}
use Rattle.amending.proofs.Singles.{column_plus}
use Rattle.ledger.specs.Ledgers.{contents, zeros}
use Rattle.ledger.proofs.Lists.{zero_at}

module _ (Y : Symbols) where
  -- what is its own double is zero, and so is a column of the zero file
  own_double : (x : Y.Symbol) → x ≡ Y.ring.plus x x → x ≡ Y.ring.zero
  own_double x = ring_by Y.ring (x ∷ []) (λ x. x ≐ o ⟸ (⊝ i · x ≐ x ⊕ x) ∷ []) refl

  pub zero_column : (m n b a : ℕ) → b < 3 * m + 2 → column (full Y m) (contents Y m (zeros Y n)) b a ≡ Y.ring.zero
  zero_column m n b a inside =
      ap (λ f. column (full Y m) f b a) (fun_ext λ d. fun_ext λ r. zero_at Y n (d * 2 ^ m + r))
      ∙ own_double _ (ap (λ z. column (full Y m) (λ d r. z) b a) (sym (Y.ring.zero_plus Y.ring.zero)) ∙ column_plus (full Y m) (λ d r. Y.ring.zero) (λ d r. Y.ring.zero) b inside a)

  module _ {T : Type 0} (value : T → Y.Symbol) where
    some_of : (t : Option T) (y : Y.Symbol) → option_map value t ≡ Some y → (x : T) × (t ≡ Some x) × (value x ≡ y)
    some_of None y e = absurd (none-some y e)
    some_of (Some x) y e = (x, refl, same_Some (value x) y e)

    pub zero_held : (m : ℕ) (s : Meaning T) (b a : ℕ) → a < 2 ^ m → HoldsZero Y value s b a → held Y value m 0 s b a ≡ Y.ring.zero
    zero_held m s b a row h =
        let x = some_of (symbol_at s (suc b) a) Y.ring.zero h in
        at_row Y value s (suc b) 0 (2 ^ m) a x.0 row (ap (symbol_at s (suc b)) (omega arith) ∙ x.1) ∙ x.2
