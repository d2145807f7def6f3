-- What shows that two shelves hold the same. Assumes nothing.
use Rattle.std.proofs.Common.{◌≡◌, ℕ, zero, suc, ◌^◌, ◌<◌, Bool, true, false, Some, is_some, inl, inr, refl, sym, ap, ◌∙◌, subst, arith, tests}
use Rattle.std.specs.Option.{option_map}
use Rattle.std.proofs.lemmas.Bool.{cases_lt}
use Rattle.field.specs.Symbols.{Symbols}
use Rattle.code.specs.Codes.{Alike, full}
use Rattle.shelf.specs.Meaning.{IsShelf, Meaning, box_count, is_standing, symbol_at, symbol_of}
use Rattle.shelf.proofs.Meanings.{out_column, standing_inside, symbol_at_there}
use Rattle.shelf.proofs.Places.{in_box_past}
use Rattle.stripe.specs.Stripes.{held, stands}
use Rattle.stripe.proofs.Held.{at_row}
use Rattle.vault_laws.specs.Determined.{HoldSame}

module _ (Y : Symbols) {T : Type 0} (value : T → Y.Symbol) where
  -- both are what a third is
  pub both_are : (s t u : Meaning T) → t ≡ s → u ≡ s → HoldSame Y value t u
  both_are s t u e d =
      subst (HoldSame Y value t) (e ∙ sym d) (record { boxes = refl; rows = refl; stand = λ b. refl; symbols = λ b a l. refl })

  module _ (s t : Meaning T) (boxes : box_count s ≡ box_count t) (rows : s.rows ≡ t.rows) (stand : (b : ℕ) → b < box_count s → stands s b ≡ stands t b) where
    -- beyond the last box none stands
    stand_same : (b : ℕ) → is_standing s b ≡ is_standing t b
    stand_same zero = refl
    stand_same (suc b) = elim (cases_lt b (box_count s)) [
      | inl l ↦ stand b l
      | inr n ↦ ap is_some (in_box_past s.boxes (suc b) (omega arith) ∙ sym (in_box_past t.boxes (suc b) (omega (arith, boxes))))
    ]

    -- only boxes that stand have symbols
    pub by_symbols : ((b a : ℕ) → b < box_count s → stands s b ≡ true → a < s.rows → option_map value (symbol_at s (suc b) a) ≡ option_map value (symbol_at t (suc b) a)) → HoldSame Y value s t
    by_symbols same = record { boxes = boxes; rows = rows; stand = stand_same; symbols = symbols }
      where
        symbols : (b a : ℕ) → a < s.rows → option_map value (symbol_at s b a) ≡ option_map value (symbol_at t b a)
        symbols zero a l = refl
        symbols (suc b) a l = by (stands s b) refl
          where
            by : (u : Bool) → stands s b ≡ u → option_map value (symbol_at s (suc b) a) ≡ option_map value (symbol_at t (suc b) a)
            by true e = same b a (omega (arith, (standing_inside s (suc b) e).1)) e l
            by false e = ap (λ o. option_map value (symbol_of o a)) (out_column s (suc b) e ∙ sym (out_column t (suc b) (sym (stand_same (suc b)) ∙ e)))

    -- in shelves that have no more rows than the stripe, the columns are all
    module _ (m : ℕ) (long : s.rows ≡ 2 ^ m) (shelf : IsShelf s) (other : IsShelf t) where
      symbol_held : (u : Meaning T) → IsShelf u → u.rows ≡ 2 ^ m → (b a : ℕ) → stands u b ≡ true → a < 2 ^ m → option_map value (symbol_at u (suc b) a) ≡ Some (held Y value m 0 u b a)
      symbol_held u sound k b a e l =
          let there = symbol_at_there u sound (suc b) a (grind (arith, tests)) in
          ap (option_map value) there.1
          ∙ ap Some (sym (at_row Y value u (suc b) 0 (2 ^ m) a there.0 l (ap (symbol_at u (suc b)) (omega arith) ∙ there.1)))

      pub by_columns : ((b : ℕ) → b < box_count s → stands s b ≡ true → Alike (full Y m) (held Y value m 0 s b) (held Y value m 0 t b)) → HoldSame Y value s t
      by_columns same =
          by_symbols λ b a inside e l.
          let row : a < 2 ^ m = omega (arith, long) in
          symbol_held s shelf long b a e row ∙ ap Some (same b inside e a row) ∙ sym (symbol_held t other (sym rows ∙ long) b a (sym (stand b inside) ∙ e) row)
