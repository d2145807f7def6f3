-- Lemmas on what boxes hold in the rows of a stripe. Assumes nothing.
use Rattle.std.proofs.Common.{◌≡◌, ℕ, suc, ◌+◌, ◌-◌, ◌^◌, ◌<◌, ◌≤◌, true, map, Some, sym, ap, ◌∙◌, arith, tests}
use Rattle.std.proofs.lemmas.Option.{slice_get-map, unwrap_or-slice_get}
use Rattle.std.specs.Option.{option_map, unwrap_or}
use Rattle.field.specs.Symbols.{Symbols}
use Rattle.code.specs.Contents.{at}
use Rattle.shelf.specs.Meaning.{Meaning, column, is_standing, symbol_at}
use Rattle.shelf.specs.Rows.{has_rows, rows_at, rows_of}
use Rattle.shelf.proofs.Rows.{row_read}
use Rattle.stripe.specs.Stripes.{OnlyStripe, has_stripe, held}

module _ (Y : Symbols) {T : Type 0} (value : T → Y.Symbol) where
  -- what stands in a row
  at_symbol : (s : Meaning T) (b from n a : ℕ) → a < n → at Y value (rows_at s b from n) a ≡ unwrap_or (option_map value (symbol_at s b (from + a))) Y.ring.zero
  at_symbol s b from n a h =
      sym (unwrap_or-slice_get (map value (rows_at s b from n)) a Y.ring.zero)
      ∙ ap (λ o. unwrap_or o Y.ring.zero) (slice_get-map value (rows_at s b from n) a ∙ ap (option_map value) (row_read s b from n a h))

  pub at_row : (s : Meaning T) (b from n a : ℕ) (x : T) → a < n → symbol_at s b (from + a) ≡ Some x → at Y value (rows_at s b from n) a ≡ value x
  at_row s b from n a x h e = at_symbol s b from n a h ∙ ap (λ o. unwrap_or (option_map value o) Y.ring.zero) e

  -- a symbol is all that counts
  pub symbol_same : (m from : ℕ) (s t : Meaning T) (b a : ℕ) → a < 2 ^ m → symbol_at s (suc b) (from + a) ≡ symbol_at t (suc b) (from + a) → held Y value m from s b a ≡ held Y value m from t b a
  symbol_same m from s t b a h e =
      at_symbol s (suc b) from (2 ^ m) a h ∙ ap (λ o. unwrap_or (option_map value o) Y.ring.zero) e ∙ sym (at_symbol t (suc b) from (2 ^ m) a h)

  -- a box's column is all that counts
  pub held_same : (m from : ℕ) (s t : Meaning T) (b : ℕ) → column s (suc b) ≡ column t (suc b) → held Y value m from s b ≡ held Y value m from t b
  held_same m from s t b e = ap (λ c. at Y value (rows_of c from (2 ^ m))) e

  -- by the box's number
  pub held_number : (m from : ℕ) (s : Meaning T) (b : ℕ) → 1 ≤ b → held Y value m from s (b - 1) ≡ at Y value (rows_at s b from (2 ^ m))
  held_number m from s b h = let e : suc (b - 1) ≡ b = omega arith in ap (λ d. at Y value (rows_at s d from (2 ^ m))) e

-- one change of a stripe after another
pub only_then : {T : Type 0} (m from : ℕ) (s t u : Meaning T) → OnlyStripe m from s t → OnlyStripe m from t u → OnlyStripe m from s u
only_then m from s t u p q = record {
  boxes = q.boxes ∙ p.boxes;
  rows = q.rows ∙ p.rows;
  stand = λ b. q.stand b ∙ p.stand b;
  elsewhere = λ b a h. q.elsewhere b a h ∙ p.elsewhere b a h;
}

-- a box that stands has the rows of the stripe
pub stripe_rows : {T : Type 0} (m from : ℕ) (s : Meaning T) (b : ℕ) → has_stripe m from s ≡ true → is_standing s b ≡ true → has_rows s b from (2 ^ m) ≡ true
stripe_rows m from s b h e = grind (arith, tests)
