-- The buffer that a renewal leaves halves in. Assumes nothing.
use Rattle.std.proofs.Common.{◌≡◌, ℕ, zero, suc, ◌+◌, ◌-◌, ◌*◌, ◌^◌, ◌<◌, ◌≤◌, List, ◌++◌, length, map, take, drop, get_or, mul-le-mul_right, pow-suc, sym, ap, ap₂, ◌∙◌, arith}
use Rattle.std.proofs.lemmas.List.{get_or-take, length-take-le, map-append, take-append-drop, take-map}
use Rattle.std.proofs.lemmas.Nat.{mul-add-lt}
use Rattle.field.specs.Symbols.{Symbols}
use Rattle.code.specs.Codes.{full, half_for, helper}
use Rattle.code.specs.Contents.{parts}
use Rattle.shelf.specs.Meaning.{Meaning}
use Rattle.stripe.specs.Stripes.{held}
use Rattle.ledger.proofs.Lists.{joined, joined_held}
use Rattle.vault_calls.specs.Calls.{BoxRenewed}

-- a buffer for a file has room for the halves, and for a column behind them
room : (m : ℕ) → 1 ≤ m → (3 * m + 1) * 2 ^ (m - 1) + 2 ^ m ≤ 3 * m * 2 ^ m
room zero h = absurd (omega arith)
room (suc k) h =
    let twice : 2 ^ suc k ≡ 2 * 2 ^ k = omega (arith, pow-suc 2 k) in
    let p = 2 ^ k in
    let less : suc k - 1 ≡ k = omega arith in
    let e : 2 ^ (suc k - 1) ≡ p = ap (λ n. 2 ^ n) less in
    let one : 1 * p ≤ suc k * p = mul-le-mul_right p h in
    rw e (rw twice (omega (arith, one)))

module _ (Y : Symbols) {T : Type 0} (value : T → Y.Symbol) (m : ℕ) (some : 1 ≤ m) (s s' : Meaning T) (b : ℕ) (work buffer : List T) (taken : ℕ) (long : length buffer ≡ 3 * m * 2 ^ m)
    (did : BoxRenewed Y value m s s' b work buffer taken) where
  abbrev count : ℕ
  count = (3 * m + 1) * 2 ^ (m - 1)

  -- number j of the helper in place h
  abbrev half_sent : ℕ → ℕ → Y.Symbol
  half_sent h = half_for (full Y m) (b - 1) (held Y value m 0 s (helper (full Y m) (b - 1) h))

  -- the halves are at the front, helpers in rising order, and behind them the buffer is what it was
  pub renewed_buffer : (half_of : ℕ → ℕ → Y.Symbol) → ((h j : ℕ) → h < 3 * m + 1 → j < 2 ^ (m - 1) → half_sent h j ≡ half_of h j)
      → map value buffer ≡ joined (2 ^ (m - 1)) half_of 0 (3 * m + 1) ++ map value (drop count work)
  renewed_buffer half_of are =
      ap (map value) (sym (take-append-drop count buffer)) ∙ map-append value (take count buffer) (drop count buffer)
      ∙ ap₂ ◌++◌ (joined_held Y value (2 ^ (m - 1)) (3 * m + 1) half_of (take count buffer) (length-take-le count buffer (omega (arith, long, room m some))) number) (ap (map value) did.rest)
    where
      number : (h j : ℕ) → h < 3 * m + 1 → j < 2 ^ (m - 1) → parts Y value (2 ^ (m - 1)) (take count buffer) h j ≡ half_of h j
      number h j i w =
          let place = h * 2 ^ (m - 1) + j in
          ap (λ ys. get_or ys place Y.ring.zero) (sym (take-map value count buffer))
          ∙ get_or-take count (map value buffer) place Y.ring.zero (omega (arith, mul-add-lt h (2 ^ (m - 1)) j (3 * m + 1) i w))
          ∙ did.renewed.taken h i j w ∙ are h j i w
