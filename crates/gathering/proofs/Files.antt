-- A file whose halves are in the store. Assumes nothing.
use Rattle.std.proofs.Common.{◌≡◌, ℕ, suc, ◌+◌, ◌-◌, ◌*◌, ◌^◌, ◌<◌, ◌≤◌, ◌≢◌, Bool, true, false, not, ◌||◌, ◌==◌, List, refl, sym, ap, ◌∙◌, subst, arith}
use Rattle.std.proofs.lemmas.Bool.Decides.{nat_tests}
use Rattle.std.proofs.lemmas.List.Folds.{Any-from_list_any}
use Rattle.std.specs.List.{All}
use Rattle.field.specs.Symbols.{Symbols}
use Rattle.code.specs.Codes.{File, Given, HasHalves, column, full, half_for, helper}
use Rattle.code.specs.Contents.{Holds, at, parts}
use Rattle.code.specs.Recovery.{seat}
use Rattle.code.proofs.Seats.{seat_helper, helper_apart, helper_most}
use Rattle.columns.proofs.Slices.{part}
use Rattle.gathering.specs.Gatherings.{BringHalves, Heard, Renewed, half_in, missing, sent}
use Rattle.gathering.specs.declared.states.Message.{Message}
use Rattle.gathering.proofs.Boxes.{each_box}

-- a helper that is not missing sent a message
was_sent : (b lost : ℕ) (s : Bool) → b ≢ lost → not (b == lost || s) ≡ false → s ≡ true
was_sent b lost true other h = refl
was_sent b lost false other h = grind (arith, nat_tests)

module _ (Y : Symbols) {S : Type 0} (v : S → Y.Symbol) (m lost : ℕ) (first : 1 ≤ lost) (data_box : lost ≤ 3 * m) (messages : List (Message S)) (store : List S)
    (heard : All (Heard m lost store) messages) (all : missing (3 * m + 2) lost (sent messages) ≡ false) where
  has_halves : (f : File (full Y m)) → BringHalves Y v m lost messages f → HasHalves (full Y m) (lost - 1) f (parts Y v (2 ^ (m - 1)) store)
  has_halves f bring h hl j jl =
      let c = full Y m in
      let x = lost - 1 in
      let b = helper c x h + 1 in
      let most : helper c x h < suc (suc (3 * m)) = helper_most c x h (suc (3 * m)) hl in
      let other : b ≢ lost = λ same. helper_apart c x h (omega arith) in
      let came = was_sent b lost (sent messages b) other (each_box (λ k. not (k == lost || sent messages k)) (3 * m + 2) b all (omega arith) (omega arith)) in
      let found = Any-from_list_any (λ msg. msg.helper == b) messages came in
      let msg = found.1 in
      let is : msg.helper ≡ b = grind (arith, nat_tests, found.4) in
      let there = subst (Heard m lost store) found.3 (heard found.0 msg found.2) in
      let place_is : msg.helper - 1 ≡ helper c x h = omega arith in
      let brought = subst (λ y. Holds Y v (2 ^ (m - 1)) y.half.now (half_for c x (column c f (y.helper - 1)))) found.3 (bring found.0 msg found.2) in
      sym (brought j jl ∙ ap (λ k. half_for c x (column c f k) j) place_is)
      ∙ ap (λ s. at Y v s j) (sym there.placed)
      ∙ ap (λ k. at Y v (half_in (2 ^ (m - 1)) k store) j) (ap (seat x) place_is ∙ seat_helper c x h)
      ∙ part Y v store (2 ^ (m - 1)) h (h * 2 ^ (m - 1)) (2 ^ (m - 1)) refl refl j jl

  pub renewed : (into : List S) → Given (full Y m) (lost - 1) (parts Y v (2 ^ (m - 1)) store) (at Y v into) → Renewed Y v m lost messages store into
  renewed into given = record { file = λ f bring a l. sym (given f (has_halves f bring) a l); given = given; heard = heard }
