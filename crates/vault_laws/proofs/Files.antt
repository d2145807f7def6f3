-- The file of a vault that is as a ledger says is the ledger's. Assumes nothing.
use Rattle.std.proofs.Common.{◌≡◌, ℕ, ◌+◌, ◌*◌, ◌/◌, ◌%◌, ◌^◌, ◌<◌, List, length, map, get_or, Some, refl, sym, ap, ◌∙◌, arith}
use Rattle.std.proofs.lemmas.List.{ext_get_or, length-map}
use Rattle.std.proofs.lemmas.Nat.{div-add-mod', div_below, mod_below, pow_pos}
use Rattle.field.specs.Symbols.{Symbols}
use Rattle.code.specs.Codes.{File, full}
use Rattle.code.specs.Contents.{parts}
use Rattle.code.specs.Laws.{Same}
use Rattle.shelf.specs.Meaning.{Meaning}
use Rattle.stripe.specs.Stripes.{StripeFile}
use Rattle.ledger.specs.Laws.{IsSetUp}
use Rattle.ledger.specs.Ledgers.{Ledger, contents}
use Rattle.ledger.proofs.Lists.{at_is}
use Rattle.vault_laws.specs.Agreement.{Agrees}

module _ (Y : Symbols) {T : Type 0} (value : T → Y.Symbol) where
  -- lists of a file's symbols are equal where the files are the same
  pub same_list : (m : ℕ) (xs : List T) (ys : List Y.Symbol) → length xs ≡ 3 * m * 2 ^ m → length ys ≡ 3 * m * 2 ^ m
      → Same (full Y m) (parts Y value (2 ^ m) xs) (contents Y m ys) → map value xs ≡ ys
  same_list m xs ys lx ly same =
      ext_get_or Y.ring.zero (map value xs) ys (length-map xs value ∙ lx ∙ sym ly)
      (λ i l.
      let some : 0 < 2 ^ m = pow_pos m in
      let part = div_below i (2 ^ m) (3 * m) some (omega (arith, length-map xs value)) in
      let row = mod_below i (2 ^ m) some in
      let place : i / 2 ^ m * 2 ^ m + i % 2 ^ m ≡ i = div-add-mod' i (2 ^ m) in
      ap (λ j. get_or (map value xs) j Y.ring.zero) (sym place) ∙ same (i / 2 ^ m) part (i % 2 ^ m) row
      ∙ at_is Y ys (i / 2 ^ m * 2 ^ m + i % 2 ^ m) ∙ ap (λ j. get_or ys j Y.ring.zero) place)

  module _ (l : Ledger Y) (m : ℕ) (s : Meaning T) (agrees : Agrees Y value l (Some m) s) where
    pub is_set_up : IsSetUp Y l m
    is_set_up = agrees.lawful.set_up m (sym agrees.sized)

    -- every standing box has its column of the ledger's file, so that is the one file of the stripe
    pub the_file : (f : File (full Y m)) → StripeFile Y value m 0 s f → Same (full Y m) f (contents Y m l.file)
    the_file f is b inside a row = sym (is.only (contents Y m l.file) (λ d below stands r h. sym (agrees.holds m refl d below stands.0 r h)) b inside a row)

    pub the_list : (xs : List T) → length xs ≡ 3 * m * 2 ^ m → StripeFile Y value m 0 s (parts Y value (2 ^ m) xs) → map value xs ≡ l.file
    the_list xs long is = same_list m xs l.file long is_set_up.whole (the_file (parts Y value (2 ^ m) xs) is)
