-- What an accepted call leaves in its buffer is the same however often it is made, whatever the boxes hold. Assumes nothing.
use Rattle.std.proofs.Common.{◌≡◌, ℕ, ◌-◌, ◌*◌, ◌^◌, ◌&&◌, ◌==◌, if◌then◌else◌, List, length, map, sym, ap, ◌∙◌}
use Rattle.std.proofs.lemmas.List.{length-map}
use Rattle.field.specs.Symbols.{Symbols}
use Rattle.code.specs.Codes.{full}
use Rattle.code.specs.Contents.{parts}
use Rattle.code.specs.Laws.{Same}
use Rattle.shelf.specs.Meaning.{Meaning}
use Rattle.stripe.specs.Stripes.{StripeFile}
use Rattle.amending.specs.Amendments.{Amended}
use Rattle.ledger.proofs.Lists.{listed_held}
use Rattle.vault_calls.specs.Calls.{HalfSent}
use Rattle.vault_laws.proofs.Buffers.{contents_told}
use Rattle.vault_laws.proofs.Files.{same_list}
use Rattle.vault_laws.proofs.SameShelves.{one_file}

module _ (Y : Symbols) {T : Type 0} (value : T → Y.Symbol) (m : ℕ) (s s' s'' : Meaning T) (buffer buffer' : List T) where
  module _ (long : length buffer ≡ 3 * m * 2 ^ m) (long' : length buffer' ≡ 3 * m * 2 ^ m) where
    same_files : Same (full Y m) (parts Y value (2 ^ m) buffer) (parts Y value (2 ^ m) buffer') → map value buffer ≡ map value buffer'
    same_files same =
        same_list Y value m buffer (map value buffer') long (length-map buffer' value ∙ long')
        (λ e l r w. same e l r w ∙ ap (λ f. f e r) (sym (contents_told Y value m buffer')))

    pub file_buffer : StripeFile Y value m 0 s (parts Y value (2 ^ m) buffer) → StripeFile Y value m 0 s (parts Y value (2 ^ m) buffer') → map value buffer ≡ map value buffer'
    file_buffer is is' = same_files (one_file Y value m s _ _ is is')

    pub amend_buffer : (b a : ℕ) (x : Y.Symbol) → Amended Y value m 0 b a x s s' buffer → Amended Y value m 0 b a x s s'' buffer' → map value buffer ≡ map value buffer'
    amend_buffer b a x did did' =
        same_files λ e l r w.
        did.buffered e l r w ∙ ap (λ z. if e == b && r == a then x else z) (one_file Y value m s did.file did'.file did.was did'.was e l r w) ∙ sym (did'.buffered e l r w)

  pub message_buffer : (helper lost : ℕ) → length buffer ≡ 2 ^ (m - 1) → length buffer' ≡ 2 ^ (m - 1)
      → HalfSent Y value m s s' helper lost buffer → HalfSent Y value m s s'' helper lost buffer' → map value buffer ≡ map value buffer'
  message_buffer helper lost long long' did did' =
      listed_held Y value (2 ^ (m - 1)) _ buffer long did.half ∙ sym (listed_held Y value (2 ^ (m - 1)) _ buffer' long' did'.half)
