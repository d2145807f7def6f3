-- What reading the columns of a stripe leads to. Assumes nothing.
use Rattle.std.proofs.Common.{◌≡◌, ℕ, suc, ◌+◌, ◌*◌, ◌^◌, ◌<◌, Bool, true, List, ◌-◌, drop, length, take, sym, ap, ap₂, ◌∙◌, subst, add-one, arith}
use Rattle.std.proofs.lemmas.Bool.{cond-true}
use Rattle.field.specs.Symbols.{Symbols}
use Rattle.code.specs.Codes.{Code, Column, File, data_boxes, full}
use Rattle.code.specs.Contents.{at, parts}
use Rattle.decoding.specs.Steps.{Replaced}
use Rattle.decoding.proofs.Parts.{lent_long, lent_replaced}
use borrow.Rule.Slice.PartMut.{put_mid}
use Rattle.code.specs.Standing.{Counts, FileOf, standing}
use Rattle.missing.specs.Missing.{Found, present}
use Rattle.missing.specs.declared.Missing.{Missing}
use Rattle.missing.proofs.Counts.{as_many}
use Rattle.missing.proofs.Presence.{present_found}
use Rattle.shelf.specs.Meaning.{Meaning}
use Rattle.shelf.specs.Rows.{has_rows, rows_at, rows_read}
use Rattle.stripe.proofs.Held.{stripe_rows}
use Rattle.stripe.specs.Stripes.{StripeFile, has_stripe, held, stands}

module _ {T : Type 0} (m from b : ℕ) (s : Meaning T) where
  column_read : (xs : List T) → has_stripe m from s ≡ true → stands s b ≡ true → length xs ≡ 2 ^ m → rows_read s (b + 1) from xs ≡ rows_at s (suc b) from (2 ^ m)
  column_read xs e h l =
      let there : has_rows s (b + 1) from (length xs) ≡ true = ap₂ (λ k n. has_rows s k from n) (add-one b) l ∙ stripe_rows m from s (suc b) e h in
      cond-true (has_rows s (b + 1) from (length xs)) (rows_at s (b + 1) from (length xs)) xs there ∙ ap₂ (λ k n. rows_at s k from n) (add-one b) l

-- the file is the same wherever the same boxes stand
module _ {A : Type 0} (c : Code A) (p q : ℕ → Bool) (like : (b : ℕ) → b < data_boxes c + 2 → p b ≡ q b) where
  as_many_below : (b : ℕ) → b < data_boxes c + 2 → standing p b ≡ standing q b
  as_many_below b l = as_many p q b (λ d k. like d (omega arith))

  file_like : (g : ℕ → Column c) (f : File c) → FileOf c p g f → FileOf c q g f
  file_like g f of = record {
    has = λ b l k. of.has b l (there b l k);
    only = λ f' fits. of.only f' (λ b l k. fits b l (here b l k));
  }
    where
      there : (b : ℕ) → b < data_boxes c + 2 → Counts c q b → Counts c p b
      there b l k = (like b l ∙ k.0, omega (arith, as_many_below b l, k.1))

      here : (b : ℕ) → b < data_boxes c + 2 → Counts c p b → Counts c q b
      here b l k = (sym (like b l) ∙ k.0, omega (arith, as_many_below b l, k.1))

-- the column of a box, read into a place of a file
pub place_read : (Y : Symbols) {T : Type 0} (v : T → Y.Symbol) (m from b x rows : ℕ) (s : Meaning T) (file lent : List T) → rows ≡ 2 ^ m → length file ≡ 3 * m * 2 ^ m → x < 3 * m → has_stripe m from s ≡ true → stands s b ≡ true
    → length lent ≡ length (take ((x + 1) * rows - x * rows) (drop (x * rows) file)) → lent ≡ rows_read s (b + 1) from (take ((x + 1) * rows - x * rows) (drop (x * rows) file))
    → Replaced (2 ^ m) x (parts Y v (2 ^ m) file) (held Y v m from s b) (parts Y v (2 ^ m) (put_mid (x * rows) ((x + 1) * rows - x * rows) file lent))
place_read Y v m from b x rows s file lent er whole inside there stand long is =
    lent_replaced Y v (2 ^ m) (3 * m) x rows er file whole inside lent _ long
    (λ a l. ap (λ ys. at Y v ys a) (is ∙ column_read m from b s _ there stand (lent_long Y v (2 ^ m) (3 * m) x rows er file whole inside)))

-- what was found, and what was read then, are of the shelf as it was before
module _ (Y : Symbols) {T : Type 0} (v : T → Y.Symbol) (m from : ℕ) (s s1 s2 : Meaning T) (e1 : s1 ≡ s) (e2 : s2 ≡ s1) (missing : Missing) (boxes : ℕ) (eb : boxes ≡ 3 * m) where
  pub file_read : Found (stands s1) (boxes + 2) missing → (f : File (full Y m)) → FileOf (full Y m) (present missing) (held Y v m from s2) f → StripeFile Y v m from s f
  file_read found f of =
      subst (λ k. StripeFile Y v m from k f) (e2 ∙ e1)
      (file_like (full Y m) (present missing) (stands s2) (λ b l. present_found (stands s2) (3 * m + 2) missing (subst (λ k. Found (stands k) (3 * m + 2) missing) (sym e2) (subst (λ n. Found (stands s1) (n + 2) missing) eb found)) b l) (held Y v m from s2) f of)
