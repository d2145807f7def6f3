-- Vaults that hold the same in all boxes but two hold the same. Assumes nothing.
use Rattle.std.proofs.Common.{◌≡◌, ◌≢◌, ℕ, ◌+◌, ◌*◌, ◌<◌, ◌≤◌, true, List, Option, Some, None, refl, sym, ◌∙◌, subst, arith}
use Rattle.std.proofs.lemmas.List.{map-id}
use Rattle.field.specs.Symbols.{Symbols}
use Rattle.code.specs.Codes.{Alike, column, full}
use Rattle.code.specs.Laws.{CabinetsStand, Same}
use Rattle.shelf.specs.Meaning.{Meaning}
use Rattle.stripe.specs.Stripes.{stands}
use Rattle.ledger.specs.Calls.{out_count}
use Rattle.ledger.specs.Ledgers.{Ledger, contents}
use Rattle.ledger.specs.declared.calls.Call.{Call}
use Rattle.vault_calls.specs.Calls.{Reply}
use Rattle.vault_laws.specs.Agreement.{Agrees}
use Rattle.vault_laws.specs.Laws.{AgreeBut, AgreeIn, AnyBoxes}
use Rattle.vault_laws.specs.Runs.{Run}
use Rattle.vault_laws.proofs.Agreeing.{out_and_standing}
use Rattle.vault_laws.proofs.Counts.{all_but_two}
use Rattle.vault_laws.proofs.FileReads.{agrees, file_read, ledger}
use Rattle.vault_laws.proofs.Files.{is_set_up, same_list}

module _ (Y : Symbols) {T : Type 0} (value : T → Y.Symbol) where
  few_out : (l : Ledger Y) (m : ℕ) (s : Meaning T) → Agrees Y value l (Some m) s → (x y : ℕ) → ((b : ℕ) → b < 3 * m + 2 → b ≢ x → b ≢ y → stands s b ≡ true) → out_count l.state ≤ 2
  few_out l m s agrees x y h = omega (arith, all_but_two (stands s) x y (3 * m + 2) h, out_and_standing Y value l m s agrees)

  module _ (cabinets : CabinetsStand Y) where
    module _ (k l : Ledger Y) (m : ℕ) (s t : Meaning T) (first : Agrees Y value k (Some m) s) (second : Agrees Y value l (Some m) t)
        (x y : ℕ) (hx : x < 3 * m + 2) (hy : y < 3 * m + 2) (apart : x ≢ y) (but : AgreeBut Y value m s t x y) where
      -- their files have the same columns in these boxes, so in all
      same : let f = contents Y m k.file in let g = contents Y m l.file in
          Same (full Y m) f g × ((b : ℕ) → b < 3 * m + 2 → Alike (full Y m) (column (full Y m) f b) (column (full Y m) g b))
      same =
          let u = is_set_up Y value k m s first in
          (cabinets m u.some u.marks).any_boxes x y hx hy apart (contents Y m k.file) (contents Y m l.file)
          (λ b inside nx ny a row.
          sym (first.holds m refl b inside (but.first b inside nx ny) a row) ∙ but.alike b inside nx ny a row
          ∙ second.holds m refl b inside (but.second b inside nx ny) a row)

      same_file : k.file ≡ l.file
      same_file =
          sym (map-id k.file) ∙ same_list Y (λ x. x) m k.file l.file (is_set_up Y value k m s first).whole (is_set_up Y value l m t second).whole same.0

      same_boxes : (b : ℕ) → b < 3 * m + 2 → stands s b ≡ true → stands t b ≡ true → AgreeIn Y value m s t b
      same_boxes b inside es et a row = first.holds m refl b inside es a row ∙ same.1 b inside a row ∙ sym (second.holds m refl b inside et a row)

    pub any_boxes : (s : Meaning T) (calls : List (Call T (List T))) (replies : List (Reply T)) (size' : Option ℕ) (s' : Meaning T)
        → Run Y value calls replies None s size' s' → AnyBoxes Y value s calls replies size' s'
    any_boxes s calls replies size' s' run t others answers t' m e run' x y hx hy apart but =
        let ran = subst (λ o. Run Y value calls replies None s o s') e run in
        let k : Ledger Y = ledger Y value s calls replies in
        let l : Ledger Y = ledger Y value t others answers in
        let first = agrees Y value s calls replies m s' ran in
        let second = agrees Y value t others answers m t' run' in
        record {
          read = λ r q reads readq.
              let here = file_read Y value s calls replies m s' ran (few_out k m s' first x y but.first) r reads in
              let there = file_read Y value t others answers m t' run' (few_out l m t' second x y but.second) q readq in
              (here.0, there.0, here.1 ∙ same_file k l m s' t' first second x y hx hy apart but ∙ sym there.1);
          boxes = same_boxes k l m s' t' first second x y hx hy apart but;
        }
