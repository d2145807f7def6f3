-- What an agreement of a vault with a ledger shows, and what shows one. Assumes nothing.
use Rattle.std.specs.List.{range_with_len}
use Rattle.std.proofs.Common.{◌≡◌, ℕ, suc, ◌+◌, ◌*◌, ◌<◌, count_by, not, ◌&&◌, nat_le, unwrap_or, Some, sym, ap, ap₂, ◌∙◌, subst, arith, tests}
use Rattle.std.proofs.lemmas.Option.{same_Some}
use Rattle.field.specs.Symbols.{Symbols}
use Rattle.code.specs.Codes.{Alike, File, column, full}
use Rattle.code.specs.Laws.{Same}
use Rattle.code.specs.Standing.{standing}
use Rattle.code.proofs.Stands.{same_columns}
use Rattle.code.proofs.Theory.{proper}
use Rattle.missing.proofs.Counts.{as_many}
use Rattle.shelf.specs.Meaning.{Meaning, box_count, is_out, is_standing}
use Rattle.stripe.specs.Stripes.{HoldsFile, stands}
use Rattle.ledger.specs.Calls.{boxes_of, out_count, size_of}
use Rattle.ledger.specs.Calls.{stands as ledger_stands}
use Rattle.ledger.specs.Laws.{IsLedger}
use Rattle.ledger.specs.Ledgers.{Ledger, contents}
use Rattle.ledger.proofs.Counts.{all_boxes}
use Rattle.vault_laws.specs.Agreement.{Agrees}
use Rattle.vault_laws.proofs.Files.{is_set_up}

-- a box that stands as it did is out as it was
pub out_same : {T : Type 0} (s t : Meaning T) (b : ℕ) → box_count t ≡ box_count s → is_standing t b ≡ is_standing s b → is_out t b ≡ is_out s b
out_same s t b = ap₂ (λ n u. (nat_le 1 b && nat_le b n) && not u)

module _ (Y : Symbols) {T : Type 0} (value : T → Y.Symbol) where
  -- it is enough to look at one size
  pub agreeing : (l : Ledger Y) (m : ℕ) (s : Meaning T) → IsLedger Y l → box_count s ≡ l.state.boxes → s.rows ≡ l.state.rows → Some m ≡ l.state.size
      → ((b : ℕ) → is_out s b ≡ l.state.out b) → HoldsFile Y value m 0 s (contents Y m l.file) → Agrees Y value l (Some m) s
  agreeing l m s lawful boxes rows sized out holds = record {
    lawful = lawful;
    boxes = boxes;
    rows = rows;
    sized = sized;
    out = λ k e. out;
    holds = λ k e. subst (λ (i : ℕ). HoldsFile Y value i 0 s (contents Y i l.file)) (same_Some m k e) holds;
  }

  module _ (l : Ledger Y) (m : ℕ) (s : Meaning T) (agrees : Agrees Y value l (Some m) s) where
    pub size_is : size_of l.state ≡ m
    size_is = ap (λ o. unwrap_or o 0) (sym agrees.sized)

    pub box_count_is : box_count s ≡ 3 * m + 2
    box_count_is = agrees.boxes ∙ (is_set_up Y value l m s agrees).boxes

    -- the boxes that stand are those that the ledger does not call out, and as many
    pub stand_is : (b : ℕ) → b < 3 * m + 2 → stands s b ≡ ledger_stands l.state b
    stand_is b h =
        let boxes = box_count_is in
        let out : is_out s (suc b) ≡ l.state.out (suc b) = agrees.out m (λ i. Some m) (suc b) in
        grind (arith, tests)

    pub out_and_standing : out_count l.state + standing (stands s) (3 * m + 2) ≡ 3 * m + 2
    out_and_standing =
        ap₂ ◌+◌ (ap (λ k. count_by l.state.out (range_with_len 1 (boxes_of k))) size_is) (as_many (stands s) (ledger_stands l.state) (3 * m + 2) stand_is) ∙ all_boxes l.state.out (3 * m + 2)

    -- where files are the same, so are their columns, and boxes that hold one hold the other
    pub columns_same : (f g : File (full Y m)) → Same (full Y m) f g → (b : ℕ) → b < 3 * m + 2 → Alike (full Y m) (column (full Y m) f b) (column (full Y m) g b)
    columns_same = let u = is_set_up Y value l m s agrees in same_columns (full Y m) (proper Y m u.some u.marks)

    pub holds_same : (t : Meaning T) (f g : File (full Y m)) → Same (full Y m) f g → HoldsFile Y value m 0 t f → HoldsFile Y value m 0 t g
    holds_same t f g same holds b h there a w = holds b h there a w ∙ columns_same f g same b h a w
