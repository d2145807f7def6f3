-- An accepted amendment goes as the ledger's. Assumes nothing.
use Rattle.std.proofs.Common.{◌≡◌, ◌≢◌, ℕ, ◌+◌, ◌-◌, ◌*◌, ◌^◌, ◌<◌, ⊎_elim, ◌&&◌, ◌==◌, if◌then◌else◌, List, length, get_or, slice_set, Some, refl, sym, ap, ap₂, ◌∙◌, arith, get_or-set_other, get_or-set_same}
use Rattle.std.proofs.lemmas.List.{length-set}
use Rattle.std.proofs.lemmas.Nat.{mul-add-lt, same_from_place}
use Rattle.field.specs.Symbols.{Symbols}
use Rattle.code.specs.Codes.{full}
use Rattle.code.specs.Contents.{parts}
use Rattle.code.specs.Laws.{Same}
use Rattle.refusal.specs.declared.Refusal.TheVariants.{NoBox, NoRow}
use Rattle.shelf.specs.Meaning.{Meaning}
use Rattle.amending.specs.Amendments.{Amended, with_cell}
use Rattle.amending.proofs.Moves.{by_place, cell_else, cell_here}
use Rattle.ledger.specs.Calls.{lent, size_of}
use Rattle.ledger.specs.Ledgers.{Ledger, accept, contents}
use Rattle.ledger.specs.declared.calls.Answer.{Answer}
use Rattle.ledger.specs.declared.calls.Answer.TheVariants.{Done, Count}
use Rattle.ledger.specs.declared.calls.Call.TheVariants.{Amend}
use Rattle.ledger.proofs.Accepted.{still}
use Rattle.ledger.proofs.Lists.{at_is}
use Rattle.ledger.proofs.Steps.{Clear}
use Rattle.vault_calls.specs.Calls.{Accepts}
use Rattle.vault_laws.specs.Agreement.{Agrees, told_call}
use Rattle.vault_laws.proofs.Agreeing.{agreeing, holds_same, out_same, size_is}
use Rattle.vault_laws.proofs.Buffers.{long_as}
use Rattle.vault_laws.proofs.Files.{is_set_up, same_list, the_file}
use Rattle.vault_laws.proofs.Going.{Goes}

-- a file with one symbol set, by its cells
module _ (Y : Symbols) (m b a place : ℕ) (x : Y.Symbol) (file : List Y.Symbol) (row : a < 2 ^ m) (is : place ≡ b * 2 ^ m + a) (inside : place < length file) where
  set_cell : (e r : ℕ) → r < 2 ^ m → with_cell Y b a x (contents Y m file) e r ≡ contents Y m (slice_set file place x) e r
  set_cell e r l = by_place b a e r
      (λ p.
      let here : e * 2 ^ m + r ≡ place = ap₂ (λ j k. j * 2 ^ m + k) p.0 p.1 ∙ sym is in
      cell_here Y b a x (contents Y m file) e r p.0 p.1
      ∙ sym (at_is Y (slice_set file place x) (e * 2 ^ m + r) ∙ ap (λ j. get_or (slice_set file place x) j Y.ring.zero) here ∙ get_or-set_same file place x Y.ring.zero inside))
      (λ n.
      let apart : e * 2 ^ m + r ≢ place = λ q. let w = same_from_place e r b a (2 ^ m) l row (q ∙ is) in ⊎_elim (λ o. o w.0) (λ o. o w.1) n in
      cell_else Y b a x (contents Y m file) e r n ∙ at_is Y file (e * 2 ^ m + r)
      ∙ sym (at_is Y (slice_set file place x) (e * 2 ^ m + r) ∙ get_or-set_other file place (e * 2 ^ m + r) x Y.ring.zero apart))

module _ (Y : Symbols) {T : Type 0} (value : T → Y.Symbol) where
  module _ (l : Ledger Y) (m : ℕ) (s s' : Meaning T) (agrees : Agrees Y value l (Some m) s) (b a : ℕ) (y : T) (work buffer : List T)
      (clear : Clear Y l (told_call Y value (Amend b a y work))) (long : length buffer ≡ length work) (did : Amended Y value m 0 (b - 1) a (value y) s s' buffer) where
    abbrev place : ℕ
    place = (b - 1) * 2 ^ size_of l.state + a

    abbrev amended : List Y.Symbol
    amended = slice_set l.file place (value y)

    whole_set : length amended ≡ 3 * m * 2 ^ m
    whole_set = length-set l.file place (value y) ∙ (is_set_up Y value l m s agrees).whole

    whole : length buffer ≡ 3 * m * 2 ^ m
    whole = long_as Y value l agrees.lawful (Amend b a y work) buffer clear long ∙ whole_set

    was : Same (full Y m) did.file (contents Y m l.file)
    was = the_file Y value l m s agrees did.file did.was

    cells : Same (full Y m) (parts Y value (2 ^ m) buffer) (contents Y m amended)
    cells e h r w =
        let size = size_is Y value l m s agrees in
        let box = clear NoBox in
        let rowed = clear NoRow in
        let data_box : b - 1 < 3 * m = grind arith in
        let row : a < 2 ^ m = let p = ap (λ k. 2 ^ k) size in grind arith in
        let is : place ≡ (b - 1) * 2 ^ m + a = ap (λ k. (b - 1) * 2 ^ k + a) size in
        let inside : place < length l.file = omega (arith, is, (is_set_up Y value l m s agrees).whole, mul-add-lt (b - 1) (2 ^ m) a (3 * m) data_box row) in
        did.buffered e h r w ∙ ap (λ z. if e == b - 1 && r == a then value y else z) (was e h r w)
        ∙ set_cell Y m (b - 1) a place (value y) l.file row is inside e r w

    goes : Goes Y value (accept Y l (told_call Y value (Amend b a y work))) Done buffer (Some m) s'
    goes =
        let alike = holds_same Y value l m s agrees in
        record {
          answer = refl;
          buffer_is = sym (same_list Y value m buffer amended whole whole_set cells);
          agrees = agreeing Y value _ m s' (still Y l agrees.lawful _ clear) (did.moved.only.boxes ∙ agrees.boxes) (did.moved.only.rows ∙ agrees.rows) agrees.sized
              (λ d. out_same s s' d did.moved.only.boxes (did.moved.only.stand d) ∙ agrees.out m refl d)
              (alike s' (parts Y value (2 ^ m) buffer) (contents Y m amended) cells
              (did.holds (alike s (contents Y m l.file) did.file (λ e h r w. sym (was e h r w)) (agrees.holds m refl))));
        }

  pub amend_goes : (l : Ledger Y) (m : ℕ) (s s' : Meaning T) → Agrees Y value l (Some m) s → (b a : ℕ) (y : T) (work : List T) (x : Answer) (buffer : List T)
      → Clear Y l (told_call Y value (Amend b a y work)) → length buffer ≡ length (lent (Amend b a y work)) → Accepts Y value m s s' (Amend b a y work) x buffer
      → Goes Y value (accept Y l (told_call Y value (Amend b a y work))) x buffer (Some m) s'
  amend_goes l m s s' agrees b a y work Done buffer clear long did = goes l m s s' agrees b a y work buffer clear long did
  amend_goes l m s s' agrees b a y work (Count n) buffer clear long did = absurd did
