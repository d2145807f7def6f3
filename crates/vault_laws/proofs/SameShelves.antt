-- What an accepted call leaves of a shelf is the same however often it is made from there, whatever the boxes hold. Assumes nothing.
use Rattle.std.proofs.Common.{◌≡◌, ◌≢◌, ℕ, suc, ◌+◌, ◌-◌, ◌*◌, ◌^◌, ◌<◌, Bool, true, false, List, is_some, inl, inr, refl, sym, ap, ◌∙◌, subst, arith}
use Rattle.std.proofs.lemmas.Bool.{cases_eq}
use Rattle.field.specs.Symbols.{Symbols}
use Rattle.code.specs.Blocks.{◌∸◌}
use Rattle.code.specs.Codes.{Alike, File, HasHalves, column, full}
use Rattle.code.specs.Contents.{parts}
use Rattle.code.specs.Laws.{CabinetsStand, Same}
use Rattle.code.proofs.Stands.{same_columns}
use Rattle.code.proofs.Theory.{proper}
use Rattle.shelf.specs.Meaning.{IsShelf, Meaning, box_count}
use Rattle.shelf.specs.Meaning.{column as box_column}
use Rattle.stripe.specs.Stripes.{StripeFile, held, stands}
use Rattle.stripe.proofs.Held.{held_same}
use Rattle.amending.specs.Amendments.{Amended}
use Rattle.amending.specs.Changes.{single}
use Rattle.vault_calls.specs.Calls.{BoxRenewed, BoxesRebuilt, Cleared, Stored}
use Rattle.vault_laws.specs.Determined.{HoldSame}
use Rattle.vault_laws.proofs.Fitting.{Fitted}
use Rattle.vault_laws.proofs.Holding.{by_columns, by_symbols}

module _ (Y : Symbols) {T : Type 0} (value : T → Y.Symbol) where
  pub set_up_shelf : (s s' s'' : Meaning T) → Cleared Y value s s' → Cleared Y value s s'' → HoldSame Y value s' s''
  set_up_shelf s s' s'' did did' =
      let boxes = did.boxes in
      by_symbols Y value s' s'' (boxes ∙ sym did'.boxes) (did.rows ∙ sym did'.rows) (λ b l. did.stand b (omega arith) ∙ sym (did'.stand b (omega arith)))
      (λ b a l e r. let row : a < s.rows = omega (arith, did.rows) in did.zero b a (omega arith) row ∙ sym (did'.zero b a (omega arith) row))

  -- a stripe has one file
  pub one_file : (m : ℕ) (s : Meaning T) (f g : File (full Y m)) → StripeFile Y value m 0 s f → StripeFile Y value m 0 s g → Same (full Y m) f g
  one_file m s f g is is' = is'.only f is.has

  module _ (m : ℕ) (s : Meaning T) (fitted : Fitted Y m s) (s' s'' : Meaning T) (sound : IsShelf s') (sound' : IsShelf s'') where
    -- shelves with as many boxes and rows as there were
    module _ (boxes : box_count s' ≡ box_count s) (boxes' : box_count s'' ≡ box_count s) (rows : s'.rows ≡ s.rows) (rows' : s''.rows ≡ s.rows) where
      by_boxes : ((b : ℕ) → b < 3 * m + 2 → stands s' b ≡ stands s'' b)
          → ((b : ℕ) → b < 3 * m + 2 → stands s' b ≡ true → Alike (full Y m) (held Y value m 0 s' b) (held Y value m 0 s'' b)) → HoldSame Y value s' s''
      by_boxes stand same =
          let count = fitted.boxes in
          by_columns Y value s' s'' (boxes ∙ sym boxes') (rows ∙ sym rows') (λ b l. stand b (omega (arith, count, boxes))) m (rows ∙ fitted.rows) sound sound'
          (λ b l. same b (omega (arith, count, boxes)))

    -- a box that has not changed
    unmoved : (b : ℕ) → box_column s' (suc b) ≡ box_column s (suc b) → box_column s'' (suc b) ≡ box_column s (suc b) → Alike (full Y m) (held Y value m 0 s' b) (held Y value m 0 s'' b)
    unmoved b e e' a w = ap (λ C. C a) (held_same Y value m 0 s' s'' b (e ∙ sym e'))

    pub put_shelf : (file : List T) → Stored Y value m s s' file → Stored Y value m s s'' file → HoldSame Y value s' s''
    put_shelf file did did' =
        by_boxes did.only.boxes did'.only.boxes did.only.rows did'.only.rows still (λ b l e a w. did.holds b l e a w ∙ sym (did'.holds b l (sym (still b l) ∙ e) a w))
      where
        still : (b : ℕ) → b < 3 * m + 2 → stands s' b ≡ stands s'' b
        still b l = did.only.stand (suc b) ∙ sym (did'.only.stand (suc b))

    -- every standing box has moved by its column of one change
    pub amend_shelf : (b a : ℕ) (x : Y.Symbol) (buffer buffer' : List T) → Amended Y value m 0 b a x s s' buffer → Amended Y value m 0 b a x s s'' buffer'
        → b < 3 * m → a < 2 ^ m → HoldSame Y value s' s''
    amend_shelf b a x buffer buffer' did did' inside row =
        let only = did.moved.only in
        let only' = did'.moved.only in
        let was : did.file b a ≡ did'.file b a = one_file m s did.file did'.file did.was did'.was b inside a row in
        by_boxes only.boxes only'.boxes only.rows only'.rows (λ d l. only.stand (suc d) ∙ sym (only'.stand (suc d)))
        (λ d l e r w.
        let stood : stands s d ≡ true = sym (only.stand (suc d)) ∙ e in
        did.moved.symbols d l stood r w
        ∙ ap (λ z. Y.ring.plus (held Y value m 0 s d r) (column (full Y m) (single Y b a (◌∸◌ Y.ring x z)) d r)) was
        ∙ sym (did'.moved.symbols d l stood r w))

    -- the halves of the other boxes are had by some file, and both columns are its own
    pub renew_shelf : CabinetsStand Y → (b : ℕ) (work : List T) (taken taken' : ℕ) (buffer buffer' : List T) → BoxRenewed Y value m s s' b work buffer taken → BoxRenewed Y value m s s'' b work buffer' taken'
        → b - 1 < 3 * m → HoldSame Y value s' s''
    renew_shelf cabinets b work taken taken' buffer buffer' did did' inside =
        by_boxes did.put_in.boxes did'.put_in.boxes did.put_in.rows did'.put_in.rows
        (λ d l. elim (cases_eq d x) [
          | inl e ↦ ap (stands s') e ∙ did.put_in.here ∙ sym (ap (stands s'') e ∙ did'.put_in.here)
          | inr n ↦ ap is_some (other d n ∙ sym (other' d n))
        ])
        (λ d l e. elim (cases_eq d x) [
          | inl e ↦ subst (λ i. Alike (full Y m) (held Y value m 0 s' i) (held Y value m 0 s'' i)) (sym e) renewed
          | inr n ↦ unmoved d (other d n) (other' d n)
        ])
      where
        x : ℕ
        x = b - 1

        other : (d : ℕ) → d ≢ x → box_column s' (suc d) ≡ box_column s (suc d)
        other d n = did.renewed.others (suc d) (λ e. n (omega arith))

        other' : (d : ℕ) → d ≢ x → box_column s'' (suc d) ≡ box_column s (suc d)
        other' d n = did'.renewed.others (suc d) (λ e. n (omega arith))

        renewed : Alike (full Y m) (held Y value m 0 s' x) (held Y value m 0 s'' x)
        renewed a w =
            let some = ((cabinets m fitted.some fitted.marks).halves x inside).exists (parts Y value (2 ^ (m - 1)) buffer) in
            let has : HasHalves (full Y m) x some.0 (parts Y value (2 ^ (m - 1)) buffer') =
            λ h l j k. some.1 h l j k ∙ did.renewed.taken h (omega arith) j k ∙ sym (did'.renewed.taken h (omega arith) j k) in
            sym (did.renewed.given some.0 some.1 a w) ∙ did'.renewed.given some.0 has a w

    pub rebuild_shelf : (restored restored' : ℕ) (buffer buffer' : List T) → BoxesRebuilt Y value m s s' buffer restored → BoxesRebuilt Y value m s s'' buffer' restored' → HoldSame Y value s' s''
    rebuild_shelf restored restored' buffer buffer' did did' =
        by_boxes did.boxes.boxes did'.boxes.boxes did.boxes.rows did'.boxes.rows (λ b l. did.boxes.stand b (inside b l) ∙ sym (did'.boxes.stand b (inside b l)))
        (λ b l e. by b l (stands s b) refl)
      where
        inside : (b : ℕ) → b < 3 * m + 2 → b < box_count s
        inside b l = omega (arith, fitted.boxes)

        file : File (full Y m)
        file = parts Y value (2 ^ m) buffer

        file' : File (full Y m)
        file' = parts Y value (2 ^ m) buffer'

        by : (b : ℕ) → b < 3 * m + 2 → (t : Bool) → stands s b ≡ t → Alike (full Y m) (held Y value m 0 s' b) (held Y value m 0 s'' b)
        by b l true e = unmoved b (did.boxes.others b e) (did'.boxes.others b e)
        by b l false e = λ a w.
            did.boxes.holds b (inside b l) e a w
            ∙ same_columns (full Y m) (proper Y m fitted.some fitted.marks) file file' (one_file m s file file' did.file did'.file) b l a w
            ∙ sym (did'.boxes.holds b (inside b l) e a w)
