-- Lemmas on a box that is renewed, and on one that is put in before. Assumes nothing.
use Rattle.std.proofs.Common.{◌≡◌, ◌≢◌, ℕ, zero, suc, ◌+◌, ◌-◌, ◌*◌, ◌^◌, ◌<◌, ◌≤◌, ◌⊎◌, true, false, ◌&&◌, ◌||◌, ◌==◌, if◌then◌else◌, nat_le, nat_lt, List, ◌++◌, map, length, replicate, slice_get, slice_index_or, Some, is_some, sym, refl, ap, ap₂, ◌∙◌, subst, inl, inr, arith, tests}
use Rattle.std.specs.Option.{IsSomeAnd}
use Rattle.std.proofs.lemmas.Bool.{cases_eq}
use Rattle.std.proofs.lemmas.List.{length-map, map-append, get_or_append_left}
use Rattle.std.proofs.lemmas.Nat.{mul-add-lt}
use Rattle.field.specs.Symbols.{Symbols}
use Rattle.code.specs.Codes.{Alike, File, Given, HasHalves, full, half_for, helper}
use Rattle.code.specs.Codes.{column as column_of}
use Rattle.code.proofs.Stands.{same_halves}
use Rattle.code.specs.Contents.{at, parts}
use Rattle.shelf.specs.Meaning.{Meaning, box_count, column, is_standing, symbol_at, symbol_of, unless_standing, with_standing}
use Rattle.shelf.proofs.Meanings.{out_column}
use Rattle.shelf.proofs.Places.{in_box-with_other, in_box-with_same, length-with_box}
use Rattle.shelf.specs.Rows.{rows_at}
use Rattle.stripe.specs.Stripes.{OnlyStripe, has_stripe, held, stands}
use Rattle.stripe.proofs.Held.{held_number, held_same}
use Rattle.renewing.specs.Renewals.{HalvesOf, OthersHold, NewBox, Renewed, others_stand}

-- the lost box is none of the helpers
not_lost : (lost h : ℕ) → 1 ≤ lost → suc (if nat_lt h (lost - 1) then h else suc h) ≢ lost
not_lost lost h l = grind (arith, tests)

-- the lost box was put in
module _ {T : Type 0} (lost : ℕ) (s t : Meaning T) (z : T) (put : t ≡ with_standing s lost z) where
  other_column : (d : ℕ) → d ≢ lost → column t d ≡ column s d
  other_column d n = ap (λ w. column w d) put ∙ in_box-with_other s.boxes lost d (unless_standing (replicate s.rows z)) (λ q. n (sym q))

  pub stripe_still : (m from : ℕ) → has_stripe m from s ≡ true → has_stripe m from t ≡ true
  stripe_still m from e =
      ap (has_stripe m from) put ∙ ap (λ n. (n == 3 * m + 2) && nat_le (from + 2 ^ m) s.rows) (length-with_box s.boxes lost (unless_standing (replicate s.rows z))) ∙ e

  module _ (first : 1 ≤ lost) where
    -- whether the others stand is what it was
    others_same : (n : ℕ) → others_stand (stands t) (lost - 1) n ≡ others_stand (stands s) (lost - 1) n
    others_same zero = refl
    others_same (suc b) = ap₂ ◌&&◌ (here (cases_eq b (lost - 1))) (others_same b)
      where
        here : (b ≡ lost - 1) ⊎ (b ≢ lost - 1) → (b == lost - 1 || stands t b) ≡ (b == lost - 1 || stands s b)
        here (inl q) = let y : (b == lost - 1) ≡ true = grind (arith, tests) in ap (λ w. w || stands t b) y ∙ sym (ap (λ w. w || stands s b) y)
        here (inr n) = ap (λ c. b == lost - 1 || is_some c) (other_column (suc b) (λ q. n (omega arith)))

    pub others_still : (n : ℕ) → others_stand (stands s) (lost - 1) n ≡ true → others_stand (stands t) (lost - 1) n ≡ true
    others_still n e = others_same n ∙ e

    module _ (m from : ℕ) (has : has_stripe m from s ≡ true) (below : lost ≤ 3 * m) (out : is_standing s lost ≡ false) where
      last : lost ≤ box_count s
      last = grind (arith, tests)

      its_column : column t lost ≡ Some (replicate s.rows z)
      its_column = ap (λ w. column w lost) put ∙ in_box-with_same s.boxes lost (unless_standing (replicate s.rows z)) first last ∙ ap (unless_standing (replicate s.rows z)) (out_column s lost out)

      pub stands_now : is_standing t lost ≡ true
      stands_now = ap is_some its_column

module _ (Y : Symbols) {T : Type 0} (v : T → Y.Symbol) where
  -- parts that lie in front
  front : (n k : ℕ) (xs ys : List T) → length xs ≡ k * n → (h : ℕ) → h < k → (j : ℕ) → j < n → parts Y v n (xs ++ ys) h j ≡ parts Y v n xs h j
  front n k xs ys e h l j w =
      let inside : h * n + j < length (map v xs) = simp length-map (omega (arith, e, mul-add-lt h n j k l w)) in
      ap (λ zs. slice_index_or zs (h * n + j) Y.ring.zero) (map-append v xs ys) ∙ get_or_append_left (map v xs) (map v ys) Y.ring.zero (h * n + j) inside

  -- where the others hold a file's columns, the column given is that of the file
  of_file : (m from x : ℕ) (s : Meaning T) (g : ℕ → ℕ → Y.Symbol) (C : ℕ → Y.Symbol) → 1 ≤ m → x < 3 * m → HalvesOf Y v m from x s g → Given (full Y m) x g C
      → (f : File (full Y m)) → OthersHold Y v m from x s f → Alike (full Y m) C (f x)
  of_file m from x s g C some inside taken given f others a l =
      sym (given f has a l)
    where
      has : HasHalves (full Y m) x f g
      has h w j q =
          let b = helper (full Y m) x h in
          let apart : b ≢ x = grind (arith, tests) in
          let below : b < 3 * m + 2 = grind (arith, tests) in
          same_halves (full Y m) some x (column_of (full Y m) f b) (held Y v m from s b) (λ r k. sym (others b below apart r k)) j q ∙ sym (taken h (omega arith) j q)

  module _ (m from lost : ℕ) (first : 1 ≤ lost) where
    -- the halves xs were taken, and the lost box was given the column that they give
    pub renewed : (s t u : Meaning T) (xs ys : List T) → length xs ≡ (3 * m + 1) * 2 ^ (m - 1) → t ≡ s → HalvesOf Y v m from (lost - 1) s (parts Y v (2 ^ (m - 1)) xs)
        → Given (full Y m) (lost - 1) (parts Y v (2 ^ (m - 1)) xs) (at Y v (rows_at u lost from (2 ^ m))) → ((d : ℕ) → d ≢ lost → column u d ≡ column t d) → 1 ≤ m → lost ≤ 3 * m
        → Renewed Y v m from (lost - 1) (parts Y v (2 ^ (m - 1)) (xs ++ ys)) s u
    renewed s t u xs ys e et taken given others some below =
        let before = front (2 ^ (m - 1)) (3 * m + 1) xs ys e in
        let here = held_number Y v m from u lost first in
        record {
          taken = λ h w j l. before h w j l ∙ taken h w j l;
          given = λ f has a l. given f (λ h w j q. has h w j q ∙ before h (omega arith) j q) a l ∙ sym (ap (λ C. C a) here);
          others = λ d n. others d (λ q. n (omega arith)) ∙ ap (λ w. column w d) et;
          file = λ f hold a l. ap (λ C. C a) here ∙ of_file m from (lost - 1) s _ _ some (omega arith) taken given f hold a l;
        }

    module _ (s t u : Meaning T) (z : T) (put : t ≡ with_standing s lost z) where
      -- the halves of the others are what they were before the box was put in
      pub renewed_out : (g : ℕ → ℕ → Y.Symbol) → Renewed Y v m from (lost - 1) g t u → Renewed Y v m from (lost - 1) g s u
      renewed_out g r = record {
        taken = λ h w j l.
            r.taken h w j l
            ∙ ap (λ C. half_for (full Y m) (lost - 1) C j)
            (held_same Y v m from t s (helper (full Y m) (lost - 1) h) (other_column lost s t z put (suc (helper (full Y m) (lost - 1) h)) (not_lost lost h first)));
        given = r.given;
        others = λ d n. r.others d n ∙ other_column lost s t z put d (λ q. n (omega arith));
        file = λ f hold. r.file f λ b l n a w. ap (λ C. C a) (held_same Y v m from t s b (other_column lost s t z put (suc b) (λ q. n (omega arith)))) ∙ hold b l n a w;
      }

      pub put_in : has_stripe m from s ≡ true → lost ≤ 3 * m → is_standing s lost ≡ false → v z ≡ Y.ring.zero → OnlyStripe m from t u → NewBox Y v m from (lost - 1) s u
      put_in has below out none only =
          let e : suc (lost - 1) ≡ lost = omega arith in
          record {
            boxes = only.boxes ∙ ap box_count put ∙ length-with_box s.boxes lost (unless_standing (replicate s.rows z));
            rows = only.rows ∙ ap (λ w. w.rows) put;
            here = only.stand (suc (lost - 1)) ∙ ap (is_standing t) e ∙ stands_now lost s t z put first m from has below out;
            outside = λ a l w.
                let there : symbol_at u (suc (lost - 1)) a ≡ Some z =
                only.elsewhere (suc (lost - 1)) a w ∙ ap (λ d. symbol_at t d a) e
                ∙ ap (λ c. symbol_of c a) (its_column lost s t z put first m from has below out) ∙ filled s.rows z a l
                in subst (λ o. IsSomeAnd o (λ y. v y ≡ Y.ring.zero)) (sym there) none;
          }
        where
          filled : (n : ℕ) (x : T) (i : ℕ) → i < n → slice_get (replicate n x) i ≡ Some x
          filled zero x i h = absurd (omega arith)
          filled (suc n) x zero h = refl
          filled (suc n) x (suc i) h = filled n x i (omega arith)
