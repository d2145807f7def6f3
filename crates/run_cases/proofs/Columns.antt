-- Columns of two rows, by their symbols and in numbers. Assumes nothing.
use Rattle.std.proofs.Common.{◌≡◌, ℕ, suc, ◌<◌, true, false, List, [], ◌∷◌, length, map, is_some, Option, Some, None, refl, sym, ap, ap₂, ◌∙◌, true≢false, arith, tests}
use Rattle.std.specs.Option.{option_map}
use Rattle.field.specs.Below.{Below}
use Rattle.code.specs.Contents.{at}
use Rattle.prime.specs.Five.{five_number, five_of, five_symbols}
use Rattle.prime.specs.declared.five.Five.{Five}
use Rattle.prime.specs.declared.five.Five.TheVariants.{Zero, One, Two, Three, Four}
use Rattle.shelf.specs.Meaning.{IsShelf, Meaning, box_count, column, is_out}
use Rattle.shelf.proofs.Meanings.{column_length}
use Rattle.shelf.specs.Rows.{rows_of}
use Rattle.stripe.specs.Stripes.{held, stands}
use Rattle.vault_laws.specs.Laws.{AgreeIn}
use Rattle.run_cases.specs.Numbers.{shown}
use Rattle.run_cases.proofs.Told.{number_is, value}

-- a box that stands, with the symbols x and y by its two rows
stood : (o : Option (List Five)) → is_some o ≡ true → ((xs : List Five) → o ≡ Some xs → length xs ≡ 2) → (x y : Below 5)
    → at five_symbols value (rows_of o 0 2) 0 ≡ x → at five_symbols value (rows_of o 0 2) 1 ≡ y → option_map (map five_number) o ≡ Some (x.0 ∷ y.0 ∷ [])
stood None there long x y e f = absurd (true≢false (sym there))
stood (Some []) there long x y e f = absurd (let two = long [] refl in omega arith)
stood (Some (a ∷ [])) there long x y e f = absurd (let two = long (a ∷ []) refl in omega arith)
stood (Some (a ∷ b ∷ [])) there long x y e f =
    ap₂ (λ n k. Some (n ∷ k ∷ [])) (sym (number_is a) ∙ ap five_symbols.number e) (sym (number_is b) ∙ ap five_symbols.number f)
stood (Some (a ∷ b ∷ c ∷ xs)) there long x y e f = absurd (let two = long (a ∷ b ∷ c ∷ xs) refl in omega arith)

module _ (s : Meaning Five) (is : IsShelf s) (rows : s.rows ≡ 2) where
  pub stands_with : (b : ℕ) (C : ℕ → Below 5) → stands s b ≡ true → ((a : ℕ) → a < 2 → held five_symbols value 1 0 s b a ≡ C a) → shown s (suc b) ≡ Some ((C 0).0 ∷ (C 1).0 ∷ [])
  stands_with b C there holds = stood (column s (suc b)) there (λ xs e. column_length s (suc b) xs is e ∙ rows) (C 0) (C 1) (holds 0 (omega arith)) (holds 1 (omega arith))

-- a box of the shelf that is out, or not
module _ (s : Meaning Five) (boxes : box_count s ≡ 5) (b : ℕ) (inside : b < 5) where
  pub out_shown : is_out s (suc b) ≡ true → shown s (suc b) ≡ None
  out_shown out = none (column s (suc b)) (let e = out in let k = boxes in grind (arith, tests))
    where
      none : (o : Option (List Five)) → is_some o ≡ false → option_map (map five_number) o ≡ None
      none None e = refl
      none (Some xs) e = absurd (true≢false e)

  pub not_out : is_out s (suc b) ≡ false → stands s b ≡ true
  not_out e = let k = boxes in grind (arith, tests)

again : (xs : List Five) → map five_of (map five_number xs) ≡ xs
again [] = refl
again (Zero ∷ xs) = ap (λ ys. Zero ∷ ys) (again xs)
again (One ∷ xs) = ap (λ ys. One ∷ ys) (again xs)
again (Two ∷ xs) = ap (λ ys. Two ∷ ys) (again xs)
again (Three ∷ xs) = ap (λ ys. Three ∷ ys) (again xs)
again (Four ∷ xs) = ap (λ ys. Four ∷ ys) (again xs)

column_again : (o : Option (List Five)) → option_map (map five_of) (option_map (map five_number) o) ≡ o
column_again None = refl
column_again (Some xs) = ap Some (again xs)

-- boxes that are shown alike hold the same
pub shown_alike : (s t : Meaning Five) (b : ℕ) → shown s (suc b) ≡ shown t (suc b) → AgreeIn five_symbols value 1 s t b
shown_alike s t b e a row =
    ap (λ o. at five_symbols value (rows_of o 0 2) a) (sym (column_again (column s (suc b))) ∙ ap (option_map (map five_of)) e ∙ column_again (column t (suc b)))

pub shown_stands : (s : Meaning Five) (b : ℕ) (xs : List ℕ) → shown s (suc b) ≡ Some xs → stands s b ≡ true
shown_stands s b xs = by (column s (suc b))
  where
    by : (o : Option (List Five)) → option_map (map five_number) o ≡ Some xs → is_some o ≡ true
    by None e = cc
    by (Some ys) e = refl
