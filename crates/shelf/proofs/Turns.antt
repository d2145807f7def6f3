-- Lemmas on the loops that read or write one row after another. Assumes nothing.
use Rattle.std.proofs.Common.{◌≡◌, ℕ, ◌+◌, ◌≤◌, ◌<◌, true, List, [], length, take, slice_set, slice_index_or, Option, Some, None, refl, sym, ap, ◌∙◌, arith, tests}
use Rattle.std.proofs.lemmas.List.{take_all}
use Rattle.std.proofs.lemmas.Option.{get_or_from_slice_get}
use Rattle.shelf.specs.Meaning.{IsShelf, Meaning, column, has_row, symbol_at, with_row, with_symbol}
use Rattle.shelf.proofs.Meanings.{change-same, symbol_at_there}
use Rattle.shelf.specs.Rows.{has_rows, overwritten, rows_at, rows_read, with_rows, with_stretch}
use Rattle.shelf.proofs.Columns.{overwritten-more, overwritten_all, overwritten_none}
use Rattle.shelf.proofs.Rows.{changed_twice, column_there, row_read, rows_counted, rows_read_there}

module _ {T : Type 0} (m : Meaning T) (b from : ℕ) where
  pub write_none : with_rows m b from [] ≡ m
  write_none = change-same m b (with_stretch from []) (by (column m b))
    where
      by : (o : Option (List T)) → with_stretch from [] o ≡ o
      by None = refl
      by (Some ys) = ap Some (overwritten_none from ys)

  -- one symbol more is written
  pub write_more : (xs : List T) (i : ℕ) (x : T) → IsShelf m → has_rows m b from (length xs) ≡ true → i < length xs → x ≡ slice_index_or xs i x
      → with_symbol (with_rows m b from (take i xs)) b (from + i) x ≡ with_rows m b from (take (i + 1) xs)
  write_more xs i x s e h r =
      let c = column_there m b from (length xs) s e in
      changed_twice m b (with_stretch from (take i xs)) (with_row (from + i) x) (with_stretch from (take (i + 1) xs))
      (ap (λ o. with_row (from + i) x (with_stretch from (take i xs) o)) c.1
      ∙ ap Some (overwritten-more from xs c.0 i x h r c.2)
      ∙ sym (ap (with_stretch from (take (i + 1) xs)) c.1))

  module _ (out : List T) (i : ℕ) where
    -- one symbol more is read
    pub read_more : (x : T) → IsShelf m → has_rows m b from (length out) ≡ true → i < length out → symbol_at m b (from + i) ≡ Some x
        → slice_set (overwritten 0 (take i (rows_at m b from (length out))) out) i x ≡ overwritten 0 (take (i + 1) (rows_at m b from (length out))) out
    read_more x s e h f =
        let k = rows_counted m b from (length out) s e in
        let r = get_or_from_slice_get (rows_at m b from (length out)) i x x (row_read m b from (length out) i h ∙ f) in
        let z : 0 + i ≡ i = omega arith in
        ap (λ j. slice_set (overwritten 0 (take i (rows_at m b from (length out))) out) j x) (sym z)
        ∙ overwritten-more 0 (rows_at m b from (length out)) out i x (omega arith) (sym r) (omega arith)

    -- each row is there
    pub read_there : IsShelf m → has_rows m b from (length out) ≡ true → i < length out → symbol_at m b (from + i) ≡ None → ⊥
    read_there s e h f =
        let t : has_row m b (from + i) ≡ true = grind (arith, tests) in
        let g = symbol_at_there m s b (from + i) t in
        let q : None ≡ Some g.0 = sym f ∙ g.1 in
        cc

    -- all are read
    pub read_all : IsShelf m → has_rows m b from (length out) ≡ true → length out ≤ i → overwritten 0 (take i (rows_at m b from (length out))) out ≡ rows_read m b from out
    read_all s e h =
        let k = rows_counted m b from (length out) s e in
        ap (λ zs. overwritten 0 zs out) (take_all i (rows_at m b from (length out)) (omega arith))
        ∙ overwritten_all (rows_at m b from (length out)) out (omega arith)
        ∙ sym (rows_read_there m b from out e)
