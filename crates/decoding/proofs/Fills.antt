-- What filling in leads to: the file has the columns of all boxes but two, and it is the one file that has them. Assumes nothing.
use Rattle.std.proofs.Common.{◌≡◌, ℕ, suc, ◌+◌, ◌<◌, ◌≤◌, ◌≢◌, Bool, nat_lt, sym, ap, ◌∙◌, inl, inr, arith, lt-ltb}
use Rattle.std.proofs.lemmas.Bool.{cases_eq, cond-true}
use Rattle.code.specs.Codes.{Code, Column, File, Alike, data_boxes}
use Rattle.code.specs.Laws.{HasColumns, Laws}
use Rattle.code.specs.Standing.{FileOf}
use Rattle.code.proofs.Columns.{column_data}
use Rattle.code.proofs.Sums.{if_same, if_other}
use Rattle.missing.specs.Missing.{Found, aside, source}
use Rattle.decoding.specs.Missing.{KeptStanding, held}
use Rattle.missing.specs.declared.Missing.{Missing}
use Rattle.missing.specs.declared.Missing.TheVariants.{Nothing, One, Two}
use Rattle.missing.proofs.Counts.{aside_first, first_apart, most_below}

module _ {A : Type 0} (c : Code A) where
  abbrev n : ℕ
  n = data_boxes c

  module _ (f : File c) (first second : Column c) where
    abbrev all : ℕ → Column c
    all = held c f first second

    held_data : (b : ℕ) → b < n → all b ≡ f b
    held_data b l = cond-true (nat_lt b n) _ _ (lt-ltb b n l)

    -- where the columns that tell the missing ones have been brought, up to place k
    pub record Brought (missing : Missing) (k : ℕ) (h : File c) : Type 0 where
      pub done : (b : ℕ) → b < k → b < n → Alike c (h b) (all (source n missing b))
      pub rest : (b : ℕ) → k ≤ b → b < n → Alike c (h b) (f b)

  -- the boxes that are left aside are two boxes
  aside_inside : (s : ℕ → Bool) (found : Missing) → Found s (n + 2) found → ((aside n found).0 < n + 2) × ((aside n found).1 < n + 2) × ((aside n found).0 ≢ (aside n found).1)
  aside_inside s Nothing h = (omega arith, omega arith, λ e. omega arith)
  aside_inside s (One x) h =
      let inside : x < n + 2 = h.0.inside in
      elim (cases_eq x (suc n)) [
        | inl e ↦ let same = if_same x (suc n) e n x in (omega arith, omega arith, λ w. omega arith)
        | inr k ↦ let other = if_other x (suc n) k n x in (omega arith, omega arith, λ w. k (sym other ∙ w))
      ]
  aside_inside s (Two x y) h =
      let beyond : x + 1 ≤ y = h.1.from in
      let inside : y < n + 2 = h.1.inside in
      (omega arith, inside, λ e. omega arith)

  pub file_of : (s : ℕ → Bool) (found : Missing) → Found s (n + 2) found → Laws c → (f : File c) (g : ℕ → Column c) → HasColumns c (aside n found).0 (aside n found).1 f g → FileOf c s g f
  file_of s found h laws f g columns =
      let i = aside_inside s found h in
      record {
        has = λ b l first. let k = first_apart s n found h b l first in columns b l k.0 k.1;
        only = λ f' fits.
            (laws.any_two (aside n found).0 (aside n found).1 i.0 i.1 i.2).only g f' f
            (λ b l x y. fits b l (aside_first s n found h b l x y)) columns;
      }

  -- each data box that stands is one of the first that do
  pub kept_of : (s : ℕ → Bool) (f g : File c) (first second : Column c) → FileOf c s (held c f first second) g → KeptStanding c s f g
  kept_of s f g first second of = record {
    each = λ b l e a k.
        sym (ap (λ C. C a) (column_data c g b l)) ∙ of.has b (omega arith) (e, omega (arith, most_below s b)) a k ∙ ap (λ C. C a) (held_data f first second b l);
  }
