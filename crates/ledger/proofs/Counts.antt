-- Boxes that are out and boxes that stand are all boxes. Assumes nothing.
use Rattle.std.proofs.Common.{◌≡◌, ℕ, zero, suc, ◌+◌, ◌≤◌, Bool, true, false, not, cond, if◌then◌else◌, nat_lt, [], ◌∷◌, ◌++◌, count_by, refl, sym, ap, ◌∙◌, arith}
use Rattle.std.specs.List.{range_with_len}
use Rattle.std.proofs.lemmas.Bool.Decides.{nat_tests}
use Rattle.std.proofs.lemmas.List.{map-id}
use Rattle.std.proofs.lemmas.List.FromFn.{map-range_with_len_more}
use Rattle.std.proofs.lemmas.List.Sums.{sum_by-append}
use Rattle.code.specs.Standing.{standing}
use Rattle.ledger.specs.Calls.{State, boxes_of, out_count, size_of, stands}
use Rattle.ledger.proofs.Tests.{Says}

range_more : (a n : ℕ) → range_with_len a (suc n) ≡ range_with_len a n ++ (a + n) ∷ []
range_more a n =
    ap (range_with_len a) (let e : suc n ≡ n + 1 = omega arith in e) ∙ sym (map-id (range_with_len a (n + 1))) ∙ map-range_with_len_more (λ x. x) a n (a + n) refl
    ∙ ap (λ xs. xs ++ (a + n) ∷ []) (map-id (range_with_len a n))

module _ (out : ℕ → Bool) where
  abbrev one : ℕ → ℕ
  one b = cond (out b) 1 0

  count_more : (n : ℕ) → count_by out (range_with_len 1 (suc n)) ≡ count_by out (range_with_len 1 n) + one (suc n)
  count_more n =
      let e : count_by out (range_with_len 1 n ++ (1 + n) ∷ []) ≡ count_by out (range_with_len 1 n) + count_by out ((1 + n) ∷ []) =
      sum_by-append (λ b. cond (out b) 1 0) (range_with_len 1 n) ((1 + n) ∷ []) in
      let k : one (1 + n) ≡ one (suc n) = ap one (omega arith) in
      ap (count_by out) (range_more 1 n) ∙ e ∙ omega arith

  -- one more box stands, or is out
  turn : (t : Bool) (c s n : ℕ) → c + s ≡ n → (c + cond t 1 0) + (if not t then suc s else s) ≡ suc n
  turn true c s n h = omega arith
  turn false c s n h = omega arith

  pub all_boxes : (n : ℕ) → count_by out (range_with_len 1 n) + standing (λ b. not (out (suc b))) n ≡ n
  all_boxes zero = refl
  all_boxes (suc n) =
      ap (λ c. c + standing (λ b. not (out (suc b))) (suc n)) (count_more n)
      ∙ turn (out (suc n)) (count_by out (range_with_len 1 n)) (standing (λ b. not (out (suc b))) n) n (all_boxes n)

module _ (s : State) where
  abbrev n : ℕ
  n = boxes_of (size_of s)

  pub three : Says (nat_lt (standing (stands s) n + 2) n) (3 ≤ out_count s)
  three = let e = all_boxes s.out n in record { if_true = λ h. grind (arith, nat_tests); if_holds = λ h. grind (arith, nat_tests) }

  pub two : Says (nat_lt (standing (stands s) n + 1) n) (2 ≤ out_count s)
  two = let e = all_boxes s.out n in record { if_true = λ h. grind (arith, nat_tests); if_holds = λ h. grind (arith, nat_tests) }
